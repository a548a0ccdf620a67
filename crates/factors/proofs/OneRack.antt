-- When nothing is away, all slots of a factor are on one rack. Assumes nothing.
use mathlib.Core.Path.{◌≡◌, sym, ap, ◌∙◌}
use mathlib.Core.Logic.{◌≢◌, inl, inr}
use mathlib.Core.Bool.{false}
use mathlib.Core.List.{List, [], ◌∷◌}
use Prim.Native.Nat.{ℕ, ◌≤◌, ◌<◌}
use native.Mathlib.Omega.{arith}
use native.Mathlib.Decide.{ℕ_discrete}
use lib.ListN.{length}
use borrow.Author.Tests.{ne_eqb}
use Rattle.counting.proofs.Tests.{no_way}
use Rattle.counting.proofs.Some.{some-off}
use Rattle.racks.specs.Limits.{FREE}
use Rattle.racks.specs.Racks.{Rack, slots, rack_of}
use Rattle.racks.specs.Table.{dest, free, rack_to, away}
use Rattle.racks.specs.Numbers.{some_away}
use Rattle.racks.specs.parts.Legal.{Legal}
use Rattle.racks.proofs.Away.{away-is}
use Rattle.racks.proofs.Table.{dest-has}
use Rattle.factors.specs.Copies.{onward, head, factor}
use Rattle.counting.specs.Every.{In}
use Rattle.factors.proofs.Walks.{Path}
use Rattle.factors.proofs.Chains.{chained}
use Rattle.factors.proofs.Factors.{self_in, factor_path}

module _ {racks : List Rack} {places : List ℕ} (v : Legal racks places) (few : slots racks ≤ 4096) (home : some_away racks places ≡ false) where
  -- no card leaves its rack
  dest-rack : (g : ℕ) → dest places g ≢ FREE → rack_of racks (dest places g) ≡ rack_of racks g
  unfolding some_away free rack_to
  dest-rack g q =
      let m : g < slots racks = omega (arith, dest-has places g q, v.long) in
      elim (ℕ_discrete (rack_of racks g) (rack_of racks (dest places g))) [
        | yes i ↦ sym i
        | no i ↦ absurd (no_way (away-is racks places g (ne_eqb (dest places g) FREE q) i) (some-off (slots racks) (away racks places) home g m))
      ]

  path-rack : (s x w : ℕ) (l : List ℕ) → Path (dest places) s x l → In w (x ∷ l) → rack_of racks w ≡ rack_of racks x
  path-rack s x w [] p (inr m) = elim m [ ]
  path-rack s x w [] p (inl e) = ap (rack_of racks) e
  path-rack s x w (y ∷ l) p (inl e) = ap (rack_of racks) e
  path-rack s x w (y ∷ l) p (inr m) = path-rack s y w l p.3 m ∙ ap (rack_of racks) (sym p.0) ∙ dest-rack x (rw p.0 p.1)

  -- all slots of a slot's factor are on its rack
  pub one-rack : (k w : ℕ) → k < slots racks → In w (factor places k) → rack_of racks w ≡ rack_of racks k
  unfolding factor
  one-rack k w l m =
      let ok = chained v few in
      let low : k < length places = omega (arith, v.long) in
      let h : ℕ = head places k in
      path-rack h h w (onward places h) (factor_path ok k low) m ∙ sym (path-rack h h k (onward places h) (factor_path ok k low) (self_in ok k low))
