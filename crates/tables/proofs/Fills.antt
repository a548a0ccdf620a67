-- Laws of counting to a slot's rack, and of filling the racking, each slot's rack. Assumes nothing.
use mathlib.Core.Path.{◌≡◌, ap, sym, ◌∙◌}
use mathlib.Core.List.{List}
use Prim.Native.Nat.{ℕ, suc, ◌+◌, ◌≤◌, ◌<◌}
use native.Mathlib.Omega.{arith}
use native.Mathlib.Decide.{dec_lt}
use lib.Dec.{leb}
use lib.ListN.{length, get_or}
use Rattle.counting.specs.Tests.{bit}
use Rattle.counting.specs.Count.{count}
use Rattle.counting.proofs.Tests.{bit_le}
use Rattle.counting.proofs.Count.{count_none, count-more}
use Rattle.racks.specs.Racks.{Rack, base, slots, ends_by, rack_of}
use Rattle.racks.proofs.Geometry.{rack-is}
use Rattle.entries.specs.parts.Marks.{FilledFrom}

-- of the first p racks, n end at slot g or before
pub record Ended (racks : List Rack) (g p n : ℕ) : Type 0 where
  pub few : n ≤ p
  pub count-is : n ≡ count p (ends_by racks g)

module _ (racks : List Rack) (g : ℕ) where
  pub ended-none : Ended racks g 0 0
  ended-none = record { few = omega arith; count-is = sym (count_none (ends_by racks g)) }

  -- one rack more: x is whether it does, by where it ends
  pub ended-more : (p n end x : ℕ) → Ended racks g p n → end ≡ base racks (suc p) → x ≡ bit (leb end g) → Ended racks g (p + 1) (n + x)
  unfolding ends_by
  ended-more p n end x e ee ex =
      let y : x ≡ bit (ends_by racks g p) = ex ∙ ap (λ (k : ℕ). bit (leb k g)) ee in
      record {
        few = omega (arith, e.few, bit_le x (ends_by racks g p) y);
        count-is = omega (arith, e.count-is, y, count-more p (ends_by racks g));
      }

  -- all racks are counted
  pub ended-all : (p n : ℕ) → p ≡ length racks → Ended racks g p n → n ≡ rack_of racks g
  unfolding rack_of
  ended-all p n e h = h.count-is ∙ ap (λ (k : ℕ). count k (ends_by racks g)) e

-- the slots below n have their racks
abbrev pub FilledTo : List Rack → ℕ → List ℕ → Type 0
FilledTo racks n t = (g : ℕ) → g < n → get_or t g 0 ≡ rack_of racks g

-- one rack more
module _ (racks : List Rack) (small : slots racks ≤ 4096) (p low high : ℕ) (l : p < length racks) (el : low ≡ base racks p) (eh : high ≡ base racks (suc p)) where
  pub filled_more : (before t : List ℕ) → FilledTo racks low before → FilledFrom low high p before t → FilledTo racks high t
  filled_more before t f b g h = elim (dec_lt g low) [
    | yes m ↦ b.below g m ∙ f g m
    | no m ↦ b.inside g (omega arith) h ∙ sym (rack-is racks p g l (omega arith) (omega arith))
  ]
