-- The chains of a table: where a slot's card goes, whose card comes, the first slot and the last of a factor. Assumes nothing.
use mathlib.Core.Path.{◌≡◌, refl, sym, ap, ◌∙◌}
use mathlib.Core.Logic.{◌≢◌, ◌⊎◌, inl, inr}
use mathlib.Core.Bool.{Bool, true, false}
use mathlib.Core.List.{List, ◌∷◌}
use Prim.Native.Nat.{ℕ, zero, suc, ◌≤◌, ◌<◌}
use native.Mathlib.Omega.{arith}
use native.Mathlib.Decide.{ℕ_discrete}
use lib.ListN.{length}
use borrow.Author.Tests.{eqb-true, eq-eqb, ne_eqb}
use Rattle.counting.specs.Count.{seek}
use Rattle.counting.specs.Lists.{last}
use Rattle.counting.proofs.Tests.{by-test, no_way}
use Rattle.racks.specs.Limits.{FREE}
use Rattle.racks.specs.Racks.{Rack, slots}
use Rattle.racks.specs.Table.{dest, free, names}
use Rattle.racks.specs.parts.Legal.{Legal}
use Rattle.racks.proofs.Table.{dest-has}
use Rattle.racks.proofs.LegalTable.{legal-dest}
use Rattle.factors.specs.Copies.{source, onward, back, on_cycle, head}
use Rattle.factors.specs.parts.Chains.{Chained}
use Rattle.counting.specs.Every.{In, Distinct}
use Rattle.factors.proofs.Members.{last_in, pigeon}
use Rattle.factors.proofs.Walks.{Ends, Path, Undoes, after_path, walk_distinct, walk-low, walk_ends, turns-back}

-- a legal table of at most 4,096 slots
pub chained : {racks : List Rack} {places : List ℕ} → Legal racks places → slots racks ≤ 4096 → Chained places
unfolding free
chained {racks} {places} v few =
    record {
      small = omega (arith, v.long);
      below = λ x q. omega (arith, legal-dest racks places v x (has x q) (held x q), v.long);
      once = λ x y e q. v.once x y (has x q) (has y (λ z. q (e ∙ z))) (held x q) e;
    }
  where
    has : (x : ℕ) → dest places x ≢ FREE → x < slots racks
    has x q = omega (arith, dest-has places x q, v.long)

    held : (x : ℕ) → dest places x ≢ FREE → free places x ≡ false
    held x q = ne_eqb (dest places x) FREE q

module _ (other : ℕ) (f : ℕ → Bool) where
  -- what is found is a hit
  pub seek_hit : (n : ℕ) → seek other n f ≢ other → (f (seek other n f) ≡ true) × (seek other n f < n)
  unfolding seek
  seek_hit zero h = absurd (h refl)
  seek_hit (suc n) h = by-test (f n)
      (λ t. rw t (t, omega arith))
      (λ t. let q = seek_hit n (rw t at h) in rw t (q.0, omega (arith, q.1)))

  -- where there is a hit below `other`, one is found
  pub seek_found : (n k : ℕ) → n ≤ other → k < n → f k ≡ true → seek other n f ≢ other
  unfolding seek
  seek_found zero k l h t = absurd (omega arith)
  seek_found (suc n) k l h t = by-test (f n)
      (λ u. rw u (omega arith))
      (λ u. elim (ℕ_discrete k n) [ yes e ↦ absurd (no_way (rw e at t) u) | no e ↦ rw u (seek_found n k (omega arith) (omega arith) t) ])

module _ {places : List ℕ} (ok : Chained places) where
  named-at : (x : ℕ) → names places (dest places x) x ≡ true
  unfolding names
  named-at x = eq-eqb (dest places x) (dest places x) refl

  -- a source is a slot, and its card is bound for d
  source-hit : (d : ℕ) → source places d ≢ FREE → (names places d (source places d) ≡ true) × (source places d < length places)
  unfolding source
  source-hit d h = seek_hit FREE (names places d) (length places) h

  -- a source is a slot
  pub source-low : (d : ℕ) → source places d ≢ FREE → source places d < length places
  source-low d h = (source-hit d h).1

  -- `dest` undoes `source`
  pub dest-source : Undoes (dest places) (source places)
  unfolding names
  dest-source d h = eqb-true _ _ (source-hit d h).0

  -- `source` undoes `dest`
  pub source-dest : Undoes (source places) (dest places)
  unfolding source
  source-dest x q =
      let found : source places (dest places x) ≢ FREE = seek_found FREE (names places (dest places x)) (length places) x (omega (arith, ok.small)) (dest-has places x q) (named-at x) in
      sym (ok.once x (source places (dest places x)) (sym (dest-source (dest places x) found)) q)

  module _ (x : ℕ) (low : x < length places) where
    -- the slots of a chain are slots of the table, all different
    pub onward-low : (v : ℕ) → In v (x ∷ onward places x) → v < length places
    unfolding onward
    onward-low v m = walk-low (dest places) (source places) source-dest x (length places) ok.below low v m

    -- no slot of a chain comes twice
    pub onward_distinct : Distinct (x ∷ onward places x)
    unfolding onward
    onward_distinct = walk_distinct (dest places) (source places) source-dest x (length places)

    -- each is where the card of the one before goes
    pub onward_path : Path (dest places) x x (onward places x)
    unfolding onward
    onward_path = after_path (dest places) x (length places) x

    -- it ends at a free slot, or where it began
    pub onward-ends : Ends x (dest places (last x (onward places x)))
    unfolding onward
    onward-ends = walk_ends (dest places) (source places) source-dest x (length places) ok.below low

    -- the last slot of a chain is a slot of the table
    pub onward-end : last x (onward places x) < length places
    onward-end = onward-low (last x (onward places x)) (last_in x (onward places x))

    -- the way on has fewer slots than the table
    pub onward-short : length (onward places x) < length places
    onward-short = pigeon (length places) (x ∷ onward places x) onward_distinct onward-low

    back_low : (v : ℕ) → In v (x ∷ back places x) → v < length places
    unfolding back
    back_low v m = walk-low (source places) (dest places) dest-source x (length places) source-low low v m

    -- on the way back each slot is the source of the one before
    pub back_path : Path (source places) x x (back places x)
    unfolding back
    back_path = after_path (source places) x (length places) x

    -- the way back ends where no card comes, or where it began
    pub back-ends : Ends x (source places (last x (back places x)))
    unfolding back
    back-ends = walk_ends (source places) (dest places) dest-source x (length places) source-low low

    -- the way back has fewer slots than the table
    pub back-short : length (back places x) < length places
    unfolding back
    back-short = pigeon (length places) (x ∷ back places x) (walk_distinct (source places) (dest places) dest-source x (length places)) back_low

    cycle-back : dest places (last x (onward places x)) ≡ x → source places (last x (back places x)) ≡ x
    unfolding onward back
    cycle-back = turns-back (dest places) (source places) source-dest dest-source x (length places) (omega (arith, ok.small)) ok.below source-low low

    back-cycle : source places (last x (back places x)) ≡ x → dest places (last x (onward places x)) ≡ x
    unfolding onward back
    back-cycle = turns-back (source places) (dest places) dest-source source-dest x (length places) (omega (arith, ok.small)) source-low ok.below low

    -- the way on comes to x again: x is the first slot of its factor
    pub on-cycle : dest places (last x (onward places x)) ≡ x → head places x ≡ x
    unfolding head on_cycle
    on-cycle e = rw (eq-eqb (dest places (last x (onward places x))) x e)

    off-cycle : dest places (last x (onward places x)) ≢ x → head places x ≡ last x (back places x)
    unfolding head on_cycle
    off-cycle q = rw (ne_eqb (dest places (last x (onward places x))) x q)

    -- the way back comes to x again: x is the first slot of its factor, a cycle
    pub head-cycle : source places (last x (back places x)) ≡ x → head places x ≡ x
    head-cycle e = on-cycle (back-cycle e)

    -- the way back ends: there the factor, a shift, begins
    pub head-shift : source places (last x (back places x)) ≢ x → head places x ≡ last x (back places x)
    head-shift q = off-cycle (λ e. q (cycle-back e))

    -- the first slot of x's factor: x, on a cycle; or where the way back ends, and no card comes
    pub head-cases : ((head places x ≡ x) × (dest places (last x (onward places x)) ≡ x)) ⊎ ((head places x ≡ last x (back places x)) × (source places (head places x) ≡ FREE))
    head-cases = elim (ℕ_discrete (source places (last x (back places x))) x) [
      | yes e ↦ inl (head-cycle e, back-cycle e)
      | no q ↦ inr (head-shift q, ap (source places) (head-shift q) ∙ elim back-ends [ inl u ↦ u | inr u ↦ absurd (q u) ])
    ]

    -- the first slot of a factor is a slot of the table
    pub head-low : head places x < length places
    head-low = elim head-cases [
      | inl e ↦ rw e.0 low
      | inr e ↦ rw e.0 (back_low (last x (back places x)) (last_in x (back places x)))
    ]

  -- where a chain comes to its beginning again, its last slot's card comes there
  pub cycle_source : (x : ℕ) → x < length places → dest places (last x (onward places x)) ≡ x → source places x ≡ last x (onward places x)
  cycle_source x low e = ap (source places) (sym e) ∙ source-dest (last x (onward places x)) (rw e (omega (arith, ok.small)))

  -- where no card comes to its beginning, it is a shift
  pub shift-ends : (x : ℕ) → x < length places → source places x ≡ FREE → dest places (last x (onward places x)) ≡ FREE
  shift-ends x low e = elim (onward-ends x low) [
    | inl u ↦ u
    | inr u ↦ let m = onward-end x low in absurd (omega (arith, sym (cycle_source x low u) ∙ e, ok.small))
  ]

  -- from the first slot of a factor: where a card comes there, the factor is a cycle
  pub cycle-ends : (x : ℕ) → x < length places → source places (head places x) ≢ FREE → dest places (last (head places x) (onward places (head places x))) ≡ head places x
  cycle-ends x low q = elim (head-cases x low) [
    | inl e ↦ rw e.0 e.1
    | inr e ↦ absurd (q e.1)
  ]
