-- Laws of `opens`, the slots of a set from one on: whether there is one, the first of them and those behind it. Assumes nothing.
use mathlib.Core.Path.{◌≡◌, sym, ◌∙◌}
use mathlib.Core.Bool.{true, false}
use mathlib.Core.List.{List, [], ◌∷◌, ◌++◌}
use Prim.Native.Nat.{ℕ, ◌+◌, ◌≤◌, ◌<◌}
use native.Mathlib.Omega.{arith}
use native.Mathlib.Numerals.{add-one}
use native.Mathlib.Decide.{dec_lt}
use lib.ListN.{length}
use lib.Dec.{leb}
use borrow.Author.Tests.{le-leb, lt-leb, leb-true}
use Rattle.counting.specs.Tests.{◌and◌}
use Rattle.counting.specs.Count.{select}
use Rattle.counting.proofs.Tests.{and_l, and_r, and-off_l}
use Rattle.counting.proofs.Count.{count-some, count_le}
use Rattle.counting.proofs.Select.{select-none, select-split, length-select}
use Rattle.bits.specs.parts.Bits.{is_on, NextOn}
use Rattle.queues.specs.parts.Queues.{open_from, opens}

module _ (bits : List ℕ) (low g : ℕ) where
  -- no slot below the first counts
  pub open-below : g < low → open_from bits low g ≡ false
  unfolding open_from
  open-below l = and-off_l (is_on bits g) (lt-leb low g l)

  -- from it on, a slot counts that is in the set
  pub open_above : low ≤ g → open_from bits low g ≡ is_on bits g
  unfolding open_from ◌and◌
  open_above l = rw (le-leb low g l)

-- where some are left, one is in the set
pub open-some : (bits : List ℕ) (low high : ℕ) → 0 < length (opens bits low high) → (k : ℕ) × (low ≤ k) × (k < high) × (is_on bits k ≡ true)
unfolding opens open_from
open-some bits low high l =
    let (k, m, e) = count-some high (open_from bits low) (omega (arith, length-select high (open_from bits low))) in
    (k, leb-true low k (and_l (is_on bits k) e), m, and_r (leb low k) e)

-- they are no more than slots
pub open-few : (bits : List ℕ) (low high : ℕ) → length (opens bits low high) ≤ high
unfolding opens
open-few bits low high = omega (arith, length-select high (open_from bits low), count_le high (open_from bits low))

-- those up to a slot, and those behind it
pub open-split : (bits : List ℕ) (low middle high : ℕ) → low ≤ middle → middle ≤ high → opens bits low high ≡ opens bits low middle ++ opens bits middle high
unfolding opens
open-split bits low middle high l m =
    select-split middle high (open_from bits low) (open_from bits middle) m (open-below bits middle)
    (λ g i _. open_above bits low g (omega arith) ∙ sym (open_above bits middle g i))

-- t is the next of the set from low on
module _ (bits : List ℕ) {low t : ℕ} (o : NextOn (is_on bits) low 4096 t) where
  -- none lies before it
  before : (g : ℕ) → g < t → open_from bits low g ≡ false
  before g l = elim (dec_lt g low) [
    | yes m ↦ open-below bits low g m
    | no m ↦ open_above bits low g (omega arith) ∙ o.passed g (omega arith) l
  ]

  -- it is the first
  pub open-first : (high : ℕ) → t < high → high ≤ 4096 → opens bits low high ≡ t ∷ opens bits (t + 1) high
  unfolding opens select
  open-first high l m =
      select-split (t + 1) high (open_from bits low) (open_from bits (t + 1)) (omega arith) (open-below bits (t + 1))
      (λ g i _. open_above bits low g (omega (arith, o.up)) ∙ sym (open_above bits (t + 1) g i))
      ∙ rw only
    where
      only : select (t + 1) (open_from bits low) ≡ t ∷ []
      only = rw (add-one t, open_above bits low t o.up, o.hit (omega arith), select-none t (open_from bits low) before)
