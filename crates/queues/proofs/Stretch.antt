-- A queue's stretch of the list: one slot more at its end, and a store elsewhere. Assumes nothing.
use mathlib.Core.Path.{◌≡◌, sym, ap, ◌∙◌}
use mathlib.Core.List.{List, [], ◌∷◌, ◌++◌}
use Prim.Native.Nat.{ℕ, zero, suc, ◌+◌, ◌≤◌, ◌<◌}
use native.Mathlib.Nat.{zero-add, suc-add}
use native.Mathlib.Omega.{arith}
use native.Mathlib.Numerals.{add-one}
use native.Mathlib.Decide.{dec_le}
use lib.ListN.{length, take, drop, set}
use lib.Seq.{length-take-le, drop-append-le, take-suc-set, take-set-le, take-set-lt, drop-set-lt, slice_empty, take-nil, take-take, drop-drop}
use Rattle.queues.specs.parts.Queues.{part}

-- a queue that ends where it begins is empty
pub part_none : (l : List ℕ) (low : ℕ) → part l low low ≡ []
unfolding part
part_none l low = slice_empty low l

-- a store at the end of a queue, which is then one longer
pub part_push : (l : List ℕ) (low high x : ℕ) → low ≤ high → high < length l → part (set l high x) low (high + 1) ≡ part l low high ++ x ∷ []
unfolding part
part_push l low high x k h =
    ap (λ (n : ℕ). drop low (take n (set l high x))) (add-one high)
    ∙ ap (drop low) (take-suc-set l high x h)
    ∙ drop-append-le low (take high l) (x ∷ []) (omega (arith, length-take-le high l (omega arith)))

-- a store behind a queue does not touch it
pub part-before : (l : List ℕ) (low high i x : ℕ) → high ≤ i → part (set l i x) low high ≡ part l low high
unfolding part
part-before l low high i x h = ap (drop low) (take-set-le high l i x h)

-- nor does one in front of it
pub part-behind : (l : List ℕ) (low high i x : ℕ) → i < low → part (set l i x) low high ≡ part l low high
unfolding part
part-behind l low high i x h = elim (dec_le high i) [
  | yes m ↦ ap (drop low) (take-set-le high l i x m)
  | no m ↦ ap (drop low) (take-set-lt high l i x (omega arith)) ∙ drop-set-lt low (take high l) i x h
]

-- what lies from low on in the first low and k is the first k of what lies from low on
take-drop : (low k : ℕ) (l : List ℕ) → drop low (take (low + k) l) ≡ take k (drop low l)
take-drop zero k l = rw zero-add
take-drop (suc low) k [] = rw (take-nil {A = ℕ} (suc low + k), take-nil {A = ℕ} k)
take-drop (suc low) k (x ∷ l) = rw suc-add (take-drop low k l)

-- the first k of a queue
pub part-take : (l : List ℕ) (low high k : ℕ) → low + k ≤ high → part l low (low + k) ≡ take k (part l low high)
unfolding part
part-take l low high k h = ap (drop low) (sym (take-take (low + k) high l h)) ∙ take-drop low k (take high l)

-- a queue without its first k
pub part-drop : (l : List ℕ) (low high k : ℕ) → part l (low + k) high ≡ drop k (part l low high)
unfolding part
part-drop l low high k = sym (drop-drop k low (take high l))
