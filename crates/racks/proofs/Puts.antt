-- Items put into a part of a list, as `sets` says it: one after another, or all at once. Assumes nothing.
use mathlib.Core.Path.{◌≡◌, sym, ap, ◌∙◌}
use mathlib.Core.List.{List, [], ◌∷◌, ◌++◌, append_assoc}
use Prim.Native.Nat.{ℕ, ◌+◌, ◌-◌, ◌≤◌, ◌<◌}
use native.Mathlib.Numerals.{add-one}
use native.Mathlib.Omega.{arith}
use lib.ListN.{length, take, set, get_or}
use lib.Seq.{sets, sets-eq, take-suc, length-take-le}
use borrow.Rule.Slice.PartMut.{put_mid, Post-is}
use Rattle.counting.proofs.Stores.{sets-append}

-- an item put behind those that stand
pub sets-more : {A : Type 0} (out items : List A) (at i : ℕ) (x : A) → i < length items → x ≡ get_or items i x
    → set (sets out at (take i items)) (at + i) x ≡ sets out at (take (i + 1) items)
sets-more out items at i x h is =
    sym
    (
    rw (add-one, take-suc items i x)
    (sets-append out at (take i items) (get_or items i x ∷ []) ∙ rw (length-take-le i items (omega arith)) (ap (set (sets out at (take i items)) (at + i)) (sym is)))
    )

-- the part from `at` on, as long as the items, replaced by them
pub sets-mid : {A : Type 0} (out items : List A) (at : ℕ) → at + length items ≤ length out → put_mid at (at + length items - at) out items ≡ sets out at items
sets-mid out items at fits =
    ap (λ (rest : List _). take at out ++ (items ++ rest)) (Post-is at (at + length items) out (omega arith)) ∙ sym (append_assoc (take at out) items _) ∙ sym (sets-eq items out at fits)
