-- Laws of arrows: a slot and an arrow as code writes them, the arrows of a list one by one, how long they are. Assumes nothing.
use mathlib.Core.Path.{◌≡◌, refl}
use mathlib.Core.List.{List, [], ◌∷◌}
use Prim.Native.Nat.{ℕ, zero, suc, ◌+◌, ◌*◌, ◌/◌, ◌≤◌, ◌<◌}
use native.Mathlib.Numerals.{add-one}
use native.Mathlib.Omega.{arith}
use native.Mathlib.Decide.{ℕ_discrete}
use borrow.Author.Tests.{eq-eqb, ne_eqb}
use lib.ListN.{length, get_or, length-append}
use Rattle.counting.specs.Lists.{Pair, join, each}
use Rattle.counting.specs.Every.All.{none, more}
use Rattle.racks.specs.Limits.{HAND}
use Rattle.carrying.specs.parts.Carrying.{unflat, Slots, AllSlots}
use Rattle.texts.specs.Text.{text, decimal}
use Rattle.texts.specs.Lines.{slot_text, arrow}
use Rattle.texts.proofs.Digits.{length-decimal-5}

-- the hand
pub slot-hand : (x : ℕ) → x ≡ HAND → slot_text x ≡ text "h"
unfolding slot_text
slot-hand x e = rw (eq-eqb x HAND e)

-- a slot that is not the hand
pub slot-other : (x : ℕ) → (x ≡ HAND → ⊥) → slot_text x ≡ decimal x
unfolding slot_text
slot-other x n = rw (ne_eqb x HAND n)

-- a slot has at most 5 bytes
pub length-slot : (x : ℕ) → x < 65536 → length (slot_text x) ≤ 5
length-slot x h = elim (ℕ_discrete x HAND) [
  | yes e ↦ rw (slot-hand x e) (omega arith)
  | no n ↦ rw (slot-other x n) (length-decimal-5 x (omega arith))
]

-- an arrow is as long as its two slots, with two bytes more
pub length-arrow : (f t : ℕ) → length (arrow (f, t)) ≡ 2 + length (slot_text f) + length (slot_text t)
unfolding arrow
length-arrow f t = simp length-append (omega arith)

-- an arrow has at most 12 bytes
pub arrow-small : (m : Pair) → Slots 65536 m → length (arrow m) ≤ 12
arrow-small m s = omega (arith, length-arrow m.0 m.1, length-slot m.0 s.from_lt, length-slot m.1 s.to_lt)

-- and so has each of several
pub arrows-small : (ms : List Pair) → AllSlots 65536 ms → length (join (each arrow ms)) ≤ 12 * length ms
unfolding join each
arrows-small [] none = omega arith
arrows-small (m ∷ ms) (more p r) = simp length-append (omega (arith, arrow-small m p, arrows-small ms r))

-- a list of numbers has half as many pairs
pub unflat-long : (list : List ℕ) → length (unflat list) ≡ length list / 2
unfolding unflat
unflat-long [] = refl
unflat-long (x ∷ []) = refl
unflat-long (x ∷ (y ∷ list)) = omega (arith, unflat-long list)

-- pair i is of its numbers 2 i and 2 i + 1
pub unflat-at : (list : List ℕ) (i : ℕ) → i < length list / 2 → get_or (unflat list) i (0, 0) ≡ (get_or list (2 * i) 0, get_or list (2 * i + 1) 0)
unfolding unflat
unflat-at [] i h = absurd (omega arith)
unflat-at (x ∷ []) i h = absurd (omega arith)
unflat-at (x ∷ (y ∷ list)) zero h = refl
unflat-at (x ∷ (y ∷ list)) (suc i) h =
    let e : 2 * suc i ≡ suc (suc (2 * i)) = omega arith in
    rw (e, add-one) (rw add-one at (unflat-at list i (omega arith)))
