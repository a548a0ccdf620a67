-- Copies added to a tally one at a time. Assumes nothing.
use mathlib.Core.Path.{◌≡◌, refl, sym, ap, ◌∙◌}
use mathlib.Core.Logic.{◌≢◌}
use Prim.Native.Nat.{ℕ, ◌+◌}
use native.Mathlib.Omega.{arith}
use Rattle.answers.specs.Answers.{plus_copy, plus_copies}
use Rattle.answers.specs.declared.Tally.{Tally}
use Rattle.racks.specs.Limits.{FREE}
use Rattle.factors.specs.parts.Walks.{walk_count}
use Rattle.factors.proofs.Walked.{count-shift, count-hand}

abbrev with-copies : Tally → ℕ → Tally
with-copies t n = record { phases = t.phases; moves = t.moves; copies = n }

-- none is added
pub plus_none : (t : Tally) (n : ℕ) → n ≡ 0 → t ≡ plus_copies n t
plus_none t n z = let e : t.copies ≡ t.copies + n = omega arith in ap (with-copies t) e

-- the copies that the tally has then
pub plus-count : (t s : Tally) (n : ℕ) → s ≡ plus_copies n t → s.copies ≡ t.copies + n
plus-count t s n e = ap (λ (u : Tally). u.copies) e

-- some, and then others
pub plus-both : (t s r : Tally) (m n k : ℕ) → s ≡ plus_copies m t → r ≡ plus_copies n s → k ≡ m + n → r ≡ plus_copies k t
plus-both t s r m n k p q e = let a : t.copies + m + n ≡ t.copies + k = omega arith in q ∙ ap (plus_copies n) p ∙ ap (with-copies t) a

-- the copies of a factor
module _ (t : Tally) (n end : ℕ) where
  -- along a shift
  pub plus-shift : end ≡ FREE → (r : Tally) → r ≡ plus_copies n t → r ≡ plus_copies (walk_count n end) t
  plus-shift e r p = p ∙ ap (λ (m : ℕ). plus_copies m t) (sym (count-shift n end e))

  -- by the hand: one to it, those along the shift, and one from it
  pub plus-hand : end ≢ FREE → (held shifted r : Tally) → held ≡ plus_copy t → shifted ≡ plus_copies n held → r ≡ plus_copy shifted → r ≡ plus_copies (walk_count n end) t
  plus-hand q held shifted r p o s = plus-both t shifted r (1 + n) 1 (walk_count n end) (plus-both t held shifted 1 n (1 + n) p o refl) s (omega (arith, count-hand n end q))
