-- Laws of the number of the card bytes. Assumes nothing.
use mathlib.Core.Path.{◌≡◌, ap, sym, ◌∙◌}
use mathlib.Core.List.{List}
use Prim.Native.Nat.{ℕ, ◌-◌, ◌≤◌, ◌<◌}
use native.Mathlib.Omega.{arith}
use lib.ListN.{length, length-drop}
use borrow.Author.Tests.{lt-ltb, le-ltb}
use Rattle.counting.proofs.Checks.{first-here, first-later, first-none}
use Rattle.answers.specs.Answers.{placeless}
use Rattle.parsing.specs.parts.Parsing.{left_of, end_number}

-- 15, 16 or 0, by the tests that the code makes
module _ (file : List ℕ) (at want left : ℕ) (is : left ≡ length file - at) where
  left-is : left ≡ left_of file at
  unfolding left_of
  left-is = is ∙ sym (length-drop at file)

  -- it ends too early
  pub end-15 : left < want → placeless 15 ≡ placeless (end_number file at want)
  unfolding end_number
  end-15 l = ap placeless (sym (first-here _ 15 _ (lt-ltb (left_of file at) want (omega (arith, left-is)))))

  -- bytes are left over
  pub end-16 : want < left → placeless 16 ≡ placeless (end_number file at want)
  unfolding end_number
  end-16 l =
      ap placeless (sym (first-later _ 15 _ (le-ltb (left_of file at) want (omega (arith, left-is))) ∙ first-here _ 16 _ (lt-ltb want (left_of file at) (omega (arith, left-is)))))

  -- the cards take them all
  pub end-0 : want ≤ left → left ≤ want → placeless 0 ≡ placeless (end_number file at want)
  unfolding end_number
  end-0 l h =
      ap placeless
      (sym (first-later _ 15 _ (le-ltb (left_of file at) want (omega (arith, left-is))) ∙ first-later _ 16 _ (le-ltb want (left_of file at) (omega (arith, left-is))) ∙ first-none))
