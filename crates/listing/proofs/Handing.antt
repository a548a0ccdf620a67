-- Laws of a text handed over. Assumes nothing.
use mathlib.Core.Path.{◌≡◌, ap, sym, ◌∙◌}
use mathlib.Core.List.{List, []}
use Prim.Native.Nat.{ℕ, ◌≤◌, ◌<◌}
use native.Mathlib.Omega.{arith}
use lib.Dec.{ltb}
use lib.ListN.{length}
use borrow.Author.Tests.{lt-ltb, le-ltb}
use Rattle.counting.proofs.Checks.{first-here, first-later, first-none}
use Rattle.racks.specs.Numbers.{too_short}
use Rattle.std.specs.Prelude.{Ok, Err}
use Rattle.answers.specs.Answers.{placeless, sized_of, size_answered}
use Rattle.answers.specs.declared.Refusal.TheVariants as case
use Rattle.answers.proofs.Answers.{sized-refused, sized-done}
use Rattle.texts.specs.parts.Writing.{Wrote}
use Rattle.listing.specs.Listing.{handed_over}

-- a text handed over
module _ (text lent : List ℕ) where
  -- 13 where the buffer is too short for it
  pub handed-13 : length lent < length text → sized_of (size_answered (Err case.TooShort)) lent ≡ handed_over text lent
  unfolding handed_over too_short
  handed-13 l = sized-refused _ text lent case.TooShort (ap placeless (sym (first-here (ltb (length lent) (length text)) 13 [] (lt-ltb (length lent) (length text) l))))

  -- else it stands at the front
  pub handed-0 : (lent' : List ℕ) (r : ℕ) → length text ≤ length lent → Wrote text lent 0 lent' r → sized_of (size_answered (Ok r)) lent' ≡ handed_over text lent
  unfolding handed_over too_short
  handed-0 lent' r l w =
      sized-done _ text lent r lent' (omega (arith, w.behind)) w.stored
      (ap placeless (sym (first-later (ltb (length lent) (length text)) 13 [] (le-ltb (length lent) (length text) l) ∙ first-none)))
