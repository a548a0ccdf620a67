-- Laws of the parts of a file that are handed back. Assumes nothing.
use mathlib.Core.Path.{◌≡◌, refl, sym, ◌∙◌}
use mathlib.Core.List.{List, []}
use Prim.Native.Nat.{ℕ, ◌-◌, ◌<◌}
use native.Mathlib.Omega.{arith}
use native.Mathlib.Nat.{sub_self, le_of_eq}
use lib.ListN.{length, take, drop, length-drop, drop_of_length-le}
use lib.Seq.{take_all}
use borrow.Author.Tests.{ne_eqb}
use Rattle.jobfile.specs.Answers.{cards_of}
use Rattle.std.specs.Prelude.{Ok}
use Rattle.answers.specs.Answers.{refusal_of}
use Rattle.answers.specs.declared.Refusal as given
use Rattle.answers.proofs.Answers.{refuses}
use Rattle.parsing.specs.Answers.{refused_file, file_answered}
use Rattle.parsing.specs.declared.FileJob.{FileJob}

-- the part of a file from a position on
module _ (file : List ℕ) where
  part_none : take (length file - length file) (drop (length file) file) ≡ []
  part_none = rw (sub_self (length file))

  module _ (at : ℕ) where
    -- empty where the position lies behind the end
    pub rest-past : length file < at → take (length file - length file) (drop (length file) file) ≡ drop at file
    rest-past l = part_none ∙ sym (drop_of_length-le file {i = at} (omega arith))

    -- else all that lies behind the position
    pub rest-behind : take (length file - at) (drop at file) ≡ drop at file
    rest-behind = take_all (length file - at) (drop at file) (le_of_eq (length-drop at file))

  -- the card bytes: an empty part on a refusal
  pub cards-none : (e : given.Refusal) → [] ≡ cards_of (refused_file (refusal_of e)) file
  unfolding cards_of
  cards-none e = rw (ne_eqb (refusal_of e).number 0 (refuses e))

  pub cards-refused : (e : given.Refusal) → take (length file - length file) (drop (length file) file) ≡ cards_of (refused_file (refusal_of e)) file
  cards-refused e = part_none ∙ cards-none e

  -- else all from their start on
  pub cards-done : (job : FileJob) → drop job.start file ≡ cards_of (file_answered (Ok job)) file
  unfolding cards_of
  cards-done job = refl
