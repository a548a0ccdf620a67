-- One move, by a job. Assumes nothing: these are definitions.
use Rattle.std.specs.Prelude.{◌≡◌, [], ◌∷◌, ℕ, ◌*◌, length}
use Rattle.counting.specs.Lists.{Pair}
use Rattle.counting.specs.Checks.{first, known}
use Rattle.racks.specs.Job.{racks_of}
use Rattle.racks.specs.declared.Job.{Job}
use Rattle.answers.specs.Answers.{moves_of}
use Rattle.answers.specs.Answers.{Refusal}
use Rattle.tables.specs.parts.Tables.{refusal_by, cards_number}
use Rattle.moves.specs.Moves.{Held, carried, Outcome, outcome, end_checks}
use Rattle.carrying.specs.parts.Carrying.{Slots}

-- the number of a move, by a job: that of the table and the cards, then 7 to 11
unfoldable pub move_number : Job → ℕ → Held → Pair → ℕ
move_number job b h m = first (known (cards_number job b h.places h.cards) ∷ end_checks (racks_of job) h.places m)

-- one move, by a job
unfoldable pub moved_by : Job → ℕ → Held → Pair → Outcome
moved_by job b h m = outcome (refusal_by job h.places (move_number job b h m)) (moves_of 1) (carried b (m ∷ []) h) h

-- what the refusal of a move says: where its number is 0, the cards fit the table and both ends are slots of it
pub record MoveChecked (job : Job) (b : ℕ) (h : Held) (m : Pair) (refusal : Refusal) : Type 0 where
  pub refusal_is : refusal ≡ refusal_by job h.places (move_number job b h m)
  pub sized : refusal.number ≡ 0 → length h.places * b ≡ length h.cards
  pub slots : refusal.number ≡ 0 → Slots (length h.places) m
