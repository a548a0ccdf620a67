-- The shuffle, by a job. Assumes nothing: these are definitions.
use Rattle.std.specs.Prelude.{[], ◌∷◌, ℕ, length}
use Rattle.counting.specs.Checks.{first, known}
use Rattle.answers.specs.Answers.{copies_of}
use Rattle.racks.specs.Numbers.{some_away}
use Rattle.racks.specs.Job.{racks_of}
use Rattle.racks.specs.declared.Job.{Job}
use Rattle.tables.specs.parts.Tables.{refusal_by, cards_number}
use Rattle.moves.specs.Moves.{Held, Outcome, outcome}
use Rattle.factors.specs.Copies.{copy_list}
use Rattle.shuffle.specs.Shuffle.{settled_held}

-- the number of the shuffle, by a job: that of the table and its cards, then 12
unfoldable pub shuffle_number : Job → ℕ → Held → ℕ
shuffle_number job b h = first (known (cards_number job b h.places h.cards) ∷ (some_away (racks_of job) h.places, 12) ∷ [])

-- the shuffle, by a job
unfoldable pub shuffled_by : Job → ℕ → Held → Outcome
shuffled_by job b h =
    outcome (refusal_by job h.places (shuffle_number job b h)) (copies_of (length (copy_list h.places))) (settled_held (racks_of job) b h) h
