-- The whole run, by a job. Assumes nothing: these are definitions.
use Rattle.std.specs.Prelude.{ℕ}
use Rattle.racks.specs.Job.{racks_of}
use Rattle.racks.specs.declared.Job.{Job}
use Rattle.tables.specs.parts.Tables.{refusal_by, cards_number}
use Rattle.moves.specs.Moves.{Held, Outcome, outcome}
use Rattle.shuffle.specs.Shuffle.{settled_held}
use Rattle.runs.specs.Run.{gathered, counts}

-- the whole run, by a job
unfoldable pub ran_by : Job → ℕ → Held → Outcome
ran_by job b h =
    outcome (refusal_by job h.places (cards_number job b h.places h.cards)) (counts (racks_of job) b h)
    (settled_held (racks_of job) b (gathered (racks_of job) b h)) h
