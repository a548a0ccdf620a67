-- Budgeted moves, by a job. Assumes nothing: these are definitions.
use Rattle.std.specs.Prelude.{ℕ, min}
use Rattle.answers.specs.Answers.{moves_of}
use Rattle.racks.specs.Table.{aways}
use Rattle.racks.specs.Job.{racks_of}
use Rattle.racks.specs.declared.Job.{Job}
use Rattle.tables.specs.parts.Tables.{refusal_by, cards_number}
use Rattle.moves.specs.Moves.{Held, carried, Outcome, outcome}
use Rattle.moves.specs.Phases.{budget}

-- budgeted moves, by a job
unfoldable pub budgeted_by : Job → ℕ → Held → ℕ → Outcome
budgeted_by job b h k =
    outcome (refusal_by job h.places (cards_number job b h.places h.cards))
    (moves_of (min k (aways (racks_of job) h.places)))
    (carried b (budget (racks_of job) k h.places) h) h
