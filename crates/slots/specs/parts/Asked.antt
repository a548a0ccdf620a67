-- The slot question, by a job. Assumes nothing: these are definitions.
use Rattle.std.specs.Prelude.{List, [], ◌∷◌, ℕ}
use Rattle.counting.specs.Checks.{first, known}
use Rattle.racks.specs.Racks.{Rack}
use Rattle.racks.specs.Numbers.{no_slot}
use Rattle.racks.specs.Job.{racks_of}
use Rattle.racks.specs.declared.Job.{Job}
use Rattle.answers.specs.Answers.{Refusal, answer, no_counts}
use Rattle.counting.specs.Tests.{pick}
use Rattle.counting.specs.Checks.{done}
use Rattle.tables.specs.parts.Tables.{refusal_by, table_number}
use Rattle.slots.specs.Told.{SlotAnswer, nothing}
use Rattle.slots.specs.Slots.{kind_of, state_of}

-- the answer, by its refusal: the slot is none unless the number is 0
unfoldable pub said : List Rack → List ℕ → ℕ → Refusal → SlotAnswer
said racks places g x =
    record { answer = answer x no_counts; slot = pick (done x.number) (record { kind = kind_of racks g; state = state_of racks places g }) nothing }

-- the slot question, by a job
unfoldable pub asked_by : Job → List ℕ → ℕ → SlotAnswer
asked_by job places g =
    said (racks_of job) places g (refusal_by job places (first (known (table_number job places) ∷ (no_slot (racks_of job) g, 7) ∷ [])))
