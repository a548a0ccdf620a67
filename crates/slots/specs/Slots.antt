-- "Slot question." Assumes nothing: these are definitions.
use Rattle.std.specs.Prelude.{List, [], ◌∷◌, ◌++◌, ◌≡◌, ℕ}
use Rattle.counting.specs.Tests.{pick}
use Rattle.counting.specs.Checks.{Check, first, done}
use Rattle.racks.specs.Racks.{Rack, is_user, of_caps}
use Rattle.racks.specs.Table.{free, settled, away, rack_to}
use Rattle.racks.specs.Numbers.{table_checks, no_slot, refusal_in}
use Rattle.answers.specs.Answers.{answer, no_counts}
use Rattle.slots.specs.Told.{Kind, State, SlotAnswer, nothing}
use Rattle.slots.specs.Told.Kind.{User, Spare}
use Rattle.slots.specs.Told.State.{Free, Settled, Unsettled, Away}

-- user slot or spare
unfoldable pub kind_of : List Rack → ℕ → Kind
kind_of racks g = pick (is_user racks g) User Spare

-- free, settled, away and to which rack, or on its rack but unsettled
unfoldable pub state_of : List Rack → List ℕ → ℕ → State
state_of racks places g =
    pick (free places g) Free
    (pick (settled places g) Settled
    (pick (away racks places g) (Away (rack_to racks places g)) Unsettled))

-- 1, 3 to 6, and 7
unfoldable pub slot_checks : List Rack → List ℕ → ℕ → List Check
slot_checks racks places g = table_checks racks places ++ (no_slot racks g, 7) ∷ []

-- **Slot question.**
unfoldable pub asked : List Rack → List ℕ → ℕ → SlotAnswer
asked racks places g =
    let n = first (slot_checks racks places g) in
    record {
      answer = answer (refusal_in racks places n) no_counts;
      slot = pick (done n) (record { kind = kind_of racks g; state = state_of racks places g }) nothing;
    }

-- the contract of `slot_question`: what it gives
abbrev pub SlotQuestion : List ℕ → List ℕ → ℕ → SlotAnswer → Type 0
SlotQuestion caps places g r = r ≡ asked (of_caps caps) places g
