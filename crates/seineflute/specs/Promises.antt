-- The contracts of the calls from C that are not those of a call of another layer. Assumes nothing: these are definitions.
use Rattle.std.specs.Prelude.{◌≡◌, List, ℕ}
use Rattle.racks.specs.Racks.{of_caps}
use Rattle.slots.specs.Slots.{asked}
use Rattle.flat.specs.Flat.{slot_numbers}
use Rattle.flat.specs.declared.SlotAnswer.{SlotAnswer}
use Rattle.seineflute.specs.Limits.{limits}
use Rattle.seineflute.specs.declared.Limits.{Limits}

-- the contract of `seineflute_limits`
abbrev pub LimitsGiven : Limits → Type 0
LimitsGiven r = r ≡ limits

-- the contract of `seineflute_slot_question`: the slot question's answer, as numbers
abbrev pub SlotNumbers : List ℕ → List ℕ → ℕ → SlotAnswer → Type 0
SlotNumbers caps places g r = r ≡ slot_numbers (asked (of_caps caps) places g)
