-- The layers' answers and the plain numbers that C is given, one definition for each struct. Assumes nothing: these are definitions.
use Rattle.std.specs.Prelude.{ℕ}
use Rattle.answers.specs.declared.Answer as layers
use Rattle.slots.specs.Told as slots
use Rattle.slots.specs.Told.{Kind, State}
use Rattle.slots.specs.Told.Kind.{User, Spare, None as NoKind}
use Rattle.slots.specs.Told.State.{Free, Settled, Unsettled, Away, None as NoState}
use Rattle.parsing.specs.Answers as jobfile
use Rattle.answers.specs.Answers as sizes
use Rattle.flat.specs.declared.Answer.{Answer}
use Rattle.flat.specs.declared.SlotAnswer.{SlotAnswer}
use Rattle.flat.specs.declared.FileAnswer.{FileAnswer}
use Rattle.flat.specs.declared.SizeAnswer.{SizeAnswer}

-- the answer that five numbers are
abbrev pub answer_of : Answer → layers.Answer
answer_of a = record { number = a.number; place = a.place; tally = record { phases = a.phases; moves = a.moves; copies = a.copies } }

-- the number of a kind: 1 user slot, 2 spare, 0 none
unfoldable pub kind_number : Kind → ℕ
kind_number User = 1
kind_number Spare = 2
kind_number NoKind = 0

-- the number of a state: 1 free, 2 settled, 3 on its rack but unsettled, 4 away, 0 none
unfoldable pub state_number : State → ℕ
state_number Free = 1
state_number Settled = 2
state_number Unsettled = 3
state_number (Away p) = 4
state_number NoState = 0

-- the rack to which a card is away; 0 in every other state
unfoldable pub rack_number : State → ℕ
rack_number Free = 0
rack_number Settled = 0
rack_number Unsettled = 0
rack_number (Away p) = p
rack_number NoState = 0

-- the eight numbers that the slot question's answer is
abbrev pub slot_numbers : slots.SlotAnswer → SlotAnswer
slot_numbers found =
    record {
      number = found.answer.number;
      place = found.answer.place;
      phases = found.answer.tally.phases;
      moves = found.answer.tally.moves;
      copies = found.answer.tally.copies;
      kind = kind_number found.slot.kind;
      state = state_number found.slot.state;
      rack = rack_number found.slot.state;
    }

-- the file reader's answer that nine numbers are
abbrev pub file_of : FileAnswer → jobfile.FileAnswer
file_of r =
    record {
      answer = record { number = r.number; place = r.place; tally = record { phases = r.phases; moves = r.moves; copies = r.copies } };
      racks = r.racks;
      bytes = r.bytes;
      slots = r.slots;
      start = r.start;
    }

-- the answer of a call that writes bytes, which six numbers are
abbrev pub size_of : SizeAnswer → sizes.SizeAnswer
size_of r =
    record {
      answer = record { number = r.number; place = r.place; tally = record { phases = r.phases; moves = r.moves; copies = r.copies } };
      size = r.size;
    }
