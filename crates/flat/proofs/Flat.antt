-- Nothing is lost between the layers' answers and the numbers that C is given: each gives the other back. Assumes nothing.
use mathlib.Core.Path.{◌≡◌, refl, sym, ap, ◌∙◌}
use Prim.Native.Nat.{ℕ}
use lib.Dec.{eqb}
use Rattle.std.specs.Prelude.{Err}
use Rattle.counting.specs.Tests.{pick}
use Rattle.answers.specs.Answers.{refusal_of}
use Rattle.answers.specs.declared.Refusal as given
use Rattle.answers.proofs.Answers.{plain}
use Rattle.slots.specs.Told.{slot_answered}
use Rattle.slots.specs.Told as slots
use Rattle.slots.specs.Told.{Kind, State}
use Rattle.slots.specs.Told.Kind.{User, Spare, None as NoKind}
use Rattle.slots.specs.Told.State.{Free, Settled, Unsettled, Away, None as NoState}
use Rattle.flat.specs.declared.Answer.{Answer}
use Rattle.flat.specs.declared.SlotAnswer.{SlotAnswer}
use Rattle.flat.specs.declared.FileAnswer.{FileAnswer}
use Rattle.flat.specs.declared.SizeAnswer.{SizeAnswer}
use Rattle.answers.specs.declared.Answer as layers
use Rattle.parsing.specs.Answers as jobfile
use Rattle.answers.specs.Answers as sizes
use Rattle.flat.specs.Flat.{answer_of, kind_number, state_number, rack_number, slot_numbers, file_of, size_of}

-- two answers of five numbers that are one answer of the layers are equal
pub answer-same : (a b : Answer) → answer_of a ≡ answer_of b → a ≡ b
answer-same a b e = ap (λ (x : layers.Answer). record { number = x.number; place = x.place; phases = x.tally.phases; moves = x.tally.moves; copies = x.tally.copies }) e

-- two answers of nine numbers that are one answer of the file reader are equal
pub file-same : (a b : FileAnswer) → file_of a ≡ file_of b → a ≡ b
file-same a b e =
    ap (λ (x : jobfile.FileAnswer).
    record {
      number = x.answer.number;
      place = x.answer.place;
      phases = x.answer.tally.phases;
      moves = x.answer.tally.moves;
      copies = x.answer.tally.copies;
      racks = x.racks;
      bytes = x.bytes;
      slots = x.slots;
      start = x.start;
    }) e

-- two answers of six numbers that are one answer of a call that writes bytes are equal
pub size_same : (a b : SizeAnswer) → size_of a ≡ size_of b → a ≡ b
size_same a b e =
    ap (λ (x : sizes.SizeAnswer).
    record {
      number = x.answer.number;
      place = x.answer.place;
      phases = x.answer.tally.phases;
      moves = x.answer.tally.moves;
      copies = x.answer.tally.copies;
      size = x.size;
    }) e

-- the kind that a number stands for
unfoldable pub kind_of : ℕ → Kind
kind_of n = pick (eqb n 1) User (pick (eqb n 2) Spare NoKind)

-- the state that two numbers stand for
unfoldable pub state_of : ℕ → ℕ → State
state_of n p =
    pick (eqb n 1) Free
    (pick (eqb n 2) Settled
    (pick (eqb n 3) Unsettled
    (pick (eqb n 4) (Away p) NoState)))

pub kind-back : (k : Kind) → kind_of (kind_number k) ≡ k
unfolding kind_of kind_number
kind-back User = refl
kind-back Spare = refl
kind-back NoKind = refl

pub state-back : (s : State) → state_of (state_number s) (rack_number s) ≡ s
unfolding state_of state_number rack_number
state-back Free = refl
state-back Settled = refl
state-back Unsettled = refl
state-back (Away p) = refl
state-back NoState = refl

-- the slot question's answer that a kind, a state and the rest of another answer are
abbrev pub with_slot : slots.SlotAnswer → Kind → State → slots.SlotAnswer
with_slot x k s = record { answer = x.answer; slot = record { kind = k; state = s } }

-- the slot question's answer that eight numbers stand for
abbrev pub slot_of : SlotAnswer → slots.SlotAnswer
slot_of r =
    record {
      answer = record { number = r.number; place = r.place; tally = record { phases = r.phases; moves = r.moves; copies = r.copies } };
      slot = record { kind = kind_of r.kind; state = state_of r.state r.rack };
    }

pub slot-back : (x : slots.SlotAnswer) → slot_of (slot_numbers x) ≡ x
slot-back x =
    ap (λ (k : Kind). with_slot x k (state_of (state_number x.slot.state) (rack_number x.slot.state))) (kind-back x.slot.kind)
    ∙ ap (λ (s : State). with_slot x x.slot.kind s) (state-back x.slot.state)

-- two answers of the slot question that are given as the same eight numbers are equal
pub slot_same : (x y : slots.SlotAnswer) → slot_numbers x ≡ slot_numbers y → x ≡ y
slot_same x y e = sym (slot-back x) ∙ ap slot_of e ∙ slot-back y

-- the numbers of a slot question that is refused
pub slot-refused : (e : given.Refusal)
    → record { number = (refusal_of e).number; place = (refusal_of e).place; phases = 0; moves = 0; copies = 0; kind = 0; state = 0; rack = 0 } ≡ slot_numbers (slot_answered (Err e))
unfolding kind_number state_number rack_number
slot-refused e =
    ap (λ (a : layers.Answer).
    record { number = a.number; place = a.place; phases = a.tally.phases; moves = a.tally.moves; copies = a.tally.copies; kind = 0; state = 0; rack = 0 }) (plain (refusal_of e))
