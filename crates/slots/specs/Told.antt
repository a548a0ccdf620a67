-- What the slot question tells of a slot, by the rules' words: none for both on a refusal. Assumes nothing: these are definitions.
use Rattle.std.specs.Prelude.{ℕ, Result, Ok, Err}
use Rattle.answers.specs.Answers.{Refusal, placeless, refusal_of, answer, no_counts}
use Rattle.answers.specs.declared.Refusal as given
use Rattle.answers.specs.declared.Answer.{Answer}
use Rattle.slots.specs.declared.Kind as code
use Rattle.slots.specs.declared.Kind.TheVariants as kind
use Rattle.slots.specs.declared.State as held
use Rattle.slots.specs.declared.State.TheVariants as state
use Rattle.slots.specs.declared.Slot as slot

-- user slot or spare; none
pub data Kind : Type 0 where
  User : Kind
  Spare : Kind
  None : Kind

-- free, settled, on its rack but unsettled, or away and to which rack; none
pub data State : Type 0 where
  Free : State
  Settled : State
  Unsettled : State
  Away : ℕ → State
  None : State

pub record Slot : Type 0 where
  pub kind : Kind
  pub state : State

pub record SlotAnswer : Type 0 where
  pub answer : Answer
  pub slot : Slot

-- the slot on a refusal: none
abbrev pub nothing : Slot
nothing = record { kind = Kind.None; state = State.None }

-- a refusal: its number and place, no counts, and none
abbrev pub refused_slot : Refusal → SlotAnswer
refused_slot x = record { answer = answer x no_counts; slot = nothing }

-- what the code gives for each
abbrev pub kind_told : code.Kind → Kind
kind_told kind.User = Kind.User
kind_told kind.Spare = Kind.Spare

abbrev pub state_told : held.State → State
state_told state.Free = State.Free
state_told state.Settled = State.Settled
state_told state.Unsettled = State.Unsettled
state_told (state.Away p) = State.Away p

-- what the slot question gives, as the answer and the slot
abbrev pub slot_answered : Result slot.Slot given.Refusal → SlotAnswer
slot_answered (Ok s) = record { answer = answer (placeless 0) no_counts; slot = record { kind = kind_told s.kind; state = state_told s.state } }
slot_answered (Err e) = refused_slot (refusal_of e)
