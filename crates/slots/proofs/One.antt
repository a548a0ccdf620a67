-- The contract of this layer's call allows one outcome, and it is told whole. Assumes nothing.
use mathlib.Core.Path.{◌≡◌, refl, ap}
use mathlib.Core.List.{List}
use Prim.Native.Nat.{ℕ}
use Rattle.counting.specs.One.{One}
use Rattle.counting.proofs.One.{OneToOne, one-is, read-back}
use Rattle.std.specs.Prelude.{Result, Ok, Err}
use Rattle.answers.specs.Answers.{refused}
use Rattle.answers.specs.declared.Refusal as given
use Rattle.answers.proofs.One.{heard, result-one}
use Rattle.slots.specs.Slots.{SlotQuestion}
use Rattle.slots.specs.Told.{Kind, State, SlotAnswer, kind_told, state_told, slot_answered}
use Rattle.slots.specs.declared.Kind as code
use Rattle.slots.specs.declared.Kind.TheVariants as kind
use Rattle.slots.specs.declared.State as held
use Rattle.slots.specs.declared.State.TheVariants as state
use Rattle.slots.specs.declared.Slot as slot

pub slot_question-one : (caps places : List ℕ) (g : ℕ) → One (SlotQuestion caps places g)
slot_question-one caps places g = one-is _

-- a kind and a state are read back from what is told of them; none is told of no slot
kind-for : Kind → code.Kind
kind-for Kind.User = kind.User
kind-for Kind.Spare = kind.Spare
kind-for Kind.None = kind.Spare

state-for : State → held.State
state-for State.Free = state.Free
state-for State.Settled = state.Settled
state-for State.Unsettled = state.Unsettled
state-for (State.Away p) = state.Away p
state-for State.None = state.Free

kind-read : (k : code.Kind) → kind-for (kind_told k) ≡ k
unfolding kind-for
kind-read kind.User = refl
kind-read kind.Spare = refl

state-read : (s : held.State) → state-for (state_told s) ≡ s
unfolding state-for
state-read state.Free = refl
state-read state.Settled = refl
state-read state.Unsettled = refl
state-read (state.Away p) = refl

-- an answer has its refusal
slot-heard : (r : Result slot.Slot given.Refusal) → heard (slot_answered r).answer ≡ refused r
slot-heard (Ok s) = refl
slot-heard (Err e) = refl

-- two results that are told alike are one
pub slot_answered-one : OneToOne slot_answered
slot_answered-one = result-one slot_answered (λ (a : SlotAnswer). heard a.answer) slot-heard slot-one
  where
    slot-one : (s t : slot.Slot) → slot_answered (Ok s) ≡ slot_answered (Ok t) → s ≡ t
    slot-one s t e =
        let k = read-back kind_told kind-for kind-read s.kind t.kind (ap (λ (a : SlotAnswer). a.slot.kind) e) in
        let w = read-back state_told state-for state-read s.state t.state (ap (λ (a : SlotAnswer). a.slot.state) e) in
        λ i. record { kind = k i; state = w i }
