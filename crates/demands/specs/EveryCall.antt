-- What an accepted job may still be refused for: of each call's rows only those behind 1 to 6, which are the call's own.
-- Assumes nothing: these are statements; `every_call` in proofs/EveryCall proves them.
use Rattle.std.specs.Prelude.{◌≡◌, List, [], ◌∷◌, ℕ, take}
use Rattle.counting.specs.Lists.{flat}
use Rattle.racks.specs.Racks.{Rack, of_caps}
use Rattle.tables.specs.Check.{checked}
use Rattle.slots.specs.Slots.{asked}
use Rattle.plans.specs.Plan.{plan, planned}
use Rattle.moves.specs.Moves.{Held, held, moved}
use Rattle.moves.specs.Phases.{budgeted}
use Rattle.factors.specs.Copies.{copy_list, copied}
use Rattle.shuffle.specs.Shuffle.{shuffled}
use Rattle.runs.specs.Run.{ran}
use Rattle.parsing.specs.File.{read}
use Rattle.jobfile.specs.Reading.{JobRead}
use Rattle.jobfile.specs.declared.Reader.{Reader}
use Rattle.jobfile.specs.Reading.{JobFile}
use Rattle.jobwriter.specs.Writing.{file_for, filed}
use Rattle.demands.specs.Rows.{Given}
use Rattle.conduct.specs.Accepted.{OfAccepted}
use Rattle.demands.specs.Conditions.{NoSlot, CardAway, TooShort, end_rows}

-- every call takes racks, B, a table and its cards
pub record EveryCall (racks : List Rack) (b : ℕ) (h : Held) : Type 0 where
  pub check-table : (checked racks h.places).number ≡ 0
  pub slot_question : (g : ℕ) → Given (asked racks h.places g).answer.number ((7, NoSlot racks g) ∷ [])
  pub phase-plan : (lent : List ℕ) → Given (planned racks h.places lent).answer.number ((13, TooShort lent (flat (plan racks h.places))) ∷ [])
  pub one-move : (from to : ℕ) → Given (moved racks b h (from, to)).answer.number (end_rows racks h.places from to)
  pub budgeted-moves : (k : ℕ) → (budgeted racks b h k).answer.number ≡ 0
  pub copy-list : (lent : List ℕ)
      → Given (copied racks h.places lent).answer.number ((12, CardAway racks h.places) ∷ (13, TooShort lent (flat (copy_list h.places))) ∷ [])
  pub shuffle-cards : Given (shuffled racks b h).answer.number ((12, CardAway racks h.places) ∷ [])
  pub whole_run : (ran racks b h).answer.number ≡ 0
  pub write-file : (lent : List ℕ)
      → Given (filed racks b h.places h.cards lent).answer.number ((19, TooShort lent (file_for racks b h.places h.cards)) ∷ [])

-- which jobs every call takes
pub record EveryCallTakes : Type 0 where
  -- those of which 1 to 6 find nothing to refuse
  pub accepted : OfAccepted EveryCall
  -- so those of a file that is read without refusal: what the lists hold at their fronts, B and the card bytes
  pub from-file : (file caps places : List ℕ) → (read file caps places).answer.number ≡ 0
      → let r = read file caps places in EveryCall (of_caps (take r.racks r.caps)) r.bytes (held (take r.slots r.places) r.cards)
  pub from_reader : (reader : Reader) (caps places : List ℕ) (job : JobFile) (caps' places' : List ℕ) → JobRead reader caps places job caps' places'
      → job.answer.number ≡ 0 → EveryCall (of_caps (take job.racks caps')) job.bytes (held (take job.slots places') job.cards)
