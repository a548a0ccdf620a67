-- Every call takes an accepted job: its rows are those behind 1 to 6. Assumes nothing.
use mathlib.Core.Path.{◌≡◌, sym, ap, ◌∙◌}
use mathlib.Core.List.{List}
use Prim.Native.Nat.{ℕ}
use lib.ListN.{take}
use Rattle.counting.specs.Checks.{first}
use Rattle.racks.specs.Racks.{Rack, of_caps}
use Rattle.racks.specs.Numbers.{card_checks}
use Rattle.answers.specs.declared.Answer.{Answer}
use Rattle.moves.specs.Moves.{Held, held}
use Rattle.jobfile.specs.Reading.{ahead, JobRead}
use Rattle.jobfile.specs.declared.Reader.{Reader}
use Rattle.jobfile.specs.Reading.{JobFile}
use Rattle.conduct.specs.Accepted.{Accepted}
use Rattle.demands.specs.Rows.{None}
use Rattle.demands.specs.Conditions.{table_rows, card_rows}
use Rattle.demands.specs.EveryCall.{EveryCall, EveryCallTakes}
use Rattle.conduct.proofs.Acceptance.{accepted-table}
use Rattle.demands.proofs.Rows.{given-behind}
use Rattle.demands.proofs.CallRows.{given-table-only, given-cards-only}
use Rattle.demands.proofs.Demand1.{demand1}

module _ (racks : List Rack) (b : ℕ) (h : Held) (z : first (card_checks racks b h.places h.cards) ≡ 0) where
  no-table_row : None (table_rows racks h.places)
  no-table_row = (given-table-only racks h.places).done.0 (accepted-table racks b h.places h.cards z)

  no-card_row : None (card_rows racks b h.places h.cards)
  no-card_row = (given-cards-only racks h.places b h.cards).done.0 z

  all_take : EveryCall racks b h
  all_take =
      record {
        check-table = (demand1.check-table racks h.places).number.done.1 no-table_row;
        slot_question = λ g. given-behind _ _ no-table_row (demand1.slot_question racks h.places g).number;
        phase-plan = λ lent. given-behind _ _ no-table_row (demand1.phase-plan racks h.places lent).number;
        one-move = λ from to. given-behind _ _ no-card_row (demand1.one-move racks b h from to).number;
        budgeted-moves = λ k. (demand1.budgeted-moves racks b h k).number.done.1 no-card_row;
        copy-list = λ lent. given-behind _ _ no-table_row (demand1.copy-list racks h.places lent).number;
        shuffle-cards = given-behind _ _ no-card_row (demand1.shuffle-cards racks b h).number;
        whole_run = (demand1.whole_run racks b h).number.done.1 no-card_row;
        write-file = λ lent. given-behind _ _ no-card_row (demand1.write-file racks b h.places h.cards lent).number;
      }

-- a job that a reader reads is that of the file ahead of it
job-accepted : (reader : Reader) (caps places : List ℕ) (job : JobFile) (caps' places' : List ℕ) → JobRead reader caps places job caps' places'
    → job.answer.number ≡ 0 → Accepted (take job.racks caps') job.bytes (held (take job.slots places') job.cards)
job-accepted reader caps places job caps' places' r z =
    rw (r.racks-are, r.bytes-are, r.slots-are, r.cards-are, r.caps-are, r.places-are)
    (demand1.read-accepted (ahead reader) caps places (sym (ap (λ (a : Answer). a.number) r.answer-is) ∙ z))

pub every_call : EveryCallTakes
every_call =
    record {
      accepted = λ caps b h z. all_take (of_caps caps) b h z;
      from-file = λ file caps places z. all_take _ _ _ (demand1.read-accepted file caps places z);
      from_reader = λ reader caps places job caps' places' r z. all_take _ _ _ (job-accepted reader caps places job caps' places' r z);
    }
