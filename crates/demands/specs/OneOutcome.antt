-- One outcome: any two outcomes that a public call's contract allows are equal. An outcome is what the call gives and every lent list and byte at exit;
-- each line cites the contract by the name under which the call cites it. Assumes nothing: these are statements; `one-outcome` in proofs/OneOutcome proves them.
use Rattle.std.specs.Prelude.{List, ℕ, Result}
use Rattle.std.specs.Borrow.{Bor}
use Rattle.counting.specs.One.{One, OneSeen}
use Rattle.racks.specs.Job.{JobOf, JobOfCards}
use Rattle.answers.specs.Answers.{refused, answer, no_counts, answered, size_answered, TallyNone, TallyOfMoves, TallyOfCopies, NumberOf, PlaceOf, AnswerNumbered, AnswerRefused, AnswerDone, AnswerGiven}
use Rattle.answers.specs.declared.Tally.{Tally}
use Rattle.answers.specs.declared.Refusal as given
use Rattle.answers.specs.declared.Answer.{Answer}
use Rattle.tables.specs.Check.{CheckTable}
use Rattle.slots.specs.Slots.{SlotQuestion}
use Rattle.slots.specs.Told.{slot_answered}
use Rattle.slots.specs.declared.Slot.{Slot}
use Rattle.plans.specs.Plan.{PhasePlan}
use Rattle.moves.specs.Moves.{OneMove, held, outcome_of}
use Rattle.moves.specs.Phases.{BudgetedMoves}
use Rattle.factors.specs.Copies.{CopyList}
use Rattle.shuffle.specs.Shuffle.{ShuffleCards}
use Rattle.runs.specs.Run.{WholeRun}
use Rattle.jobfile.specs.Answers.{ReadFile, RestOf, CardBytes}
use Rattle.numerals.specs.declared.Numeral.{Numeral}
use Rattle.parsing.specs.Answers.{FileAnswer, file_answered}
use Rattle.parsing.specs.declared.FileJob.{FileJob}
use Rattle.jobfile.specs.Reading.{Stepped, New, Next, job_told, JobRead, job_seen, given_seen}
use Rattle.jobfile.specs.declared.JobFile as job
use Rattle.jobfile.specs.declared.Reader.{Reader}
use Rattle.jobfile.specs.Reading.{JobFile}
use Rattle.jobwriter.specs.Writing.{WriteFile}
use Rattle.listing.specs.Listing.{ListJob}
use Rattle.answers.specs.Answers.{SizeAnswer}
use Rattle.flat.specs.Flat.{answer_of, file_of, size_of}
use Rattle.flat.specs.declared.Answer as c
use Rattle.flat.specs.declared.FileAnswer as c-file
use Rattle.flat.specs.declared.SizeAnswer as c-size
use Rattle.seineflute.specs.Promises.{LimitsGiven, SlotNumbers}

pub record OneOutcome : Type 0 where
  pub check-table : (caps places : List ℕ) → One (CheckTable caps places)
  pub slot_question : (caps places : List ℕ) (g : ℕ) → One (SlotQuestion caps places g)
  pub phase-plan : (caps places lent : List ℕ) → One (λ ((r, lent') : Answer × List ℕ). PhasePlan caps places lent r lent')
  pub one-move : (caps : List ℕ) (b : ℕ) (places cards : List ℕ) (from to : ℕ)
      → One (λ ((r, places', cards') : Answer × List ℕ × List ℕ). OneMove caps b (held places cards) (from, to) (outcome_of r places' cards'))
  pub budgeted-moves : (caps : List ℕ) (b : ℕ) (places cards : List ℕ) (k : ℕ)
      → One (λ ((r, places', cards') : Answer × List ℕ × List ℕ). BudgetedMoves caps b (held places cards) k (outcome_of r places' cards'))
  pub copy-list : (caps places lent : List ℕ) → One (λ ((r, lent') : Answer × List ℕ). CopyList caps places lent r lent')
  pub shuffle-cards : (caps : List ℕ) (b : ℕ) (places cards : List ℕ)
      → One (λ ((r, places', cards') : Answer × List ℕ × List ℕ). ShuffleCards caps b (held places cards) (outcome_of r places' cards'))
  pub whole_run : (caps : List ℕ) (b : ℕ) (places cards : List ℕ)
      → One (λ ((r, places', cards') : Answer × List ℕ × List ℕ). WholeRun caps b (held places cards) (outcome_of r places' cards'))
  pub read-file : (file caps places : List ℕ)
      → One (λ ((r, caps', places') : FileAnswer × List ℕ × List ℕ). ReadFile file caps places r caps' places')
  pub write-file : (caps : List ℕ) (b : ℕ) (places cards lent : List ℕ)
      → One (λ ((r, lent') : SizeAnswer × List ℕ). WriteFile caps b places cards lent r lent')
  pub list_job : (file lent : List ℕ) → One (λ ((r, lent') : SizeAnswer × List ℕ). ListJob file lent r lent')
  -- the reader that remembers its position; a part of the file is known by its bytes
  pub rest_of : (file : List ℕ) (at : ℕ) → OneSeen (λ x. x.now) (λ (r : Bor (List ℕ)). RestOf file at r.now)
  pub card-bytes : (file : List ℕ) (found : FileAnswer) → OneSeen (λ x. x.now) (λ (r : Bor (List ℕ)). CardBytes file found r.now)
  pub step-at : (file : List ℕ) (at : ℕ) → One (Stepped file at)
  pub new : (file : Bor (List ℕ)) → One (New file)
  pub next : (reader : Reader) → One (λ ((n, reader') : Result Numeral given.Refusal × Reader). Next reader n reader')
  pub read_job : (reader : Reader) (caps places : List ℕ)
      → OneSeen job_seen (λ ((job, caps', places') : JobFile × List ℕ × List ℕ). JobRead reader caps places job caps' places')
  -- the small ones: a job of capacities, counts, answers
  pub job_of : (caps : List ℕ) → One (JobOf caps)
  pub job_of_cards : (caps : List ℕ) (b : ℕ) → One (JobOfCards caps b)
  pub tally-none : One TallyNone
  pub tally_of-moves : (moves : ℕ) → One (TallyOfMoves moves)
  pub tally_of-copies : (copies : ℕ) → One (TallyOfCopies copies)
  pub number_of : (refusal : given.Refusal) → One (NumberOf refusal)
  pub place_of : (refusal : given.Refusal) → One (PlaceOf refusal)
  pub answer-numbered : (number place : ℕ) → One (AnswerNumbered number place)
  pub answer-refused : (refusal : given.Refusal) → One (AnswerRefused refusal)
  pub answer-done : (tally : Tally) → One (AnswerDone tally)
  pub answer_of_lem : (r : Result Tally given.Refusal) → One (AnswerGiven r)
  -- what the code gives: the same, of the result itself, and not only of what it tells
  pub given-check-table : (caps places : List ℕ) → One (λ (r : Result (Unit {0}) given.Refusal). CheckTable caps places (answer (refused r) no_counts))
  pub given-slot_question : (caps places : List ℕ) (g : ℕ) → One (λ (r : Result Slot given.Refusal). SlotQuestion caps places g (slot_answered r))
  pub given-phase-plan : (caps places lent : List ℕ)
      → One (λ ((r, lent') : Result Tally given.Refusal × List ℕ). PhasePlan caps places lent (answered r) lent')
  pub given-one-move : (caps : List ℕ) (b : ℕ) (places cards : List ℕ) (from to : ℕ)
      → One (λ ((r, places', cards') : Result Tally given.Refusal × List ℕ × List ℕ). OneMove caps b (held places cards) (from, to) (outcome_of (answered r) places' cards'))
  pub given-budgeted-moves : (caps : List ℕ) (b : ℕ) (places cards : List ℕ) (k : ℕ)
      → One (λ ((r, places', cards') : Result Tally given.Refusal × List ℕ × List ℕ). BudgetedMoves caps b (held places cards) k (outcome_of (answered r) places' cards'))
  pub given-copy-list : (caps places lent : List ℕ)
      → One (λ ((r, lent') : Result Tally given.Refusal × List ℕ). CopyList caps places lent (answered r) lent')
  pub given-shuffle-cards : (caps : List ℕ) (b : ℕ) (places cards : List ℕ)
      → One (λ ((r, places', cards') : Result Tally given.Refusal × List ℕ × List ℕ). ShuffleCards caps b (held places cards) (outcome_of (answered r) places' cards'))
  pub given-whole-run : (caps : List ℕ) (b : ℕ) (places cards : List ℕ)
      → One (λ ((r, places', cards') : Result Tally given.Refusal × List ℕ × List ℕ). WholeRun caps b (held places cards) (outcome_of (answered r) places' cards'))
  pub given-read-file : (file caps places : List ℕ)
      → One (λ ((r, caps', places') : Result FileJob given.Refusal × List ℕ × List ℕ). ReadFile file caps places (file_answered r) caps' places')
  pub given-write-file : (caps : List ℕ) (b : ℕ) (places cards lent : List ℕ)
      → One (λ ((r, lent') : Result ℕ given.Refusal × List ℕ). WriteFile caps b places cards lent (size_answered r) lent')
  pub given-list_job : (file lent : List ℕ) → One (λ ((r, lent') : Result ℕ given.Refusal × List ℕ). ListJob file lent (size_answered r) lent')
  pub given-card-bytes : (file : List ℕ) (found : Result FileJob given.Refusal)
      → OneSeen (λ x. x.now) (λ (r : Bor (List ℕ)). CardBytes file (file_answered found) r.now)
  pub given-read_job : (reader : Reader) (caps places : List ℕ)
      → OneSeen given_seen (λ ((r, caps', places') : Result job.JobFile given.Refusal × List ℕ × List ℕ). JobRead reader caps places (job_told r) caps' places')
  -- the calls from C: the same, of the numbers that C is given
  pub c_check-table : (caps places : List ℕ) → One (λ (r : c.Answer). CheckTable caps places (answer_of r))
  pub c-slot_question : (caps places : List ℕ) (g : ℕ) → One (SlotNumbers caps places g)
  pub c-phase-plan : (caps places lent : List ℕ)
      → One (λ ((r, lent') : c.Answer × List ℕ). PhasePlan caps places lent (answer_of r) lent')
  pub c-one-move : (caps : List ℕ) (b : ℕ) (places cards : List ℕ) (from to : ℕ)
      → One (λ ((r, places', cards') : c.Answer × List ℕ × List ℕ). OneMove caps b (held places cards) (from, to) (outcome_of (answer_of r) places' cards'))
  pub c-budgeted-moves : (caps : List ℕ) (b : ℕ) (places cards : List ℕ) (k : ℕ)
      → One (λ ((r, places', cards') : c.Answer × List ℕ × List ℕ). BudgetedMoves caps b (held places cards) k (outcome_of (answer_of r) places' cards'))
  pub c_copy-list : (caps places lent : List ℕ)
      → One (λ ((r, lent') : c.Answer × List ℕ). CopyList caps places lent (answer_of r) lent')
  pub c-shuffle-cards : (caps : List ℕ) (b : ℕ) (places cards : List ℕ)
      → One (λ ((r, places', cards') : c.Answer × List ℕ × List ℕ). ShuffleCards caps b (held places cards) (outcome_of (answer_of r) places' cards'))
  pub c-whole-run : (caps : List ℕ) (b : ℕ) (places cards : List ℕ)
      → One (λ ((r, places', cards') : c.Answer × List ℕ × List ℕ). WholeRun caps b (held places cards) (outcome_of (answer_of r) places' cards'))
  pub c-read-file : (file caps places : List ℕ)
      → One (λ ((r, caps', places') : c-file.FileAnswer × List ℕ × List ℕ). ReadFile file caps places (file_of r) caps' places')
  pub c_write-file : (caps : List ℕ) (b : ℕ) (places cards lent : List ℕ)
      → One (λ ((r, lent') : c-size.SizeAnswer × List ℕ). WriteFile caps b places cards lent (size_of r) lent')
  pub c-list_job : (file lent : List ℕ) → One (λ ((r, lent') : c-size.SizeAnswer × List ℕ). ListJob file lent (size_of r) lent')
  pub c-limits : One LimitsGiven
