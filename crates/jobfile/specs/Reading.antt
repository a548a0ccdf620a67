-- What the reader's thin functions promise. Assumes nothing: these are definitions.
use Rattle.std.specs.Prelude.{◌≡◌, List, [], ℕ, drop, Result, Ok, Err}
use Rattle.std.specs.Borrow.{Bor}
use Rattle.answers.specs.Answers.{refusal_of, placeless, no_counts, answer}
use Rattle.answers.specs.declared.Refusal as given
use Rattle.answers.specs.declared.Answer.{Answer}
use Rattle.numerals.specs.Numeral.{numeral}
use Rattle.parsing.specs.File.{read}
use Rattle.parsing.specs.declared.FileJob.{FileJob}
use Rattle.numerals.specs.Numeral.{got_of}
use Rattle.numerals.specs.declared.Numeral.{Numeral}
use Rattle.jobfile.specs.declared.Reader.{Reader}
use Rattle.jobfile.specs.declared.Step.{Step}
use Rattle.jobfile.specs.declared.JobFile as code

-- the position of the reader behind a numeral: it moves on, and stays where the numeral is refused
unfoldable pub at_after : Result Numeral given.Refusal → ℕ → ℕ
at_after (Ok x) at = x.next
at_after (Err e) at = at

-- a numeral of the file and the position behind it
pub record Stepped (file : List ℕ) (at : ℕ) (step : Step) : Type 0 where
  pub got-is : got_of step.numeral ≡ numeral file at
  pub at-is : step.at ≡ at_after step.numeral at

-- the next numeral of a reader, which keeps its file and remembers its position
pub record Next (before : Reader) (n : Result Numeral given.Refusal) (after : Reader) : Type 0 where
  pub got-is : got_of n ≡ numeral before.file.now before.at
  pub file-is : after.file ≡ before.file
  pub at-is : after.at ≡ at_after n before.at

-- the part of the file from a reader's position on: empty where the position lies behind the end
unfoldable pub ahead : Reader → List ℕ
ahead reader = drop reader.at reader.file.now

-- what reading a job tells: the answer, N, B, S, where the card bytes begin, and their bytes; no card bytes and 0 for every other on a refusal
pub record JobFile : Type 0 where
  pub answer : Answer
  pub racks : ℕ
  pub bytes : ℕ
  pub slots : ℕ
  pub start : ℕ
  pub cards : List ℕ

abbrev pub job_told : Result code.JobFile given.Refusal → JobFile
job_told (Ok job) =
    record { answer = answer (placeless 0) no_counts; racks = job.racks; bytes = job.bytes; slots = job.slots; start = job.start; cards = job.cards.now }
job_told (Err e) = record { answer = answer (refusal_of e) no_counts; racks = 0; bytes = 0; slots = 0; start = 0; cards = [] }

-- **Job file.** The job at the reader's position: N, B, S, how far behind that position the card bytes begin, these as a part of the file, and the two
-- lent lists at exit
pub record JobRead (reader : Reader) (caps places : List ℕ) (job : JobFile) (caps' places' : List ℕ) : Type 0 where
  pub answer-is : job.answer ≡ (read (ahead reader) caps places).answer
  pub racks-are : job.racks ≡ (read (ahead reader) caps places).racks
  pub bytes-are : job.bytes ≡ (read (ahead reader) caps places).bytes
  pub slots-are : job.slots ≡ (read (ahead reader) caps places).slots
  pub start_is : job.start ≡ (read (ahead reader) caps places).start
  pub cards-are : job.cards ≡ (read (ahead reader) caps places).cards
  pub caps-are : caps' ≡ (read (ahead reader) caps places).caps
  pub places-are : places' ≡ (read (ahead reader) caps places).places

-- the contract of `new`: the file that is lent, and position 0
abbrev pub New : Bor (List ℕ) → Reader → Type 0
New file r = (r.file ≡ file) × (r.at ≡ 0)

-- what is seen of a job that is read: the part of the file that its cards are is known by its bytes
abbrev pub job_seen : JobFile × List ℕ × List ℕ → Answer × ℕ × ℕ × ℕ × ℕ × List ℕ × List ℕ × List ℕ
job_seen (job, caps, places) = (job.answer, job.racks, job.bytes, job.slots, job.start, job.cards, caps, places)

-- what is seen of the result itself: N, B, S and where the card bytes begin, or why it is refused, and the card bytes
abbrev pub result_seen : Result code.JobFile given.Refusal → Result FileJob given.Refusal × List ℕ
result_seen (Ok job) = (Ok (record { racks = job.racks; bytes = job.bytes; slots = job.slots; start = job.start }), job.cards.now)
result_seen (Err e) = (Err e, [])

-- and the two lent lists at exit
abbrev pub given_seen : Result code.JobFile given.Refusal × List ℕ × List ℕ → Result FileJob given.Refusal × List ℕ × List ℕ × List ℕ
given_seen (r, caps, places) = ((result_seen r).0, (result_seen r).1, caps, places)
