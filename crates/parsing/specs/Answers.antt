-- What the answer to a file says in the words of the definitions. Assumes nothing: these are definitions.
use Rattle.std.specs.Prelude.{List, ℕ, length, Result, Ok, Err}
use Rattle.counting.specs.Tests.{pick}
use Rattle.counting.specs.Checks.{done}
use Rattle.racks.specs.Racks.{slots}
use Rattle.answers.specs.Answers.{Refusal, refusal_of, placeless, no_counts, answer}
use Rattle.answers.specs.declared.Refusal as given
use Rattle.answers.specs.declared.Answer.{Answer}
use Rattle.parsing.specs.File.{file_racks, file_bytes, read_entries, file_refusal}
use Rattle.parsing.specs.declared.FileJob.{FileJob}

-- what reading a file tells: N, B, S and where the card bytes begin; all of these 0 on a refusal
pub record FileAnswer : Type 0 where
  pub answer : Answer
  pub racks : ℕ
  pub bytes : ℕ
  pub slots : ℕ
  pub start : ℕ

-- a refusal: its number and place, no counts, and 0 for every other
abbrev pub refused_file : Refusal → FileAnswer
refused_file x = record { answer = answer x no_counts; racks = 0; bytes = 0; slots = 0; start = 0 }

-- the answer of a file that is done: N, B, S and where the card bytes begin
abbrev pub done_file : List ℕ → FileAnswer
done_file file =
    record {
      answer = answer (placeless 0) no_counts;
      racks = length (file_racks file);
      bytes = file_bytes file;
      slots = slots (file_racks file);
      start = (read_entries file).next;
    }

-- the answer of a file that gives number n
abbrev pub file_answer : List ℕ → ℕ → FileAnswer
file_answer file n = pick (done n) (done_file file) (refused_file (file_refusal file n))

-- what the reader gives, as the answer, N, B, S and where the card bytes begin
abbrev pub file_answered : Result FileJob given.Refusal → FileAnswer
file_answered (Ok job) =
    record { answer = answer (placeless 0) no_counts; racks = job.racks; bytes = job.bytes; slots = job.slots; start = job.start }
file_answered (Err e) = refused_file (refusal_of e)
