-- What reading a job tells is the file reader's outcome. Assumes nothing.
use mathlib.Core.Path.{◌≡◌, ap, ◌∙◌}
use mathlib.Core.List.{List, []}
use Prim.Native.Nat.{ℕ}
use lib.ListN.{drop}
use denote.Ref.{Bor}
use Rattle.std.specs.Prelude.{Ok, Err}
use Rattle.answers.specs.Answers.{refusal_of}
use Rattle.answers.specs.declared.Refusal as given
use Rattle.parsing.specs.File.{Read, read}
use Rattle.parsing.specs.Answers.{FileAnswer, refused_file, file_answered}
use Rattle.parsing.specs.declared.FileJob.{FileJob}
use Rattle.jobfile.specs.Answers.{cards_of, read_of}
use Rattle.jobfile.specs.Reading.{ahead, JobFile, job_told, JobRead}
use Rattle.jobfile.specs.declared.Reader.{Reader}
use Rattle.jobfile.proofs.Cards.{cards-none}

-- what is told of an outcome and of the card bytes
abbrev told : FileAnswer → List ℕ → JobFile
told found cards = record { answer = found.answer; racks = found.racks; bytes = found.bytes; slots = found.slots; start = found.start; cards = cards }

-- read from the part of the file ahead of the reader
module _ (reader : Reader) (file caps places caps' places' : List ℕ) (is : file ≡ drop reader.at reader.file.now) where
  job_read : (found : FileAnswer) (cards : List ℕ) → read_of found caps' places' file ≡ read file caps places → cards ≡ cards_of found file → JobRead reader caps places (told found cards) caps' places'
  unfolding read_of ahead
  job_read found cards outcome c =
      let e = outcome ∙ ap (λ (l : List ℕ). read l caps places) is in
      record {
        answer-is = ap (λ (r : Read). r.answer) e;
        racks-are = ap (λ (r : Read). r.racks) e;
        bytes-are = ap (λ (r : Read). r.bytes) e;
        slots-are = ap (λ (r : Read). r.slots) e;
        start_is = ap (λ (r : Read). r.start) e;
        cards-are = c ∙ ap (λ (r : Read). r.cards) e;
        caps-are = ap (λ (r : Read). r.caps) e;
        places-are = ap (λ (r : Read). r.places) e;
      }

  -- refused: an empty part
  pub job-refused : (e : given.Refusal) → read_of (refused_file (refusal_of e)) caps' places' file ≡ read file caps places → JobRead reader caps places (job_told (Err e)) caps' places'
  job-refused e outcome = job_read (refused_file (refusal_of e)) [] outcome (cards-none file e)

  -- done: the card bytes
  pub job-done : (found : FileJob) (cards : Bor (List ℕ)) → read_of (file_answered (Ok found)) caps' places' file ≡ read file caps places → cards.now ≡ cards_of (file_answered (Ok found)) file
      → JobRead reader caps places (job_told (Ok (record { racks = found.racks; bytes = found.bytes; slots = found.slots; start = found.start; cards = cards }))) caps' places'
  job-done found cards outcome c = job_read (file_answered (Ok found)) cards.now outcome c
