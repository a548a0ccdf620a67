-- What the reader's answers say in the words of the definitions. Assumes nothing: these are definitions.
use Rattle.std.specs.Prelude.{List, [], ◌≡◌, ℕ, drop}
use Rattle.counting.specs.Tests.{pick}
use Rattle.counting.specs.Checks.{done}
use Rattle.parsing.specs.File.{Read, read}
use Rattle.parsing.specs.Answers.{FileAnswer}

-- the card bytes: what lies from their start on; an empty part on a refusal
unfoldable pub cards_of : FileAnswer → List ℕ → List ℕ
cards_of found file = pick (done found.answer.number) (drop found.start file) []

-- the outcome that an answer and the two lists at exit are
unfoldable pub read_of : FileAnswer → List ℕ → List ℕ → List ℕ → Read
read_of found caps places file =
    record {
      answer = found.answer;
      racks = found.racks;
      bytes = found.bytes;
      slots = found.slots;
      caps = caps;
      places = places;
      start = found.start;
      cards = cards_of found file;
    }

-- the contract of `read_file`: what it gives, and the two lent lists at exit
abbrev pub ReadFile : List ℕ → List ℕ → List ℕ → FileAnswer → List ℕ → List ℕ → Type 0
ReadFile file caps places r caps' places' = read_of r caps' places' file ≡ read file caps places

-- the contract of `rest_of`: the bytes of the part that it hands back
abbrev pub RestOf : List ℕ → ℕ → List ℕ → Type 0
RestOf file at part = part ≡ drop at file

-- the contract of `card_bytes`: the bytes of the part that it hands back
abbrev pub CardBytes : List ℕ → FileAnswer → List ℕ → Type 0
CardBytes file found part = part ≡ cards_of found file
