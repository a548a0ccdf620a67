-- What *shelve* prints. Assumes nothing: these are definitions.
use Rattle.std.specs.Prelude.{List, [], ◌∷◌, ◌≡◌, ℕ, ltb, length}
use Rattle.counting.specs.Tests.{pick}
use Rattle.counting.specs.Checks.{Check, first, done}
use Rattle.racks.specs.Numbers.{too_short}
use Rattle.answers.specs.Answers.{placeless, SizeAnswer, Sized, sized, sized_of}
use Rattle.moves.specs.Moves.{Held}
use Rattle.parsing.specs.File.{file_racks, file_bytes, file_places, file_cards, file_checks}
use Rattle.texts.specs.Lines.{refused_line}
use Rattle.runtexts.specs.RunText.{FILE, run_text}

-- the program looks at 18 before all else; its own lists have room for every job, so there is no 17
unfoldable pub program_checks : List ℕ → List Check
program_checks file = (ltb FILE (length file), 18) ∷ file_checks file

-- the table and the cards of the file
unfoldable pub file_held : List ℕ → Held
file_held file = record { places = file_places file; cards = file_cards file }

-- **shelve**: the text that it prints for a file
unfoldable pub listing : List ℕ → List ℕ
listing file =
    let n = first (program_checks file) in
    pick (done n) (run_text (file_racks file) (file_bytes file) (file_held file)) (refused_line n)

-- a buffer of so many bytes is long enough for every text (`listing-enough`): at most 4,096 phases of 13 bytes, 4,096 moves and 6,144 copies of
-- 12, a byte for each of 4,096 slots, two for each byte of the file, and 58 for the rest of the lines
abbrev pub ENOUGH : ℕ
ENOUGH = 245818

-- a text put into a lent buffer; 13 where that is too short for it
unfoldable pub handed_over : List ℕ → List ℕ → Sized
handed_over out lent = sized (placeless (first ((too_short lent out, 13) ∷ []))) out lent

-- **The listing as a call.** A text that says `refused` is written like any other
unfoldable pub printed : List ℕ → List ℕ → Sized
printed file lent = handed_over (listing file) lent

-- the contract of `list_job`: what it gives, and the lent buffer at exit
abbrev pub ListJob : List ℕ → List ℕ → SizeAnswer → List ℕ → Type 0
ListJob file lent r lent' = sized_of r lent' ≡ printed file lent
