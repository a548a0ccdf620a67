-- What the inner functions of the writer promise: numbers counted and put into a buffer, and the file by a job. Assumes nothing: these are definitions.
use Rattle.std.specs.Prelude.{◌≡◌, List, [], ◌∷◌, ◌++◌, ℕ, ◌+◌, ◌≤◌, ◌<◌, length, get_or}
use Rattle.std.proofs.lemmas.List.Edits.{sets}
use Rattle.counting.specs.Lists.{each}
use Rattle.counting.specs.Checks.{first, known}
use Rattle.racks.specs.Limits.{BYTES, SLOTS}
use Rattle.racks.specs.Numbers.{too_short}
use Rattle.racks.specs.Job.{racks_of, Sound}
use Rattle.racks.specs.declared.Job.{Job}
use Rattle.tables.specs.parts.Tables.{refusal_by, cards_number}
use Rattle.answers.specs.Answers.{Sized, sized}
use Rattle.jobwriter.specs.Writing.{numerals_of, file_entry, file_for}

-- numbers of at most two groups
abbrev pub Short : List ℕ → Type 0
Short xs = (i : ℕ) → i < length xs → get_or xs i 0 < 16384

-- bytes put into a buffer from `at` on, of which what comes behind them need not stand yet: with anything behind them they stand there; r is the
-- position behind them
pub record Put (bytes before : List ℕ) (at : ℕ) (after : List ℕ) (r : ℕ) : Type 0 where
  pub stored : (rest : List ℕ) → 0 < length rest → sets after r rest ≡ sets before at (bytes ++ rest)
  pub behind : r ≡ at + length bytes
  pub kept : length after ≡ length before

-- numbers fit into the buffer from `at` on, and a byte behind them
abbrev pub Roomy : List ℕ → ℕ → List ℕ → Type 0
Roomy xs at out = at + length (numerals_of xs) + 1 ≤ length out

-- what a closure gives at the places below n are the numbers of a list, of at most two groups; it may be called there
pub record Gives (pre : ℕ → Type 0) (post : ℕ → ℕ → Type 0) (n : ℕ) (xs : List ℕ) : Type 0 where
  pub as_many : n ≡ length xs
  pub called : (i : ℕ) → i < n → pre i
  pub given : (i x : ℕ) → i < n → post i x → x ≡ get_or xs i 0
  pub short : Short xs

-- what acceptance gives the writer: numbers of at most two groups
pub record Writable (job : Job) (b : ℕ) (places : List ℕ) : Type 0 where
  pub sound : Sound job
  pub bytes : b ≤ BYTES
  pub short : Short (each file_entry places)
  pub few : length places ≤ SLOTS

-- the number of the writer, by a job: that of the table and its cards, then 19
unfoldable pub write_number : Job → ℕ → List ℕ → List ℕ → List ℕ → ℕ
write_number job b places cards lent = first (known (cards_number job b places cards) ∷ (too_short lent (file_for (racks_of job) b places cards), 19) ∷ [])

-- the file written, by a job
unfoldable pub filed_by : Job → ℕ → List ℕ → List ℕ → List ℕ → Sized
filed_by job b places cards lent =
    sized (refusal_by job places (write_number job b places cards lent)) (file_for (racks_of job) b places cards) lent
