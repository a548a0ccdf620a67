-- What the laws of reading back say: numbers that pass, and a job's file read as that job. Assumes nothing: these are definitions.
use Rattle.std.specs.Prelude.{◌≡◌, List, ◌++◌, ℕ, ◌+◌, ◌<◌, length, get_or, take}
use Rattle.counting.specs.Checks.{first}
use Rattle.racks.specs.Racks.{of_caps}
use Rattle.parsing.specs.File.{read_m, read_entries, file_bytes, file_places, file_cards, file_checks}
use Rattle.jobwriter.specs.Writing.{file_for}

-- each number has at most three groups, and passes `bad` behind those before it
abbrev pub Passing : (List ℕ → ℕ → ℕ) → List ℕ → List ℕ → Type 0
Passing bad before xs = (k : ℕ) → k < length xs → (get_or xs k 0 < 2097152) × (bad (before ++ take k xs) (get_or xs k 0) ≡ 0)

module _ (caps : List ℕ) (b : ℕ) (places cards : List ℕ) where
  -- the file of a job
  abbrev pub jobs_file : List ℕ
  jobs_file = file_for (of_caps caps) b places cards

  -- the file of a job is read back
  pub record ReadBack : Type 0 where
    -- it is not refused
    pub none : first (file_checks jobs_file) ≡ 0
    -- the m_p
    pub caps-are : (read_m jobs_file).values ≡ caps
    -- B
    pub bytes-are : file_bytes jobs_file ≡ b
    -- the places table
    pub places-are : file_places jobs_file ≡ places
    -- the card bytes
    pub cards-are : file_cards jobs_file ≡ cards
    -- which begin behind the last entry and end the file
    pub next-is : (read_entries jobs_file).next + length cards ≡ length jobs_file
