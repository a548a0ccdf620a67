-- The slots settled after the copies: the new table, and free slots zeroed. Assumes nothing: these are definitions.
use Rattle.std.specs.Prelude.{◌≡◌, ◌≢◌, List, ℕ, ◌+◌, ◌≤◌, ◌<◌, eqb, length, get_or, set}
use Rattle.counting.specs.Tests.{pick, bit}
use Rattle.counting.specs.Lists.{tabulate}
use Rattle.racks.specs.Limits.{FREE, SOURCES}
use Rattle.moves.specs.Blocks.{block, blank}
use Rattle.factors.specs.Copies.{source}
use Rattle.shuffle.specs.Shuffle.{last_entry}

-- slot d's entry at the end, by the slot whose card is bound for it
unfoldable pub entry_by : ℕ → ℕ → ℕ
entry_by source d = pick (eqb source FREE) FREE d

-- slot d is settled: its entry, and its number at the end of the free slots, where it stays if it is free
pub record SlotSettled (source d n : ℕ) (places frees : List ℕ) (count : ℕ) (places' frees' : List ℕ) : Type 0 where
  pub entry : places' ≡ set places d (entry_by source d)
  pub slot : frees' ≡ set frees n d
  pub count-is : count ≡ n + bit (eqb source FREE)

-- the first n numbers are those of the first d slots that no card is bound for
pub record FreeListed (places : List ℕ) (d : ℕ) (frees : List ℕ) (n : ℕ) : Type 0 where
  pub hits : (i : ℕ) → i < n → (get_or frees i 0 < d) × (source places (get_or frees i 0) ≡ FREE)
  pub all : (g : ℕ) → g < d → source places g ≡ FREE → (i : ℕ) × (i < n) × (get_or frees i 0 ≡ g)
  pub few : n ≤ d
  pub long : SOURCES ≤ length frees

-- the new table, and the free slots
pub record TableSettled (places places' frees : List ℕ) (n : ℕ) : Type 0 where
  pub entries : places' ≡ tabulate (length places) (last_entry places)
  pub listed : FreeListed places (length places) frees n
  pub size : length places' ≡ length places

-- the first n numbers are slots of a table of S
abbrev pub AllBelow : ℕ → ℕ → List ℕ → Type 0
AllBelow S n frees = (i : ℕ) → i < n → get_or frees i 0 < S

-- the slots that are listed are zeroed, all others as they were
pub record Zeroed (b : ℕ) (frees : List ℕ) (n : ℕ) (cards cards' : List ℕ) : Type 0 where
  pub done : (i : ℕ) → i < n → block b (get_or frees i 0) cards' ≡ blank b
  pub rest : (g : ℕ) → ((i : ℕ) → i < n → get_or frees i 0 ≢ g) → block b g cards' ≡ block b g cards
  pub size : length cards' ≡ length cards
