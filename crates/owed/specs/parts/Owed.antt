-- What racks owe, as the code counts it: a flat table of 64 by 64 counts at rack times 64 plus rack. Assumes nothing: these are definitions.
use Rattle.std.specs.Prelude.{◌≡◌, List, ℕ, ◌+◌, ◌*◌, ◌<◌, length, get_or}
use Rattle.counting.specs.Tests.{pick}
use Rattle.racks.specs.Limits.{CELLS, RACKS, SLOTS}
use Rattle.racks.specs.Racks.{Rack}
use Rattle.racks.specs.Table.{dest, owes}
use Rattle.tables.specs.parts.Tables.{named_slot, target, away_by}
use Rattle.queues.specs.parts.Queued.{one_more}

-- where what rack i owes rack p stands
abbrev pub cell : ℕ → ℕ → ℕ
cell i p = i * RACKS + p

-- the table has what each rack owes each other
pub record Owed (racks : List Rack) (places owed : List ℕ) : Type 0 where
  pub counts : (i p : ℕ) → i < RACKS → p < RACKS → get_or owed (cell i p) 0 ≡ owes racks places i p
  pub long : length owed ≡ CELLS

-- what racks owe with slot g counted: a card that is away adds one
unfoldable pub owes_with : List ℕ → List ℕ → ℕ → List ℕ → List ℕ
owes_with places racking g owed = pick (away_by racking places g) (one_more owed (cell (get_or racking g 0) (target racking places g))) owed

-- slot g can be counted: its rack and its card's rack (its own where it is free) are in the table, and the count of the two has room for one more
pub record Countable (places racking : List ℕ) (g : ℕ) (owed : List ℕ) : Type 0 where
  pub slot : g < length places
  pub small : g < SLOTS
  pub rack : get_or racking g 0 < RACKS
  pub named : named_slot g (dest places g) < SLOTS
  pub racked : target racking places g < RACKS
  pub owed-long : length owed ≡ CELLS
  pub owed-fit : (k : ℕ) → get_or owed k 0 < 65535
