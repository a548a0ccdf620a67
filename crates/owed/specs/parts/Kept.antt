-- The tables of what racks owe and await, kept through the moves of a run. Assumes nothing: these are definitions.
use Rattle.std.specs.Prelude.{◌≡◌, Bool, not, List, [], ◌∷◌, ℕ, ◌-◌, ◌<◌, eqb, length, get_or, set}
use Rattle.counting.specs.Lists.{Pair}
use Rattle.racks.specs.Limits.{CELLS, RACKS, SLOTS}
use Rattle.racks.specs.Racks.{Rack}
use Rattle.owed.specs.parts.Owed.{cell}
use Rattle.moves.specs.Awaits.{awaits}

-- where the move's racks stand in a table of 64 by 64 counts
unfoldable pub cell_of : List ℕ → Pair → ℕ
cell_of racking m = cell (get_or racking m.0 0) (get_or racking m.1 0)

-- the counts after a move: one less
unfoldable pub pay : List ℕ → Pair → List ℕ → List ℕ
pay racking m counts = set counts (cell_of racking m) (get_or counts (cell_of racking m) 0 - 1)

-- the counts after moves
unfoldable pub paid : List ℕ → List Pair → List ℕ → List ℕ
paid racking [] counts = counts
paid racking (m ∷ ms) counts = paid racking ms (pay racking m counts)

-- each move is one that is still owed when its turn comes, from one of 64 racks to another
pub data Payable (racking : List ℕ) : List Pair → List ℕ → Type 0 where
  none : {counts : List ℕ} → Payable racking [] counts
  more : {m : Pair} {ms : List Pair} {counts : List ℕ} → m.0 < SLOTS → m.1 < SLOTS → get_or racking m.0 0 < RACKS → get_or racking m.1 0 < RACKS
      → 0 < get_or counts (cell_of racking m) 0 → Payable racking ms (pay racking m counts) → Payable racking (m ∷ ms) counts

-- moves paid for in both tables
pub record Paid (racking : List ℕ) (ms : List Pair) (owes awaits owes' awaits' : List ℕ) : Type 0 where
  pub owes-are : owes' ≡ paid racking ms owes
  pub awaits-are : awaits' ≡ paid racking ms awaits

-- the table has what each rack awaits: what it was owed at the start, less the moves made
pub record Awaited (racks : List Rack) (start : List ℕ) (made : List Pair) (awaited : List ℕ) : Type 0 where
  pub counts : (i p : ℕ) → i < RACKS → p < RACKS → get_or awaited (cell i p) 0 ≡ awaits racks start made i p
  pub long : length awaited ≡ CELLS

-- cell k of a table has a count
unfoldable pub owing : List ℕ → ℕ → Bool
owing counts k = not (eqb (get_or counts k 0) 0)
