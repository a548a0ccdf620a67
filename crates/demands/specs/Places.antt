-- The place that goes with a number: with 5 the lowest bad entry, with 6 the lowest entry that repeats an earlier one, with every other number 0.
-- Assumes nothing: these are definitions.
use Rattle.std.specs.Prelude.{◌≡◌, ◌≢◌, List, ℕ, suc, ◌<◌, length}
use Rattle.racks.specs.Racks.{Rack, slots}
use Rattle.racks.specs.Table.{dest}
use Rattle.answers.specs.declared.Answer.{Answer}
use Rattle.parsing.specs.File.{file_racks, file_places}
use Rattle.demands.specs.Rows.{Row, None, Holds, Given}
use Rattle.demands.specs.Conditions.{WrongAt}
use Rattle.demands.specs.FileConditions.{entry_rows}

-- g is the lowest number of which P holds
abbrev pub LowestOf : (ℕ → Type 0) → ℕ → Type 0
LowestOf P g = P g × ((k : ℕ) → k < g → ¬ P k)

-- entry g repeats an earlier one: both name one slot
abbrev pub RepeatsAt : List ℕ → ℕ → Type 0
RepeatsAt places g = (g < length places) × ((dest places g ≢ 65535) × ((h : ℕ) × (h < g) × (dest places h ≡ dest places g)))

-- with every number but 5 and 6 the place is 0
abbrev pub Unplaced : Answer → Type 0
Unplaced a = a.number ≢ 5 → a.number ≢ 6 → a.place ≡ 0

-- the place of an answer about a table
pub record TablePlaced (racks : List Rack) (places : List ℕ) (a : Answer) : Type 0 where
  pub bad : a.number ≡ 5 → LowestOf (WrongAt racks places) a.place
  pub twice : a.number ≡ 6 → LowestOf (RepeatsAt places) a.place
  pub other : Unplaced a

-- the place of an answer about a file, in which each entry is checked as it is read: of those before the bad one none is refused, and it is with 5
pub record FilePlaced (file : List ℕ) (a : Answer) : Type 0 where
  pub bad : a.number ≡ 5 → (a.place < slots (file_racks file)) × None (entry_rows file a.place) × Holds 5 (entry_rows file (suc a.place))
  pub twice : a.number ≡ 6 → LowestOf (RepeatsAt (file_places file)) a.place
  pub other : Unplaced a

-- an answer about a table: its number is given exactly when the rows say, and its place goes with that number
pub record Answered (racks : List Rack) (places : List ℕ) (rows : List Row) (a : Answer) : Type 0 where
  pub number : Given a.number rows
  pub place : TablePlaced racks places a

-- and about a file
pub record FileAnswered (file : List ℕ) (rows : List Row) (a : Answer) : Type 0 where
  pub number : Given a.number rows
  pub place : FilePlaced file a
