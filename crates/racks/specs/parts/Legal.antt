-- "Any table that passes these rules is a legal state": what laws and inner functions ask of a table and of racks. Assumes nothing: these are definitions.
use Rattle.std.specs.Prelude.{◌≡◌, true, false, List, ℕ, suc, ◌<◌, length}
use Rattle.racks.specs.Racks.{Rack, base, slots, spare_of, is_user}
use Rattle.racks.specs.Table.{dest, free}

-- S entries, each free or a user slot, and no two the same slot
pub record Legal (racks : List Rack) (places : List ℕ) : Type 0 where
  pub long : length places ≡ slots racks
  pub named : (g : ℕ) → g < slots racks → free places g ≡ false → is_user racks (dest places g) ≡ true
  pub once : (g h : ℕ) → g < slots racks → h < slots racks → free places g ≡ false → dest places g ≡ dest places h → g ≡ h

-- every rack has a spare
pub record Spared (racks : List Rack) : Type 0 where
  pub spare : (p : ℕ) → p < length racks → spare_of racks p < base racks (suc p)
