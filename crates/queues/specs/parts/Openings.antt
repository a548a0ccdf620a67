-- The free slots of a table as a set. Assumes nothing: these are definitions.
use Rattle.std.specs.Prelude.{◌≡◌, false, List, ℕ, ◌+◌, ◌-◌, ◌^◌, ◌≤◌, ◌<◌, length}
use Rattle.racks.specs.Table.{free}
use Rattle.bits.specs.parts.Bits.{bit_on, is_on, Topped}

-- a word has the free slots from low up to high, and no other bit on
pub record Word (places : List ℕ) (low high word : ℕ) : Type 0 where
  pub shown : (b : ℕ) → low + b < high → bit_on word b ≡ free places (low + b)
  pub rest : (b : ℕ) → high ≤ low + b → bit_on word b ≡ false
  pub small : word < 2 ^ (high - low)

-- the set has the free slots of the first g
abbrev pub Shown : ℕ → List ℕ → List ℕ → Type 0
Shown g places bits = (k : ℕ) → k < g → is_on bits k ≡ free places k

-- the set has the free slots of the table
pub record FreeSet (places bits : List ℕ) : Type 0 where
  pub topped : Topped bits
  pub shown : Shown (length places) places bits
