-- What the copy list asks of a table, and the chain of a slot step by step. Assumes nothing: these are definitions.
use Rattle.std.specs.Prelude.{◌≡◌, ◌≢◌, ◌⊎◌, List, ℕ, ◌≤◌, ◌<◌, length}
use Rattle.racks.specs.Limits.{FREE, HAND, SLOTS}
use Rattle.racks.specs.Table.{dest}

-- every card's destination is a slot, no two cards' the same; so cards and destinations form shifts and cycles
pub record Chained (places : List ℕ) : Type 0 where
  pub small : length places ≤ SLOTS
  pub below : (x : ℕ) → dest places x ≢ FREE → dest places x < length places
  pub once : (x y : ℕ) → dest places x ≡ dest places y → dest places x ≢ FREE → x ≡ y

-- a copy has two ends, each one of S slots or the hand
pub record Proper (S from to : ℕ) : Type 0 where
  pub differ : from ≢ to
  pub source : (from < S) ⊎ (from ≡ HAND)
  pub target : (to < S) ⊎ (to ≡ HAND)
