-- A move that may be made: what 7 to 11 leave. Assumes nothing: these are definitions.
use Rattle.std.specs.Prelude.{◌≡◌, true, ◌≢◌, List, ℕ, ◌<◌}
use Rattle.counting.specs.Lists.{Pair}
use Rattle.racks.specs.Racks.{Rack, slots, rack_of}
use Rattle.racks.specs.Table.{free, away, rack_to}

-- both are slots, the source's card is away, the target is free and on the card's destination rack
pub record Allowed (racks : List Rack) (places : List ℕ) (m : Pair) : Type 0 where
  pub from_lt : m.0 < slots racks
  pub to_lt : m.1 < slots racks
  pub is-away : away racks places m.0 ≡ true
  pub is_free : free places m.1 ≡ true
  pub meets : rack_of racks m.1 ≡ rack_to racks places m.0

-- two pairs have different sources, and different targets
abbrev pub Apart : Pair → Pair → Type 0
Apart m n = (m.0 ≢ n.0) × (m.1 ≢ n.1)
