-- Every card home: what the shuffle and a whole run must leave. Assumes nothing: these are definitions.
use Rattle.std.specs.Prelude.{◌≡◌, ◌≢◌, List, ℕ, ◌*◌, ◌<◌, length}
use Rattle.racks.specs.Limits.{FREE}
use Rattle.racks.specs.Racks.{Rack, slots}
use Rattle.racks.specs.Table.{dest}
use Rattle.moves.specs.Blocks.{block, blank}
use Rattle.moves.specs.Moves.{Held}

-- every card of h is home in `end`: in the slot that its entry named, with its bytes; all else is free and zero
pub record Home (racks : List Rack) (b : ℕ) (h end : Held) : Type 0 where
  pub card : (g d : ℕ) → g < slots racks → dest h.places g ≡ d → d ≢ FREE → block b d end.cards ≡ block b g h.cards
  pub self : (g d : ℕ) → g < slots racks → dest h.places g ≡ d → d ≢ FREE → dest end.places d ≡ d
  pub zero : (d : ℕ) → d < slots racks → ((g : ℕ) → g < slots racks → dest h.places g ≢ d) → block b d end.cards ≡ blank b
  pub none : (d : ℕ) → d < slots racks → ((g : ℕ) → g < slots racks → dest h.places g ≢ d) → dest end.places d ≡ FREE
  pub places-long : length end.places ≡ slots racks
  pub cards-long : length end.cards ≡ slots racks * b
