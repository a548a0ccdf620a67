-- The rows of a call fit its table: then the plan that they give is the plan of the phase. Assumes nothing.
use Rattle.std.specs.Prelude.{◌≡◌, List, ℕ, ◌≤◌, ◌<◌, length}
use Rattle.counting.specs.Count.{select}
use Rattle.racks.specs.Limits.{RACKS, SLOTS}
use Rattle.racks.specs.Racks.{Rack, base, slots}
use Rattle.racks.specs.Table.{away_to}
use Rattle.plans.specs.Plan.{room}
use Rattle.queues.specs.parts.Line.{LINE}
use Rattle.queues.specs.parts.Queues.{Rows, rows_of, Bounded, part}
use Rattle.queues.specs.parts.Openings.{Shown}

-- each queue has the slots of the cards away to its rack, ascending; the set has the free slots, of which each rack has so many
pub record Ready (racks : List Rack) (places : List ℕ) (rows : Rows) : Type 0 where
  pub bounded : Bounded rows
  pub few : length racks ≤ RACKS
  pub small : slots racks ≤ SLOTS
  pub waits : (p : ℕ) → p < length racks → part rows.queue (rows.heads p) (rows.tails p) ≡ select (slots racks) (away_to racks places p)
  pub shown : Shown (slots racks) places rows.bits
  pub rooms-are : (p : ℕ) → p < length racks → rows.rooms p ≡ room racks places p
  pub lows-are : (p : ℕ) → p < length racks → rows.lows p ≡ base racks p
  pub others : (p : ℕ) → length racks ≤ p → p < RACKS → rows.heads p ≡ rows.tails p
  pub others-full : (p : ℕ) → length racks ≤ p → p < RACKS → rows.rooms p ≡ 0

-- the line and the words of a call at its start
pub record Started (racks : List Rack) (places ends line bits : List ℕ) : Type 0 where
  pub ready : Ready racks places (rows_of ends line bits)
  pub long : length line ≡ LINE
