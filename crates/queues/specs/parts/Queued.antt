-- The pass that fills the queues, a slot at a time, as the code makes it. Assumes nothing: these are definitions.
use Rattle.std.specs.Prelude.{◌≡◌, Bool, false, List, ℕ, ◌+◌, ◌≤◌, ◌<◌, leb, ltb, length, get_or, set}
use Rattle.counting.specs.Tests.{◌and◌, pick}
use Rattle.racks.specs.Limits.{RACKS, SLOTS}
use Rattle.racks.specs.Racks.{Rack, base}
use Rattle.racks.specs.Table.{dest, free}
use Rattle.tables.specs.parts.Tables.{named_slot, target, away_by}
use Rattle.plans.specs.Plan.{room}
use Rattle.bits.specs.parts.Bits.{bit_on}
use Rattle.queues.specs.parts.Line.{head_of, tail_of, room_of, HEADS, TAILS, ROOMS, LINE}

-- slot g is free, and not below low
unfoldable pub free_from : List ℕ → ℕ → ℕ → Bool
free_from places low g = leb low g and free places g

-- where the queue of rack p begins: each has one place more than its rack has slots
unfoldable pub begins : List Rack → ℕ → ℕ
begins racks p = base racks p + p

-- the line with rack p, which begins at slot low and has so many free slots; its queue is empty
unfoldable pub placed : ℕ → ℕ → ℕ → List ℕ → List ℕ
placed p low rooms line = set (set (set line (HEADS + p) (low + p)) (TAILS + p) (low + p)) (ROOMS + p) rooms

-- the line has the first n racks, with empty queues, and of the others nothing
pub record Placed (racks : List Rack) (places : List ℕ) (n : ℕ) (line : List ℕ) : Type 0 where
  pub heads-are : (p : ℕ) → p < n → head_of line p ≡ begins racks p
  pub tails-are : (p : ℕ) → p < n → tail_of line p ≡ begins racks p
  pub rooms-are : (p : ℕ) → p < n → room_of line p ≡ room racks places p
  pub heads-none : (p : ℕ) → n ≤ p → p < RACKS → head_of line p ≡ 0
  pub tails-none : (p : ℕ) → n ≤ p → p < RACKS → tail_of line p ≡ 0
  pub rooms-none : (p : ℕ) → n ≤ p → p < RACKS → room_of line p ≡ 0
  pub long : length line ≡ LINE

-- one more at k
unfoldable pub one_more : List ℕ → ℕ → List ℕ
one_more counts k = set counts k (get_or counts k 0 + 1)

-- the line after slot g: it stands at the tail of that rack's queue, which is then one longer. Where no card is away the tail stays, so that
-- the slot stands behind the queue, where nothing is read
unfoldable pub queued : List ℕ → List ℕ → ℕ → List ℕ → List ℕ
queued racking places g line =
    let p = target racking places g in
    let line' = set line (tail_of line p) g in
    pick (away_by racking places g) (one_more line' (TAILS + p)) line'

-- slot g can be queued: it and its card's destination are slots, the table has racks there, and its card's queue has room
pub record Queueable (racking places : List ℕ) (g : ℕ) (line : List ℕ) : Type 0 where
  pub slot : g < length places
  pub small : g < SLOTS
  pub rack : get_or racking g 0 < RACKS
  pub named : named_slot g (dest places g) < SLOTS
  pub racked : target racking places g < RACKS
  pub fits : tail_of line (target racking places g) < HEADS
  pub long : length line ≡ LINE

-- a word with a bit on for each of n racks for which a card waits
pub record Awaiting (n : ℕ) (line : List ℕ) (word : ℕ) : Type 0 where
  pub racks-are : (p : ℕ) → p < n → bit_on word p ≡ ltb (head_of line p) (tail_of line p)
  pub rest : (p : ℕ) → n ≤ p → bit_on word p ≡ false
