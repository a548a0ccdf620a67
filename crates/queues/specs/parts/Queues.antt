-- What a call keeps of the racks, as it is read: each rack's queue of arrivals, and its free slots as a set of bits. Assumes nothing: these are definitions.
use Rattle.std.specs.Prelude.{◌≡◌, Bool, List, ℕ, ◌≤◌, ◌<◌, leb, ltb, length, get_or}
use Rattle.std.proofs.Math.Seq.{slice}
use Rattle.counting.specs.Tests.{◌and◌}
use Rattle.counting.specs.Count.{select}
use Rattle.racks.specs.Limits.{RACKS, SLOTS}
use Rattle.racks.specs.Job.{start_in}
use Rattle.bits.specs.parts.Bits.{bit_on, is_on, Topped}
use Rattle.queues.specs.parts.Line.{queue_of, head_of, tail_of, room_of, HEADS, WAITING}

-- slot g is in the set, and not below low
unfoldable pub open_from : List ℕ → ℕ → ℕ → Bool
open_from bits low g = leb low g and is_on bits g

-- the slots of the set from low up to high
unfoldable pub opens : List ℕ → ℕ → ℕ → List ℕ
opens bits low high = select high (open_from bits low)

-- what stands in a list from index low up to high
unfoldable pub part : List ℕ → ℕ → ℕ → List ℕ
part l low high = slice low high l

-- the state of a call, as it is read: the queues of all racks in one list, where each begins and ends; how many free slots each rack has and where
-- the search for them begins; the free slots as a set; and a word with a bit for each rack that is on where a card waits for it
pub record Rows : Type 0 where
  pub queue : List ℕ
  pub heads : ℕ → ℕ
  pub tails : ℕ → ℕ
  pub rooms : ℕ → ℕ
  pub lows : ℕ → ℕ
  pub bits : List ℕ
  pub waiting : ℕ

-- read from the racks' ends, the line and the words: the search begins at a rack's first slot
abbrev pub rows_of : List ℕ → List ℕ → List ℕ → Rows
rows_of ends line bits =
    record { queue = queue_of line; heads = head_of line; tails = tail_of line; rooms = room_of line; lows = start_in ends; bits = bits; waiting = get_or bits WAITING 0 }

-- what rack p's visit needs
pub record Visitable (rows : Rows) (p : ℕ) : Type 0 where
  pub queued : rows.heads p ≤ rows.tails p
  pub within : rows.tails p ≤ HEADS
  pub low_in : rows.lows p ≤ SLOTS
  pub roomy : rows.rooms p ≤ length (opens rows.bits (rows.lows p) SLOTS)

-- a rack's bit is on where a card waits for it
abbrev pub Exact : ℕ → (ℕ → ℕ) → (ℕ → ℕ) → ℕ → Type 0
Exact n heads tails waiting = (p : ℕ) → p < n → bit_on waiting p ≡ ltb (heads p) (tails p)

-- every rack can be visited
pub record Bounded (rows : Rows) : Type 0 where
  pub queue_long : length rows.queue ≡ HEADS
  pub racks : (p : ℕ) → p < RACKS → Visitable rows p
  pub topped : Topped rows.bits
  pub exact : Exact RACKS rows.heads rows.tails rows.waiting
