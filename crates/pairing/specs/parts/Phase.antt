-- A phase as the code plans it, from the queues and the free slots. Assumes nothing: these are definitions.
use Rattle.std.specs.Prelude.{◌≡◌, List, ℕ, ◌+◌, ◌*◌, ◌-◌, ◌≤◌, ◌<◌, min, length, get_or, set}
use Rattle.std.proofs.lemmas.List.Edits.{sets}
use Rattle.counting.specs.Lists.{Pair, tabulate, join, pair_up, flat}
use Rattle.racks.specs.Limits.{RACKS, SLOTS}
use Rattle.bits.specs.parts.Bits.{is_on, Topped}
use Rattle.queues.specs.parts.Line.{head_of, tail_of, room_of, HEADS, ROOMS, LINE, WAITING}
use Rattle.queues.specs.parts.Queues.{opens, part, Rows, rows_of, Exact, Bounded}

-- the cards of a queue from head up to end, with the slots of the set from low on: first with first
unfoldable pub served : List ℕ → List ℕ → ℕ → ℕ → ℕ → List Pair
served bits queue head end low = pair_up (part queue head end) (opens bits low SLOTS)

-- how many cards rack p takes: as many as wait for it, but no more than it has room for
unfoldable pub sent : Rows → ℕ → ℕ
sent rows p = min (rows.rooms p) (rows.tails p - rows.heads p)

-- the pairs of target p
unfoldable pub pairs_for : Rows → ℕ → List Pair
pairs_for rows p = served rows.bits rows.queue (rows.heads p) (rows.heads p + sent rows p) (rows.lows p)

-- the plan of the first n racks
unfoldable pub queued_plan : ℕ → Rows → List Pair
queued_plan n rows = join (tabulate n (pairs_for rows))

-- pairs written from `at` on, and how many
pub record PairsWritten (pairs : List Pair) (before : List ℕ) (at : ℕ) (after : List ℕ) (count : ℕ) : Type 0 where
  pub list : after ≡ sets before at (flat pairs)
  pub count-is : count ≡ length pairs

-- the line after a visit of rack p: its queue begins r cards later, and it has r free slots less
unfoldable pub visited : ℕ → ℕ → List ℕ → List ℕ
visited p r line = set (set line (HEADS + p) (head_of line p + r)) (ROOMS + p) (room_of line p - r)

-- rack p visited: its pairs are written, as many as it takes
pub record Visited (ends line bits : List ℕ) (p : ℕ) (log : List ℕ) (at : ℕ) (line' log' : List ℕ) (r : ℕ) : Type 0 where
  pub made-is : r ≡ sent (rows_of ends line bits) p
  pub list : log' ≡ sets log at (flat (pairs_for (rows_of ends line bits) p))
  pub line-is : line' ≡ visited p r line

-- the first n racks were visited: their queues begin behind the cards that they take, and they have so much less room
pub record RacksPassed (n : ℕ) (rows rows' : Rows) : Type 0 where
  pub queue-is : rows'.queue ≡ rows.queue
  pub tails-are : (p : ℕ) → p < RACKS → rows'.tails p ≡ rows.tails p
  pub heads-are : (p : ℕ) → p < n → rows'.heads p ≡ rows.heads p + sent rows p
  pub rooms-are : (p : ℕ) → p < n → rows'.rooms p ≡ rows.rooms p - sent rows p
  pub heads-rest : (p : ℕ) → n ≤ p → p < RACKS → rows'.heads p ≡ rows.heads p
  pub rooms-rest : (p : ℕ) → n ≤ p → p < RACKS → rows'.rooms p ≡ rows.rooms p

-- a phase can be planned behind `at` in the log
pub record Plannable (ends line bits log : List ℕ) (at : ℕ) : Type 0 where
  pub long : length line ≡ LINE
  pub bounded : Bounded (rows_of ends line bits)
  pub fits : at + 2 * length (queued_plan RACKS (rows_of ends line bits)) ≤ length log

-- a phase planned: its pairs are written, every rack was visited, and the set is the same
pub record PhasePlanned (ends line bits log : List ℕ) (at : ℕ) (line' bits' log' : List ℕ) (count : ℕ) : Type 0 where
  pub written : PairsWritten (queued_plan RACKS (rows_of ends line bits)) log at log' count
  pub passed : RacksPassed RACKS (rows_of ends line bits) (rows_of ends line' bits)
  pub long : length line' ≡ LINE
  pub topped : Topped bits'
  pub same : (k : ℕ) → k < SLOTS → is_on bits' k ≡ is_on bits k
  pub exact : Exact RACKS (head_of line') (tail_of line') (get_or bits' WAITING 0)
