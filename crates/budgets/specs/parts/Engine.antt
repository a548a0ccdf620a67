-- The engine that makes moves: a phase planned from the queues, as many of its pairs carried as are left of an allowance.
-- Assumes nothing: these are definitions.
use Rattle.std.specs.Prelude.{◌≡◌, List, [], ◌∷◌, ℕ, ◌+◌, ◌*◌, ◌-◌, ◌≤◌, ◌<◌, min, length, get_or, take}
use Rattle.counting.specs.Lists.{Pair}
use Rattle.counting.specs.Every.{All}
use Rattle.racks.specs.Limits.{PAIRS, RACKS, SLOTS}
use Rattle.racks.specs.Racks.{Rack, slots}
use Rattle.racks.specs.Table.{aways}
use Rattle.racks.specs.parts.Legal.{Spared}
use Rattle.racks.specs.Job.{racks_of}
use Rattle.racks.specs.declared.Job.{Job}
use Rattle.answers.specs.declared.Tally.{Tally}
use Rattle.answers.specs.Answers.{moves_of}
use Rattle.tables.specs.parts.Tables.{Open}
use Rattle.moves.specs.Moves.{Held, carried}
use Rattle.moves.specs.Phases.{budget}
use Rattle.carrying.specs.parts.Carrying.{AllSlots, Carried}
use Rattle.bits.specs.parts.Bits.{included, cleared, WORDS}
use Rattle.queues.specs.parts.Line.{ROOMS, room_of, LINE}
use Rattle.queues.specs.parts.Queued.{one_more}
use Rattle.queues.specs.parts.Ready.{Started}
use Rattle.queues.specs.parts.Queues.{rows_of}
use Rattle.pairing.specs.parts.Phase.{queued_plan, Plannable, PhasePlanned}

-- the set of free slots after a move: with its source, and without its target
unfoldable pub note : Pair → List ℕ → List ℕ
note m bits = cleared (included bits m.0) m.1

-- the set after moves
unfoldable pub noted : List Pair → List ℕ → List ℕ
noted [] bits = bits
noted (m ∷ ms) bits = noted ms (note m bits)

-- the line after a move: the rack of its source has one free slot more; its target was taken out of the room of its rack when it was planned
unfoldable pub note_line : List ℕ → Pair → List ℕ → List ℕ
note_line racking m line = one_more line (ROOMS + get_or racking m.0 0)

-- the line after moves
unfoldable pub noted_line : List ℕ → List Pair → List ℕ → List ℕ
noted_line racking [] line = line
noted_line racking (m ∷ ms) line = noted_line racking ms (note_line racking m line)

-- a move that can be noted: its ends have bits, and its source is on one of 64 racks
pub record Notable (racking : List ℕ) (m : Pair) : Type 0 where
  pub from_lt : m.0 < SLOTS
  pub to_lt : m.1 < SLOTS
  pub racked : get_or racking m.0 0 < RACKS

-- moves that can be noted: and each rack's room has place for as many more
pub record AllNotable (racking : List ℕ) (ms : List Pair) (line bits : List ℕ) : Type 0 where
  pub moves : All (Notable racking) ms
  pub counts-fit : (p : ℕ) → p < RACKS → room_of line p + length ms < 65536
  pub line-long : length line ≡ LINE
  pub bits-long : length bits ≡ WORDS

-- a move noted
pub record MoveNoted (racking : List ℕ) (m : Pair) (line bits line' bits' : List ℕ) : Type 0 where
  pub line-is : line' ≡ note_line racking m line
  pub bits_are : bits' ≡ note m bits

-- moves noted
pub record Noted (racking : List ℕ) (ms : List Pair) (line bits line' bits' : List ℕ) : Type 0 where
  pub line-is : line' ≡ noted_line racking ms line
  pub bits_are : bits' ≡ noted ms bits

-- what a phase needs
pub record Runnable (ends : List ℕ) (b k : ℕ) (t : Tally) (h : Held) (racking line bits log : List ℕ) : Type 0 where
  pub within : t.moves ≤ k
  pub few : t.moves ≤ SLOTS
  pub plannable : Plannable ends line bits log (2 * t.moves)
  pub small : length h.places ≤ SLOTS
  pub sized : length h.places * b ≡ length h.cards
  pub plan-few : length (queued_plan RACKS (rows_of ends line bits)) ≤ SLOTS
  pub slots : AllSlots (length h.places) (queued_plan RACKS (rows_of ends line bits))
  pub racked : (g : ℕ) → g < length h.places → get_or racking g 0 < RACKS

-- a phase run: its plan is written behind what the log has, the first pairs of it, as many as are left of k, are carried, added and noted
pub record PhaseRun (ends : List ℕ) (b k : ℕ) (t : Tally) (h : Held) (racking line bits log : List ℕ) (t' : Tally) (h' : Held) (line' bits' log' : List ℕ) : Type 0 where
  pub line₁ : List ℕ
  pub bits₁ : List ℕ
  pub count : ℕ
  pub planned : PhasePlanned ends line bits log (2 * t.moves) line₁ bits₁ log' count
  pub done : Carried b (take (k - t.moves) (queued_plan RACKS (rows_of ends line bits))) h t h' t'
  pub noted-are : Noted racking (take (k - t.moves) (queued_plan RACKS (rows_of ends line bits))) line₁ bits₁ line' bits'

-- what the engine needs of a job: a legal table with its cards, and rows that fit it
pub record Going (job : Job) (b : ℕ) (h : Held) (racking line bits log : List ℕ) : Type 0 where
  pub opened : Open job h.places racking
  pub spared : Spared (racks_of job)
  pub started : Started (racks_of job) h.places job.ends line bits
  pub cards-long : length h.cards ≡ slots (racks_of job) * b
  pub log-long : PAIRS ≤ length log

-- moves made with an allowance of k: as many as there are cards away, but no more than k
pub record Made (racks : List Rack) (b k : ℕ) (h h' : Held) (t : Tally) : Type 0 where
  pub tally-is : t ≡ moves_of (min k (aways racks h.places))
  pub held-is : h' ≡ carried b (budget racks k h.places) h
