-- The phases of a run, one after another, and what they leave. Assumes nothing: these are definitions.
use Rattle.std.specs.Prelude.{◌≡◌, List, ◌++◌, ℕ, ◌+◌, ◌*◌, ◌≤◌, ◌<◌, length, get_or, set, take}
use Rattle.counting.specs.Lists.{Pair, join, flat}
use Rattle.racks.specs.Limits.{CELLS, PAIRS, SLOTS}
use Rattle.racks.specs.Racks.{Rack}
use Rattle.racks.specs.parts.Legal.{Legal}
use Rattle.racks.specs.Job.{racks_of}
use Rattle.racks.specs.declared.Job.{Job}
use Rattle.answers.specs.declared.Tally.{Tally}
use Rattle.answers.specs.Answers.{plus_phase}
use Rattle.owed.specs.parts.Owed.{Owed}
use Rattle.moves.specs.Moves.{Held, carried}
use Rattle.moves.specs.Phases.{phases}
use Rattle.moves.specs.Turns.{InTurn}
use Rattle.carrying.specs.parts.Carrying.{pairs_in}
use Rattle.budgets.specs.parts.Engine.{Going}
use Rattle.budgets.specs.parts.Turns.{Fixed, Turn}
use Rattle.runs.specs.Run.{gathered}
use Rattle.runs.specs.parts.Ran.{phase_counts}
use Rattle.owed.specs.parts.Kept.{Payable, Paid, Awaited}

-- where in a run's log the moves made up to each phase's end stand, behind all pairs
abbrev pub ENDS : ℕ
ENDS = 8192

-- how many numbers a run's log has where it is to be listed: all pairs and all ends
abbrev pub LOG : ℕ
LOG = 12288

-- the log has the pairs of phases from its front, two numbers each, and, where it has room for them behind all pairs, how many moves were made up
-- to each phase's end
pub record Logged (done : List (List Pair)) (log : List ℕ) : Type 0 where
  pub pairs : take (2 * length (join done)) log ≡ flat (join done)
  pub ends : LOG ≤ length log → (j : ℕ) → j < length done → get_or log (ENDS + j) 0 ≡ length (join (take (j + 1) done))

-- in the midst of a run that began with h₀, some phases are done: the one table has what each rack owes in the present places, the other what
-- it awaited at the start less the moves made, and the log has the phases
pub record Round (racks : List Rack) (ends : List ℕ) (b : ℕ) (h₀ : Held) (done : List (List Pair)) (t : Tally) (h : Held) (racking line bits log owes awaits : List ℕ) : Type 0 where
  pub fixed : Fixed racks racking
  pub legal₀ : Legal racks h₀.places
  pub turn : Turn racks ends b SLOTS h₀ t h line bits log
  pub phases-are : phases racks h₀.places ≡ done ++ phases racks h.places
  pub held-is : h ≡ carried b (join done) h₀
  pub in-turn : InTurn racks h₀.places (join done)
  pub phases-count : t.phases ≡ length done
  pub moves-count : t.moves ≡ length (join done)
  pub copies-none : t.copies ≡ 0
  pub logged : Logged done log
  pub owed : Owed racks h.places owes
  pub awaited : Awaited racks h₀.places (join done) awaits

-- a phase can be closed: its moves stand in the log behind those made before it, and can be paid for in both tables
pub record Closable (before made : Tally) (racking log owes awaits : List ℕ) : Type 0 where
  pub order : before.moves ≤ made.moves
  pub few : made.moves ≤ SLOTS
  pub phases-few : before.phases < SLOTS
  pub phases-same : made.phases ≡ before.phases
  pub log-long : PAIRS ≤ length log
  pub owes-long : length owes ≡ CELLS
  pub awaits-long : length awaits ≡ CELLS
  pub owes-pay : Payable racking (pairs_in log (2 * before.moves) (2 * made.moves)) owes
  pub awaits-pay : Payable racking (pairs_in log (2 * before.moves) (2 * made.moves)) awaits

-- a phase closed: its moves are paid for, its end is noted where the log has room for it, and it is counted
pub record RoundClosed (before made : Tally) (racking log owes awaits : List ℕ) (t : Tally) (log' owes' awaits' : List ℕ) : Type 0 where
  pub moves-paid : Paid racking (pairs_in log (2 * before.moves) (2 * made.moves)) owes awaits owes' awaits'
  pub end-noted : log' ≡ set log (ENDS + before.phases) made.moves
  pub counted : t ≡ plus_phase made

-- what the phases of a run need: as the engine does, with both tables of counts
pub record Set (job : Job) (b : ℕ) (h : Held) (racking line bits log owes awaits : List ℕ) : Type 0 where
  pub going : Going job b h racking line bits log
  pub owed : Owed (racks_of job) h.places owes
  pub agree : awaits ≡ owes

-- all phases made: the table, the cards, the counts and the log
pub record PhasesMade (racks : List Rack) (b : ℕ) (h h' : Held) (t : Tally) (log : List ℕ) : Type 0 where
  pub held-is : h' ≡ gathered racks b h
  pub tally-is : t ≡ phase_counts racks h.places
  pub logged : Logged (phases racks h.places) log
