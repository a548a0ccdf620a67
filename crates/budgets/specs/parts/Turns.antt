-- In the midst of a call that makes moves, phase by phase. Assumes nothing: these are definitions.
use Rattle.std.specs.Prelude.{◌≡◌, List, ℕ, ◌+◌, ◌-◌, ◌*◌, ◌≤◌, ◌<◌, length}
use Rattle.racks.specs.Limits.{PAIRS, RACKS, SLOTS}
use Rattle.racks.specs.Racks.{Rack, slots}
use Rattle.racks.specs.Table.{aways}
use Rattle.racks.specs.parts.Legal.{Legal, Spared}
use Rattle.answers.specs.declared.Tally.{Tally}
use Rattle.tables.specs.parts.Tables.{Filled}
use Rattle.queues.specs.parts.Line.{LINE}
use Rattle.queues.specs.parts.Queues.{rows_of}
use Rattle.queues.specs.parts.Ready.{Ready}
use Rattle.moves.specs.Moves.{Held, carried}
use Rattle.moves.specs.Phases.{budget}

-- what does not change from turn to turn
pub record Fixed (racks : List Rack) (racking : List ℕ) : Type 0 where
  pub spared : Spared racks
  pub small : slots racks ≤ SLOTS
  pub few : length racks ≤ RACKS
  pub filled : Filled racks racking

-- some of an allowance of k moves are made since the table and the cards were h₀
pub record Turn (racks : List Rack) (ends : List ℕ) (b k : ℕ) (h₀ : Held) (t : Tally) (h : Held) (line bits log : List ℕ) : Type 0 where
  pub within : t.moves ≤ k
  pub legal : Legal racks h.places
  pub cards-long : length h.cards ≡ slots racks * b
  pub line-long : length line ≡ LINE
  pub log-long : PAIRS ≤ length log
  pub ready : t.moves < k → Ready racks h.places (rows_of ends line bits)
  pub rest : carried b (budget racks (k - t.moves) h.places) h ≡ carried b (budget racks k h₀.places) h₀
  pub count : t.moves + aways racks h.places ≡ aways racks h₀.places
