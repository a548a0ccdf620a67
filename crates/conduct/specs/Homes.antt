-- Every card of an accepted job home by any way: any moves to free slots, then the shuffle; there is one such end, and it is the whole run's.
-- Assumes nothing: these are statements; `homes` in proofs/Homes proves them.
use Rattle.std.specs.Prelude.{◌≡◌, List, ℕ, ◌≤◌}
use Rattle.counting.specs.Lists.{Pair, join}
use Rattle.racks.specs.Racks.{Rack}
use Rattle.racks.specs.Table.{aways}
use Rattle.moves.specs.Moves.{Held, carried}
use Rattle.moves.specs.Phases.{phases, budgeted}
use Rattle.moves.specs.Turns.{Moving}
use Rattle.shuffle.specs.Shuffle.{shuffled}
use Rattle.shuffle.specs.Home.{Home}
use Rattle.runs.specs.Run.{ran}
use Rattle.conduct.specs.Accepted.{OfAccepted}
use Rattle.conduct.specs.Calls.{CardsCall, left_after}

-- a job: racks, B, a table and its cards
module _ (racks : List Rack) (b : ℕ) (h : Held) where
  -- moves that bring every card to its rack: each to a slot that is free when its turn comes, on any rack, and after the last nothing is away
  pub record Gathers (ms : List Pair) : Type 0 where
    pub moving : Moving racks h.places ms
    pub none-away : aways racks (carried b ms h).places ≡ 0

  pub record Homes : Type 0 where
    -- the moves of a whole run's phases are such
    pub phases_gather : Gathers (join (phases racks h.places))
    -- after such moves the shuffle is done, and every card is home
    pub done : (ms : List Pair) → Gathers ms → (shuffled racks b (carried b ms h)).answer.number ≡ 0
    pub home : (ms : List Pair) → Gathers ms → Home racks b h (shuffled racks b (carried b ms h)).held
    -- any two tables with cards where every card is home are equal
    pub one : (x y : Held) → Home racks b h x → Home racks b h y → x ≡ y
    -- so all ways end alike: such moves and the shuffle leave what a whole run leaves
    pub any-moves : (ms : List Pair) → Gathers ms → (shuffled racks b (carried b ms h)).held ≡ (ran racks b h).held
    -- after any calls whatever, shuffles and whole runs and refused calls among them, a whole run leaves what a whole run at the start would have left
    pub later-run : (calls : List CardsCall) → (ran racks b (left_after racks b calls h)).held ≡ (ran racks b h).held
    -- and so do budgeted moves with a budget of at least the cards away, then the shuffle
    pub later-budget : (calls : List CardsCall) (k : ℕ) → aways racks (left_after racks b calls h).places ≤ k
        → (shuffled racks b (budgeted racks b (left_after racks b calls h) k).held).held ≡ (ran racks b h).held

-- **Every card home by any way**, of every accepted job
abbrev pub HomesHold : Type 0
HomesHold = OfAccepted Homes
