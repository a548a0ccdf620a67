-- Calls on one table and its cards, one after another, refused ones among them. Assumes nothing: these are definitions.
use Rattle.std.specs.Prelude.{◌≡◌, List, [], ◌∷◌, ◌++◌, ℕ, ◌+◌}
use Rattle.counting.specs.Tests.{pick}
use Rattle.counting.specs.Lists.{Pair, each}
use Rattle.counting.specs.Checks.{done}
use Rattle.racks.specs.Racks.{Rack}
use Rattle.answers.specs.Answers.{placeless, answer, moves_of}
use Rattle.moves.specs.Moves.{Held, Outcome, moved}
use Rattle.moves.specs.Phases.{budget, budgeted}
use Rattle.shuffle.specs.Shuffle.{shuffled}
use Rattle.runs.specs.Run.{ran}

-- a call: a single move with any from and to, or budgeted moves with any k
pub data Call : Type 0 where
  single : ℕ → ℕ → Call
  at_most : ℕ → Call

-- what a call gives and leaves: the outcome that its contract names
unfoldable pub called : List Rack → ℕ → Held → Call → Outcome
called racks b h (single from to) = moved racks b h (from, to)
called racks b h (at_most k) = budgeted racks b h k

-- the moves that a call asks for
unfoldable pub asks : List Rack → Held → Call → List Pair
asks racks h (single from to) = (from, to) ∷ []
asks racks h (at_most k) = budget racks k h.places

-- the moves that it makes: these, or none where it is refused
unfoldable pub makes : List Rack → ℕ → Held → Call → List Pair
makes racks b h call = pick (done (called racks b h call).answer.number) (asks racks h call) []

-- the table and the cards after all calls
unfoldable pub held_after : List Rack → ℕ → List Call → Held → Held
held_after racks b [] h = h
held_after racks b (call ∷ calls) h = held_after racks b calls (called racks b h call).held

-- the moves that all calls make
unfoldable pub made : List Rack → ℕ → List Call → Held → List Pair
made racks b [] h = []
made racks b (call ∷ calls) h = makes racks b h call ++ made racks b calls (called racks b h call).held

-- the moves counts that all calls give, added up
unfoldable pub counted : List Rack → ℕ → List Call → Held → ℕ
counted racks b [] h = 0
counted racks b (call ∷ calls) h = (called racks b h call).answer.tally.moves + counted racks b calls (called racks b h call).held

-- moves as single-move calls
unfoldable pub singles : List Pair → List Call
singles ms = each (λ (m : Pair). single m.0 m.1) ms

-- these calls, one after another: each is accepted when its turn comes, and counts one move
unfoldable pub AllAccepted : List Rack → ℕ → Held → List Pair → Type 0
AllAccepted racks b h [] = Unit {0}
AllAccepted racks b h (m ∷ ms) = ((moved racks b h m).answer ≡ answer (placeless 0) (moves_of 1)) × AllAccepted racks b (moved racks b h m).held ms

-- any call that changes a table and its cards: single or budgeted moves, the shuffle, a whole run
pub data CardsCall : Type 0 where
  moves : Call → CardsCall
  shuffle : CardsCall
  run : CardsCall

-- the table and the cards that it leaves
unfoldable pub leaves : List Rack → ℕ → Held → CardsCall → Held
leaves racks b h (moves call) = (called racks b h call).held
leaves racks b h shuffle = (shuffled racks b h).held
leaves racks b h run = (ran racks b h).held

-- and that any such calls leave, one after another, refused ones among them
unfoldable pub left_after : List Rack → ℕ → List CardsCall → Held → Held
left_after racks b [] h = h
left_after racks b (call ∷ calls) h = left_after racks b calls (leaves racks b h call)
