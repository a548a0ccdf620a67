-- Demand 3: what holds of any list of calls on an accepted table and its cards, and at every move inside them.
-- Assumes nothing: these are statements; `demand3` in proofs/Demand3 proves them.
use Rattle.std.specs.Prelude.{◌≡◌, ◌≢◌, true, false, not, List, [], ◌++◌, ℕ, suc, ◌+◌, ◌≤◌, ◌<◌, min, eqb, length, get_or, take}
use Rattle.counting.specs.Tests.{◌and◌, bit}
use Rattle.counting.specs.Count.{count}
use Rattle.counting.specs.Lists.{Pair, matching}
use Rattle.counting.specs.Checks.{first, done}
use Rattle.racks.specs.Limits.{FREE}
use Rattle.racks.specs.Racks.{Rack, slots}
use Rattle.racks.specs.Numbers.{card_checks}
use Rattle.racks.specs.Table.{dest, free, away, aways, owes, names}
use Rattle.answers.specs.Answers.{placeless, answer, moves_of}
use Rattle.moves.specs.Blocks.{block}
use Rattle.moves.specs.Moves.{Held, carried, between, end_checks, moved}
use Rattle.moves.specs.Awaits.{awaits}
use Rattle.conduct.specs.Accepted.{OfAccepted}
use Rattle.conduct.specs.Calls.{Call, called, makes, held_after, made, counted}
use Rattle.conduct.specs.Calls.Call.{single, at_most}

-- the calls, one after another, on the table and the cards h
module _ (racks : List Rack) (b : ℕ) (h : Held) (calls : List Call) where
  -- the first n moves that they make
  abbrev pub moves_to : ℕ → List Pair
  moves_to n = take n (made racks b calls h)

  -- the table and the cards after these
  abbrev pub point : ℕ → Held
  point n = carried b (moves_to n) h

  -- move n, counted from 0
  abbrev pub move_at : ℕ → Pair
  move_at n = get_or (made racks b calls h) n (0, 0)

  -- how many moves they make
  abbrev pub move_count : ℕ
  move_count = length (made racks b calls h)

  -- the table and the cards after the calls
  abbrev pub end : Held
  end = held_after racks b calls h

  pub record Demand3 : Type 0 where
    -- between any two calls, and after the last, the table and the cards are as the moves made until then leave them
    pub between_calls : (former later : List Call) → calls ≡ former ++ later → held_after racks b former h ≡ point (length (made racks b former h))
    pub end_is : end ≡ point move_count
    -- every move made, inside budgeted calls too, is a single move that is accepted when its turn comes
    pub each-move : (n : ℕ) → n < move_count
        → moved racks b (point n) (move_at n) ≡ record { answer = answer (placeless 0) (moves_of 1); held = point (suc n) }
    -- at every point 1 to 6 find nothing to refuse, so only 7 to 11 can refuse a single move there
    pub accepted : (n : ℕ) → first (card_checks racks b (point n).places (point n).cards) ≡ 0
    pub only-ends : (n from to : ℕ) → (moved racks b (point n) (from, to)).answer.number ≡ first (end_checks racks (point n).places (from, to))
    -- (a) at every point as many entries name slot d as at the start, 0 or 1: no card is lost, doubled or new
    pub same-cards : (n d : ℕ) → d ≢ FREE → count (slots racks) (names (point n).places d) ≡ count (slots racks) (names h.places d)
    pub once : (d : ℕ) → d ≢ FREE → count (slots racks) (names h.places d) ≤ 1
    -- and the card that is bound for the slot for which g's was has the bytes that it had
    pub same_bytes : (n g k : ℕ) → g < slots racks → k < slots racks → free h.places g ≡ false → dest (point n).places k ≡ dest h.places g
        → block b k (point n).cards ≡ block b g h.cards
    -- (b) what rack i owes rack p and the moves made from i to p are what it owed at the start
    pub owed : (n i p : ℕ) → owes racks (point n).places i p + matching (between racks i p) (moves_to n) ≡ owes racks h.places i p
    -- and what p awaits from i is what i owes p
    pub awaited : (n i p : ℕ) → awaits racks h.places (moves_to n) i p ≡ owes racks (point n).places i p
    -- (c) while a card is away there is a from and a to that the single move accepts
    pub possible : (n : ℕ) → 0 < aways racks (point n).places → (m : Pair) × ((moved racks b (point n) m).answer.number ≡ 0)
    -- (d) each move made takes a card that is away, brings it to its rack, and sends none away
    pub was-away : (n : ℕ) → n < move_count → away racks (point n).places (move_at n).0 ≡ true
    pub brings : (n : ℕ) → n < move_count → (g : ℕ)
        → away racks (point (suc n)).places g ≡ (away racks (point n).places g and not (eqb g (move_at n).0))
    -- so the cards away and the moves made are the cards away at the start: none is away after that many moves, and never before
    pub falls : (n : ℕ) → n ≤ move_count → n + aways racks (point n).places ≡ aways racks h.places
    -- the counts that the calls give add up to the moves made
    pub counts : counted racks b calls h ≡ move_count
    -- a further call, so any call, the list being any: budgeted moves make the smaller of k and the cards away, a single move 1, and 0 where it is refused
    pub budget-makes : (k : ℕ) → length (makes racks b end (at_most k)) ≡ min k (aways racks end.places)
    pub single-makes : (from to : ℕ) → length (makes racks b end (single from to)) ≡ bit (done (called racks b end (single from to)).answer.number)
    -- one that is refused makes no move and changes nothing
    pub refused-makes : (call : Call) → (called racks b end call).answer.number ≢ 0 → makes racks b end call ≡ []
    pub refused_keeps : (call : Call) → (called racks b end call).answer.number ≢ 0 → (called racks b end call).held ≡ end

-- **Demand 3**, of every accepted job and every list of calls on it
abbrev pub Demand3Holds : Type 0
Demand3Holds = OfAccepted (λ (racks : List Rack) (b : ℕ) (h : Held). (calls : List Call) → Demand3 racks b h calls)
