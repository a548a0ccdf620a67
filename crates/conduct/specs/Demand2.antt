-- Demand 2: every plan, every phase, the whole run and the shuffle of an accepted job, exactly.
-- Assumes nothing: these are statements; `demand2` in proofs/Demand2 proves them.
use Rattle.std.specs.Prelude.{◌≡◌, ℕ, suc, ◌+◌, ◌-◌, ◌≤◌, ◌<◌, min, ltb, length, get_or, take}
use mathlib.Core.List.{List, [], Permᴰ}
use Rattle.counting.specs.Count.{sum}
use Rattle.counting.specs.Lists.{Pair, join, matching}
use Rattle.counting.specs.Every.{All, Pairwise, In}
use Rattle.racks.specs.Racks.{Rack, slots, rack_of}
use Rattle.racks.specs.Table.{aways, owes}
use Rattle.answers.specs.Answers.{placeless, answer, moves_of}
use Rattle.plans.specs.Plan.{room, plan}
use Rattle.moves.specs.Moves.{Held, carried, between, moved, Disjoint}
use Rattle.moves.specs.Phases.{phases, budgeted}
use Rattle.factors.specs.Copies.{factor, copy_list}
use Rattle.shuffle.specs.Shuffle.{shuffled}
use Rattle.shuffle.specs.Home.{Home}
use Rattle.runs.specs.Run.{ran}
use Rattle.conduct.specs.Accepted.{OfAccepted}
use Rattle.conduct.specs.Calls.{held_after, singles, AllAccepted}
use Rattle.conduct.specs.Figure1Loop.{State, recv, alltoall, compute_moves, rounds, loop_goes_on, extra}
use Rattle.conduct.specs.Figure1.{due_to, figure1, by_slot}
use Rattle.conduct.specs.Section2.{Redistribution}

-- the single move accepts m
abbrev pub Accepts : List Rack → ℕ → Held → Pair → Type 0
Accepts racks b h m = (moved racks b h m).answer.number ≡ 0

-- the pairs of a phase that begins with the table and the cards h
pub record Phase (racks : List Rack) (b : ℕ) (h : Held) (pairs : List Pair) : Type 0 where
  -- they are the plan: figure 1's, and the same by slots alone
  pub planned : pairs ≡ plan racks h.places
  pub first-fit : pairs ≡ figure1 racks h.places
  pub by-slot : pairs ≡ by_slot racks h.places
  -- from rack i to rack p as many as figure 1's recv[i] on p
  pub sends : (i p : ℕ) → i < length racks → p < length racks
      → matching (between racks i p) pairs ≡ recv (room racks h.places p) (due_to racks h.places p) i
  -- and what i owes p falls by that: line 23, in[i] ← in[i] - recv[i]
  pub lowers : (i p : ℕ) → i < length racks → p < length racks
      → owes racks (carried b pairs h).places i p ≡ owes racks h.places i p - recv (room racks h.places p) (due_to racks h.places p) i
  -- each is a single move that is accepted, and no two share an end
  pub accepted : All (Accepts racks b h) pairs
  pub disjoint : Pairwise Disjoint pairs
  -- theorem 2: there is one while a card is away
  pub some : 0 < aways racks h.places → 0 < length pairs
  -- carried in any order they give the same table and the same cards
  pub any_order : (ms : List Pair) → Permᴰ pairs ms → carried b ms h ≡ carried b pairs h
  -- and as single-move calls, in any order, each is accepted when its turn comes and counts one, and they leave the same
  pub any_calls : (ms : List Pair) → Permᴰ pairs ms → AllAccepted racks b h ms
  pub calls_leave : (ms : List Pair) → Permᴰ pairs ms → held_after racks b (singles ms) h ≡ carried b pairs h

-- the shuffle of an accepted table and its cards, with nothing away
pub record Shuffle (racks : List Rack) (b : ℕ) (h : Held) : Type 0 where
  pub done : (shuffled racks b h).answer.number ≡ 0
  pub list : Redistribution h.places
  -- every factor is inside one rack
  pub inside : (k x : ℕ) → k < slots racks → In x (factor h.places k) → rack_of racks x ≡ rack_of racks k
  pub home : Home racks b h (shuffled racks b h).held
  pub copies : (shuffled racks b h).answer.tally.copies ≡ length (copy_list h.places)

-- a job: racks, B, a table and its cards
module _ (racks : List Rack) (b : ℕ) (h : Held) where
  -- the plans of its phases
  abbrev pub plans : List (List Pair)
  plans = phases racks h.places

  -- the table and the cards when phase n begins, counted from 0; after the last phase, when the shuffle does
  abbrev pub phase_held : ℕ → Held
  phase_held n = carried b (join (take n plans)) h

  -- figure 1's input: the free slots of each rack, and what each owes each
  abbrev pub input : State
  input = alltoall (room racks h.places) (owes racks h.places)

  -- its loop before round n, from the input on, with no look at a later table
  abbrev pub loop_at : ℕ → State
  loop_at n = rounds (length racks) n input

  -- what rack p receives in phase n, and what it sends
  abbrev pub takes : ℕ → ℕ → ℕ
  takes n p = sum (length racks) (λ i. matching (between racks i p) (get_or plans n []))

  abbrev pub gives : ℕ → ℕ → ℕ
  gives n p = sum (length racks) (λ i. matching (between racks p i) (get_or plans n []))

  -- what it is still to receive when phase n begins, and to send
  abbrev pub to_receive : ℕ → ℕ → ℕ
  to_receive n p = sum (length racks) (λ i. owes racks (phase_held n).places i p)

  abbrev pub to_send : ℕ → ℕ → ℕ
  to_send n p = sum (length racks) (λ i. owes racks (phase_held n).places p i)

  -- figure 1's loop is the run: round n is phase n
  pub record Figure1Run : Type 0 where
    -- before round n, free on p is the free slots of rack p when phase n begins
    pub free-is : (n p : ℕ) → n ≤ length plans → p < length racks → (loop_at n).free p ≡ room racks (phase_held n).places p
    -- out[p] on i is what rack i owes rack p then
    pub out-is : (n i p : ℕ) → n ≤ length plans → i < length racks → p < length racks → (loop_at n).out i p ≡ owes racks (phase_held n).places i p
    -- and so is in[i] on p
    pub in_is : (n i p : ℕ) → n ≤ length plans → i < length racks → p < length racks → (loop_at n).due p i ≡ owes racks (phase_held n).places i p
    -- in round n, recv[i] on p is how many pairs of phase n go from rack i to rack p
    pub recv-is : (n i p : ℕ) → n < length plans → i < length racks → p < length racks
        → (compute_moves (loop_at n)).recv p i ≡ matching (between racks i p) (get_or plans n [])
    -- and so is send[p] on i
    pub send-is : (n i p : ℕ) → n < length plans → i < length racks → p < length racks
        → (compute_moves (loop_at n)).send i p ≡ matching (between racks i p) (get_or plans n [])
    -- line 4: what all racks are still to send when phase n begins is the cards away then
    pub all-owed : (n : ℕ) → sum (length racks) (to_send n) ≡ aways racks (phase_held n).places
    -- and the test before round n holds exactly where there is a phase n: the loop ends when the run does
    pub test : (n : ℕ) → n ≤ length plans → loop_goes_on (length racks) (loop_at n) ≡ ltb n (length plans)
    -- line 27: the free slots of p at the next phase and what p received in this one are those at this one and what it sent
    pub line27 : (n p : ℕ) → n < length plans → p < length racks → room racks (phase_held (suc n)).places p + takes n p ≡ room racks (phase_held n).places p + gives n p
    -- equation (2): the free slots, less what p is still to receive, plus what it is still to send, are at every phase what they were at the start
    pub equation2 : (n p : ℕ) → p < length racks → room racks (phase_held n).places p + to_send n p ≡ extra (length racks) input p + to_receive n p
    -- theorem 2's premise: that number is at least 1
    pub premise : (p : ℕ) → p < length racks → 1 ≤ extra (length racks) input p
    -- and it is how many slots of p are free after the last phase
    pub free-end : (p : ℕ) → p < length racks → room racks (phase_held (length plans)).places p ≡ extra (length racks) input p

  pub record Demand2 : Type 0 where
    -- the plan that may be asked for now, and the shuffle where nothing is away
    pub plan-now : Phase racks b h (plan racks h.places)
    pub shuffle-now : aways racks h.places ≡ 0 → Shuffle racks b h
    -- a whole run: every phase begins with a card away and carries the plan of the table that it finds, until none is away
    pub phase : (n : ℕ) → n < length plans → Phase racks b (phase_held n) (get_or plans n [])
    pub goes_on : (n : ℕ) → n < length plans → 0 < aways racks (phase_held n).places
    pub over : aways racks (phase_held (length plans)).places ≡ 0
    -- the sequence is figure 1's
    pub figure1-run : Figure1Run
    -- then the shuffle
    pub shuffle : Shuffle racks b (phase_held (length plans))
    pub then-shuffle : (ran racks b h).held ≡ (shuffled racks b (phase_held (length plans))).held
    -- so every card ends in its slot, and the counts are those of the plans, of the cards that were away, of the copies
    pub done : (ran racks b h).answer.number ≡ 0
    pub home : Home racks b h (ran racks b h).held
    pub phase-count : (ran racks b h).answer.tally.phases ≡ length plans
    pub move-count : (ran racks b h).answer.tally.moves ≡ aways racks h.places
    pub copy-count : (ran racks b h).answer.tally.copies ≡ length (copy_list (phase_held (length plans)).places)
    -- budgeted moves make the first k of all these pairs; with a budget of at least the cards away, and then the shuffle, they are the whole run
    pub first-k : (k : ℕ) → budgeted racks b h k ≡ record { answer = answer (placeless 0) (moves_of (min k (aways racks h.places))); held = carried b (take k (join plans)) h }
    pub by-budget : (k : ℕ) → aways racks h.places ≤ k → (ran racks b h).held ≡ (shuffled racks b (budgeted racks b h k).held).held

-- **Demand 2**, of every accepted job
abbrev pub Demand2Holds : Type 0
Demand2Holds = OfAccepted Demand2
