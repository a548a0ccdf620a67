-- Shut out: movers that no contract of ours lets in. A mover gives an outcome for what it is lent; where it meets the contract on every input,
-- it is none of these. Assumes nothing: these are statements; `shut_out` in proofs/ShutOut proves them.
use Rattle.std.specs.Prelude.{◌≡◌, ◌≢◌, true, List, [], ◌∷◌, ◌++◌, ℕ, ◌+◌, ◌<◌, length, replicate}
use Rattle.counting.specs.Lists.{Pair}
use Rattle.racks.specs.Racks.{of_caps}
use Rattle.racks.specs.Table.{aways}
use Rattle.racks.specs.Numbers.{some_away}
use Rattle.answers.specs.Answers.{Listed}
use Rattle.answers.specs.declared.Tally.{Tally}
use Rattle.plans.specs.Plan.{planned}
use Rattle.moves.specs.Moves.{Held, Outcome}
use Rattle.moves.specs.Phases.{phases, budgeted}
use Rattle.factors.specs.Copies.{copy_list}
use Rattle.runs.specs.Run.{gathered, ran}
use Rattle.texts.specs.Text.{text}
use Rattle.listing.specs.Listing.{listing}
use Rattle.demands.specs.Paper.{file1}

-- a mover that makes whole runs: of capacities, B, and the table with its cards; and its contract
abbrev pub Runner : Type 0
Runner = List ℕ → ℕ → Held → Outcome

abbrev pub MeetsRun : Runner → Type 0
MeetsRun m = (caps : List ℕ) (b : ℕ) (h : Held) → m caps b h ≡ ran (of_caps caps) b h

-- a mover that makes k moves at most, and its contract
abbrev pub Budgeter : Type 0
Budgeter = List ℕ → ℕ → Held → ℕ → Outcome

abbrev pub MeetsBudget : Budgeter → Type 0
MeetsBudget m = (caps : List ℕ) (b : ℕ) (h : Held) (k : ℕ) → m caps b h k ≡ budgeted (of_caps caps) b h k

-- a planner of one phase: of capacities, a table and a lent list; and its contract
abbrev pub Planner : Type 0
Planner = List ℕ → List ℕ → List ℕ → Listed

abbrev pub MeetsPlan : Planner → Type 0
MeetsPlan p = (caps places lent : List ℕ) → p caps places lent ≡ planned (of_caps caps) places lent

-- a planner of all phases. No public call gives them by themselves: a whole run carries and counts them, and shelve prints them
abbrev pub Phaser : Type 0
Phaser = List ℕ → List ℕ → List (List Pair)

abbrev pub MeetsPhases : Phaser → Type 0
MeetsPhases p = (caps places : List ℕ) → p caps places ≡ phases (of_caps caps) places

-- a whole run is none of these
pub record ShutOutRuns (m : Runner) : Type 0 where
  -- it refuses every job
  pub refuses-all : ¬ ((caps : List ℕ) (b : ℕ) (h : Held) → (m caps b h).answer.number ≢ 0)
  -- its reply is always the same
  pub constant_reply : ¬ ((caps caps' : List ℕ) (b b' : ℕ) (h h' : Held) → (m caps b h).answer ≡ (m caps' b' h').answer)
  -- it touches nothing
  pub touches-nothing : ¬ ((caps : List ℕ) (b : ℕ) (h : Held) → (m caps b h).held ≡ h)
  -- its counts are the same for every job that it does
  pub invented-counts : (t : Tally) → ¬ ((caps : List ℕ) (b : ℕ) (h : Held) → (m caps b h).answer.number ≡ 0 → (m caps b h).answer.tally ≡ t)
  -- and so its counts are true: moves are the cards that were away, copies the list's length, phases the plans, each of which has a pair
  pub true-counts : (caps : List ℕ) (b : ℕ) (h : Held) → (m caps b h).answer.number ≡ 0
      → (m caps b h).answer.tally
      ≡ record {
        phases = length (phases (of_caps caps) h.places);
        moves = aways (of_caps caps) h.places;
        copies = length (copy_list (gathered (of_caps caps) b h).places);
      }

-- budgeted moves are none of these
pub record ShutOutBudgets (m : Budgeter) : Type 0 where
  pub refuses-all : ¬ ((caps : List ℕ) (b : ℕ) (h : Held) (k : ℕ) → (m caps b h k).answer.number ≢ 0)
  pub constant_reply : ¬ ((caps caps' : List ℕ) (b b' : ℕ) (h h' : Held) (k k' : ℕ) → (m caps b h k).answer ≡ (m caps' b' h' k').answer)
  pub touches-nothing : ¬ ((caps : List ℕ) (b : ℕ) (h : Held) (k : ℕ) → (m caps b h k).held ≡ h)
  -- it makes every transfer at once, whatever the budget
  pub all-at-once : ¬ ((caps : List ℕ) (b : ℕ) (h : Held) (k : ℕ) → 0 < k → (m caps b h k).answer.number ≡ 0 → aways (of_caps caps) (m caps b h k).held.places ≡ 0)
  -- its counts are the same for every job that it does
  pub invented-counts : (t : Tally) → ¬ ((caps : List ℕ) (b : ℕ) (h : Held) (k : ℕ) → (m caps b h k).answer.number ≡ 0 → (m caps b h k).answer.tally ≡ t)
  -- and so its counts are true: moves are as many as cards came to their racks
  pub true-counts : (caps : List ℕ) (b : ℕ) (h : Held) (k : ℕ) → (m caps b h k).answer.number ≡ 0
      → (m caps b h k).answer.tally.moves + aways (of_caps caps) (m caps b h k).held.places ≡ aways (of_caps caps) h.places

-- a phase plan is none of these
pub record ShutOutPlans (p : Planner) : Type 0 where
  -- it plans every transfer in the first phase
  pub all-at-once : ¬ ((caps places lent : List ℕ) → (p caps places lent).answer.number ≡ 0 → (p caps places lent).answer.tally.moves ≡ aways (of_caps caps) places)
  -- it writes nothing
  pub touches-nothing : ¬ ((caps places lent : List ℕ) → (p caps places lent).lent ≡ lent)

-- the phases of a run are none of these. A `Phaser` is no public call: the calls that show phases are those of `plans`, `budgets` and `listings` below
pub record ShutOutPhases (p : Phaser) : Type 0 where
  -- every transfer is in the first phase, and idle phases follow
  pub all-at-once : ¬ ((caps places : List ℕ) → some_away (of_caps caps) places ≡ true → (all : List Pair) × (idle : ℕ) × (p caps places ≡ all ∷ replicate idle []))

-- every transfer of case 1 in phase 1 and an idle phase 2, with the copies, cards and counts of a true run
abbrev pub idle_text : List ℕ
idle_text =
    text "phase 1: 3>2 0>5 4>7 6>0 1>3\n"
    ++ text "phase 2:\n"
    ++ text "copies: 0>1 2>0 3>4 5>3 7>6\n"
    ++ text "cards: 43 45 00 41 42 00 44 00\n"
    ++ text "end: phases 2 moves 5 copies 5\n"

pub record ShutOut : Type 0 where
  pub runs : (m : Runner) → MeetsRun m → ShutOutRuns m
  pub budgets : (m : Budgeter) → MeetsBudget m → ShutOutBudgets m
  pub plans : (p : Planner) → MeetsPlan p → ShutOutPlans p
  pub phases : (p : Phaser) → MeetsPhases p → ShutOutPhases p
  -- a listing that is right in all but its phases
  pub listings : (print : List ℕ → List ℕ) → ((file : List ℕ) → print file ≡ listing file) → print file1 ≢ idle_text
