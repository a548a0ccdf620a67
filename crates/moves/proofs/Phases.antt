-- Phases until nothing is away, and the moves of a budget, for any plan that meets `Planner`. Assumes nothing.
use mathlib.Core.Path.{◌≡◌, refl, ap, sym, ◌∙◌}
use mathlib.Core.Bool.{true, false}
use mathlib.Core.List.{List, [], ◌∷◌, ◌++◌}
use Prim.Native.Nat.{ℕ, zero, suc, ◌+◌, ◌-◌, ◌≤◌, ◌<◌, min}
use native.Mathlib.Omega.{arith}
use lib.ListN.{length, take, length-take}
use lib.Seq.{take-nil}
use Rattle.counting.specs.Lists.{Pair, join}
use Rattle.counting.proofs.Tests.{by-test, no_way}
use Rattle.counting.proofs.Count.{count-zero, count-pos}
use Rattle.counting.proofs.Some.{some-found, some-off}
use Rattle.counting.proofs.Lists.{take-append}
use Rattle.counting.specs.Every.{All, Pairwise}
use Rattle.counting.specs.Every.All.{more, none}
use Rattle.racks.specs.Racks.{Rack, slots}
use Rattle.racks.specs.Table.{away, aways}
use Rattle.racks.specs.Numbers.{some_away}
use Rattle.racks.specs.parts.Legal.{Legal}
use Rattle.plans.specs.Plan.{plan}
use Rattle.plans.specs.Allowed.{Allowed, Apart}
use Rattle.moves.specs.Moves.{carried_places}
use Rattle.moves.specs.Phases.{phases_from, phases, budget}
use Rattle.moves.specs.Turns.{InTurn}
use Rattle.moves.proofs.Carry.{pairs_in-turn, in-turn-take, in-turn-append, legal_in-turn, aways-carried, places-append}
use Rattle.moves.specs.Turns.InTurn.{stop}

module _ (racks : List Rack) (places : List ℕ) where
  -- a card is away: it is in some slot
  pub some-away : some_away racks places ≡ true → (g : ℕ) × (g < slots racks) × (away racks places g ≡ true)
  unfolding some_away
  some-away e = some-found (slots racks) (away racks places) e

  -- a card is away: the cards away are not 0
  pub aways-some : some_away racks places ≡ true → 0 < aways racks places
  unfolding aways
  aways-some e = let (g, l, a) = some-away e in count-pos (slots racks) (away racks places) g l a

  -- nothing is away: the cards away are 0
  pub aways-none : some_away racks places ≡ false → aways racks places ≡ 0
  unfolding aways some_away
  aways-none e = count-zero (slots racks) (away racks places) (some-off (slots racks) (away racks places) e)

  -- nothing is away: there is no phase
  pub phases-none : some_away racks places ≡ false → phases racks places ≡ []
  unfolding phases phases_from
  phases-none e = rw (aways-none e)

  -- nothing is away: a budget makes no move
  pub budget-none : (k : ℕ) → some_away racks places ≡ false → budget racks k places ≡ []
  unfolding budget join
  budget-none k e = rw (phases-none e, take-nil {A = Pair} k)

-- a plan has a pair
abbrev pub HasPair : List Pair → Type 0
HasPair ms = 0 < length ms

-- what the laws below ask of the plan: its pairs are allowed moves, no two share an end, and there is one while a card is away
pub record Planner (racks : List Rack) : Type 0 where
  pub allowed : (places : List ℕ) → Legal racks places → All (Allowed racks places) (plan racks places)
  pub apart : (places : List ℕ) → Legal racks places → Pairwise Apart (plan racks places)
  pub has_pair : (places : List ℕ) → Legal racks places → some_away racks places ≡ true → HasPair (plan racks places)

-- a run: the plans of its phases, each carried before the next is planned, until nothing is away
pub data Run (racks : List Rack) : List ℕ → List (List Pair) → Type 0 where
  over : {places : List ℕ} → some_away racks places ≡ false → Run racks places []
  phase : {places : List ℕ} {ms : List Pair} {rest : List (List Pair)}
      → some_away racks places ≡ true → ms ≡ plan racks places → Run racks (carried_places ms places) rest → Run racks places (ms ∷ rest)

-- a run is one only
run-once : {racks : List Rack} {places : List ℕ} {a b : List (List Pair)} → Run racks places a → Run racks places b → a ≡ b
run-once (over e) (over q) = refl
run-once (over e) (phase q p r) = absurd (no_way q e)
run-once (phase e p r) (over q) = absurd (no_way e q)
run-once (phase {ms = ms'} e p r) (phase {ms} {rest} q p' r') =
    let s : ms' ≡ ms = p ∙ sym p' in
    rw s (ap (λ (l : List (List Pair)). ms ∷ l) (run-once (rw s at r) r'))

-- nothing is away behind a run
run_end : {racks : List Rack} {places : List ℕ} {r : List (List Pair)} → Run racks places r → some_away racks (carried_places (join r) places) ≡ false
unfolding join carried_places
run_end (over e) = e
run_end (phase {places} {ms} {rest} e p r) = rw (places-append ms (join rest) places) (run_end r)

module _ {racks : List Rack} (planner : Planner racks) where
  plan_in-turn : {places : List ℕ} → Legal racks places → InTurn racks places (plan racks places)
  plan_in-turn {places} l = pairs_in-turn l (planner.apart places l) (planner.allowed places l)

  -- as much fuel as cards are away makes a run
  run-from : (n : ℕ) {places : List ℕ} → Legal racks places → aways racks places ≤ n → Run racks places (phases_from n racks places)
  unfolding phases_from
  run-from zero {places} l h = by-test (some_away racks places) (λ e. absurd (omega (arith, aways-some racks places e))) (λ e. over e)
  run-from (suc n) {places} l h = by-test (some_away racks places)
      (λ e. rw e (phase e refl (run-from n (legal_in-turn l (plan_in-turn l)) (omega (arith, aways-carried l (plan_in-turn l), planner.has_pair places l e)))))
      (λ e. rw e (over e))

  -- the phases are a run
  pub phases-run : {places : List ℕ} → Legal racks places → Run racks places (phases racks places)
  unfolding phases
  phases-run {places} l = run-from (aways racks places) l (omega arith)

  -- a run's moves, each allowed when its turn comes
  run_in-turn : {places : List ℕ} {r : List (List Pair)} → Run racks places r → Legal racks places → InTurn racks places (join r)
  unfolding join
  run_in-turn (over e) l = stop
  run_in-turn (phase {places} e p r) l =
      let t = rw (← p) at (plan_in-turn l) in
      in-turn-append t (run_in-turn r (legal_in-turn l t))

  -- each of its plans has a pair
  run-pairs : {places : List ℕ} {r : List (List Pair)} → Run racks places r → Legal racks places → All HasPair r
  run-pairs (over e) l = none
  run-pairs (phase {places} e p r) l =
      let t = rw (← p) at (plan_in-turn l) in
      let h = rw (← p) at (planner.has_pair places l e) in
      more h (run-pairs r (legal_in-turn l t))

  module _ {places : List ℕ} (l : Legal racks places) where
    -- more phases than cards are away change nothing: there are none
    pub phases_fuel : (n : ℕ) → aways racks places ≤ n → phases_from n racks places ≡ phases racks places
    phases_fuel n h = run-once (run-from n l h) (phases-run l)

    -- while a card is away: a plan, and the phases of the table that it leaves
    pub phases-step : some_away racks places ≡ true → phases racks places ≡ plan racks places ∷ phases racks (carried_places (plan racks places) places)
    phases-step e = run-once (phases-run l) (phase e refl (phases-run (legal_in-turn l (plan_in-turn l))))

    -- every plan of the phases has a pair
    pub phases-pairs : All HasPair (phases racks places)
    phases-pairs = run-pairs (phases-run l) l

    -- the moves of all phases are each allowed when their turn comes
    pub phases_in-turn : InTurn racks places (join (phases racks places))
    phases_in-turn = run_in-turn (phases-run l) l

    -- after all phases nothing is away
    pub phases-end : some_away racks (carried_places (join (phases racks places)) places) ≡ false
    phases-end = run_end (phases-run l)

    -- after all phases the table is legal
    pub phases-legal : Legal racks (carried_places (join (phases racks places)) places)
    phases-legal = legal_in-turn l phases_in-turn

    -- the moves of all phases are as many as cards are away
    pub phases-moves : length (join (phases racks places)) ≡ aways racks places
    phases-moves = omega (arith, aways-carried l phases_in-turn, aways-none racks _ phases-end)

    module _ (k : ℕ) where
      -- the moves of a budget are each allowed when their turn comes
      pub budget_in-turn : InTurn racks places (budget racks k places)
      unfolding budget
      budget_in-turn = in-turn-take k phases_in-turn

      -- after the moves of a budget the table is legal
      pub budget-legal : Legal racks (carried_places (budget racks k places) places)
      budget-legal = legal_in-turn l budget_in-turn

      -- the moves are the smaller of the budget and the cards away
      pub budget-length : length (budget racks k places) ≡ min k (aways racks places)
      unfolding budget
      budget-length = length-take k (join (phases racks places)) ∙ ap (λ (n : ℕ). min k n) phases-moves

      -- each of them brings one card to its rack
      pub budget-aways : aways racks places ≡ min k (aways racks places) + aways racks (carried_places (budget racks k places) places)
      budget-aways = rw (← budget-length) (aways-carried l budget_in-turn)

      -- a budget takes the present plan's pairs, and what is left of it goes to the phases behind
      pub budget-step : some_away racks places ≡ true
          → budget racks k places
          ≡ take k (plan racks places) ++ budget racks (k - length (plan racks places)) (carried_places (plan racks places) places)
      unfolding budget join
      budget-step e = rw (phases-step e) (take-append k (plan racks places) (join (phases racks (carried_places (plan racks places) places))))
