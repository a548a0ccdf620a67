-- The phases of a run, one by one: each carries the plan of the table that it finds, until nothing is away. Assumes nothing.
use mathlib.Core.Path.{◌≡◌, refl, ap, sym, subst, ◌∙◌}
use mathlib.Core.Bool.{true}
use mathlib.Core.List.{List, [], ◌∷◌, ◌++◌, Permᴰ}
use Prim.Native.Nat.{ℕ, zero, suc, ◌<◌}
use native.Mathlib.Omega.{arith}
use lib.ListN.{length, get_or, take, drop, take-append-drop}
use Rattle.counting.specs.Lists.{Pair, join}
use Rattle.counting.proofs.Count.{count-some}
use Rattle.counting.proofs.Lists.{join-append}
use Rattle.counting.proofs.Every.{all_map}
use Rattle.racks.specs.Racks.{Rack, slots}
use Rattle.racks.specs.Table.{away, aways}
use Rattle.racks.specs.Numbers.{some_away}
use Rattle.plans.specs.Plan.{plan}
use Rattle.plans.proofs.Plans.{plan-allowed, plan-apart}
use Rattle.plans.proofs.Possible.{plan-some}
use Rattle.moves.specs.Moves.{Held, moved_places, carried_places, carried, moved}
use Rattle.moves.specs.Phases.{phases}
use Rattle.moves.specs.Turns.{InTurn}
use Rattle.moves.proofs.Carry.{pairs_in-turn, places-append, owes-carried}
use Rattle.moves.specs.Turns.InTurn.{stop, next}
use Rattle.moves.proofs.Phases.{Run, phases-run, phases_in-turn, aways-some}
use Rattle.moves.proofs.Phases.Run.{over, phase}
use Rattle.moves.proofs.FirstFit.{first-fit}
use Rattle.moves.proofs.Order.{disjoint-pairs, any_order, perm_in-turn}
use Rattle.conduct.specs.Calls.{held_after, singles, AllAccepted}
use Rattle.conduct.specs.Demand2.{Phase}
use Rattle.conduct.proofs.Calls.{Start, start-legal, start-long, start-carried}
use Rattle.conduct.proofs.Points.{allowed-number}
use Rattle.conduct.proofs.Singles.{singles-done}
use Rattle.conduct.proofs.Figure1.{plan-figure1, plan_by-slot}
use Rattle.conduct.proofs.Sends.{plan-sends}

-- phase n of a run carries the plan of the table that it finds
pub run-plan : {racks : List Rack} {places : List ℕ} {plans : List (List Pair)} → Run racks places plans → (n : ℕ) → n < length plans
    → get_or plans n [] ≡ plan racks (carried_places (join (take n plans)) places)
unfolding join carried_places
run-plan (over e) n l = absurd (omega arith)
run-plan (phase e p r) zero l = p
run-plan (phase {places} {ms} {rest} e p r) (suc n) l = run-plan r n (omega arith) ∙ ap (plan _) (sym (places-append ms (join (take n rest)) places))

-- and begins with a card away
pub run-away : {racks : List Rack} {places : List ℕ} {plans : List (List Pair)} → Run racks places plans → (n : ℕ) → n < length plans
    → some_away racks (carried_places (join (take n plans)) places) ≡ true
unfolding join carried_places
run-away (over e) n l = absurd (omega arith)
run-away (phase e p r) zero l = e
run-away (phase {places} {ms} {rest} e p r) (suc n) l = rw (places-append ms (join (take n rest)) places) (run-away r n (omega arith))

-- the first moves of a list in turn
in-turn-front : {racks : List Rack} {places : List ℕ} (ms ns : List Pair) → InTurn racks places (ms ++ ns) → InTurn racks places ms
in-turn-front [] ns t = stop
in-turn-front {places = places} (m ∷ ms) ns (next a t) = next a (in-turn-front {places = moved_places m places} ms ns t)

-- lists joined, the first n of them and those behind
join-split : {A : Type 0} (n : ℕ) (l : List (List A)) → join (take n l) ++ join (drop n l) ≡ join l
join-split n l = sym (join-append (take n l) (drop n l)) ∙ ap join (take-append-drop n l)

module _ {racks : List Rack} {b : ℕ} {h : Held} (s : Start racks b h) where
  in-turn : InTurn racks h.places (plan racks h.places)
  in-turn = pairs_in-turn (start-legal s) (plan-apart racks h.places) (plan-allowed racks h.places)

  -- its pairs in any order, as the table and the cards that they leave, and as single-move calls
  same_left : (ms : List Pair) → Permᴰ (plan racks h.places) ms → carried b ms h ≡ carried b (plan racks h.places) h
  same_left ms p =
      sym (any_order (record { places-long = (start-legal s).long; cards-long = start-long s }) (plan-apart racks h.places) (plan-allowed racks h.places) p)

  in_any-order : (ms : List Pair) → Permᴰ (plan racks h.places) ms → AllAccepted racks b h ms × (held_after racks b (singles ms) h ≡ carried b ms h)
  in_any-order ms p = singles-done s (perm_in-turn (start-legal s) (plan-apart racks h.places) (plan-allowed racks h.places) p)

  -- the plan of a table, asked for or carried
  pub plan-phase : Phase racks b h (plan racks h.places)
  unfolding moved aways
  plan-phase =
      record {
        planned = refl;
        first-fit = plan-figure1 racks h.places;
        by-slot = plan_by-slot racks h.places;
        sends = plan-sends racks h.places;
        lowers = λ i p li lp. omega (arith, owes-carried (start-legal s) in-turn i p, plan-sends racks h.places i p li lp);
        accepted = all_map (λ m a. allowed-number s m a) (plan-allowed racks h.places);
        disjoint = disjoint-pairs (plan-apart racks h.places) (plan-allowed racks h.places);
        some = λ k. let (g, l, e) = count-some (slots racks) (away racks h.places) k in plan-some racks h.places (start-legal s) s.spared g l e;
        any_order = same_left;
        any_calls = λ ms p. (in_any-order ms p).0;
        calls_leave = λ ms p. (in_any-order ms p).1 ∙ same_left ms p;
      }

  run : Run racks h.places (phases racks h.places)
  run = phases-run (first-fit s.spared) (start-legal s)

  -- the moves before phase n, each allowed when its turn comes
  pub before_in-turn : (n : ℕ) → InTurn racks h.places (join (take n (phases racks h.places)))
  before_in-turn n =
      let all : List (List Pair) = phases racks h.places in
      in-turn-front (join (take n all)) (join (drop n all))
      (subst (InTurn racks h.places) (sym (join-split n all)) (phases_in-turn (first-fit s.spared) (start-legal s)))

  -- a phase begins with an accepted table
  pub phase-start : (n : ℕ) → Start racks b (carried b (join (take n (phases racks h.places))) h)
  phase-start n = start-carried s (before_in-turn n)

  -- with a card away
  pub phase-away : (n : ℕ) → n < length (phases racks h.places) → 0 < aways racks (carried_places (join (take n (phases racks h.places))) h.places)
  phase-away n l = aways-some racks _ (run-away run n l)

module _ {racks : List Rack} {b : ℕ} {h : Held} (s : Start racks b h) where
  -- its pairs are the plan
  pub phase-is : (n : ℕ) → n < length (phases racks h.places)
      → Phase racks b (carried b (join (take n (phases racks h.places))) h) (get_or (phases racks h.places) n [])
  phase-is n l =
      subst (Phase racks b (carried b (join (take n (phases racks h.places))) h)) (sym (run-plan (run s) n l)) (plan-phase (phase-start s n))

  -- each allowed when its turn comes
  pub phase_in-turn : (n : ℕ) → n < length (phases racks h.places)
      → InTurn racks (carried_places (join (take n (phases racks h.places))) h.places) (get_or (phases racks h.places) n [])
  phase_in-turn n l = subst (InTurn racks _) (sym (run-plan (run s) n l)) (in-turn (phase-start s n))
