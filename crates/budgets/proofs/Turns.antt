-- The turns of the engine: what is left of an allowance brings the table and the cards to where the whole allowance brings them. Assumes nothing.
use mathlib.Core.Path.{◌≡◌, refl, ap, sym, ◌∙◌}
use mathlib.Core.Bool.{true}
use mathlib.Core.List.{List, [], ◌++◌}
use Prim.Native.Nat.{ℕ, ◌+◌, ◌-◌, ◌*◌, ◌≤◌, ◌<◌, min}
use native.Mathlib.Omega.{arith}
use native.Mathlib.Decide.{dec_lt}
use lib.ListN.{length, take, length-take, get_or}
use lib.Seq.{length-sets, take_all}
use Rattle.counting.specs.Lists.{Pair}
use Rattle.counting.proofs.Every.{all_map}
use Rattle.racks.specs.Racks.{Rack, slots}
use Rattle.racks.specs.Table.{aways}
use Rattle.racks.specs.Numbers.{some_away}
use Rattle.racks.proofs.Geometry.{rack_lt}
use Rattle.racks.proofs.Away.{aways-few}
use Rattle.racks.proofs.Jobs.{sound-few}
use Rattle.racks.specs.Job.{racks_of}
use Rattle.racks.specs.declared.Job.{Job}
use Rattle.answers.specs.declared.Tally.{Tally}
use Rattle.answers.specs.Answers.{no_counts}
use Rattle.plans.specs.Plan.{plan}
use Rattle.plans.proofs.Plans.{plan-allowed, plan-aways, plan-few}
use Rattle.queues.specs.parts.Queues.{rows_of}
use Rattle.pairing.specs.parts.Phase.{queued_plan}
use Rattle.queues.specs.parts.Ready.{Ready}
use Rattle.pairing.proofs.Ready.{ready-plan}
use Rattle.moves.specs.Moves.{carried_places, carried_cards, Held, carried}
use Rattle.moves.specs.Phases.{budget}
use Rattle.moves.specs.Turns.{InTurn}
use Rattle.moves.proofs.Carry.{in-turn-take, legal_in-turn, aways-carried, length-carried-cards, carried-append}
use Rattle.moves.proofs.Phases.{aways-none, budget-none, budget-step}
use Rattle.moves.proofs.FirstFit.{first-fit}
use Rattle.budgets.specs.parts.Engine.{Runnable, PhaseRun, Going, Made}
use Rattle.budgets.specs.parts.Turns.{Fixed, Turn}
use Rattle.budgets.proofs.NextPhase.{plan_in-turn, ready-next}
use Rattle.budgets.proofs.Shows.{noted-long}
use Rattle.budgets.proofs.Waiting.{none-waits, some-waits}

-- no allowance, no moves
budget-zero : (racks : List Rack) (places : List ℕ) → budget racks 0 places ≡ []
unfolding budget
budget-zero racks places = refl

-- counts, by their three numbers
pub tally-is : (t : Tally) (x y z : ℕ) → t.phases ≡ x → t.moves ≡ y → t.copies ≡ z → t ≡ record { phases = x; moves = y; copies = z }
tally-is t x y z p q r = rw (← p, ← q, ← r)

-- counts of moves alone
pub record MovesOnly (t : Tally) : Type 0 where
  pub phases-none : t.phases ≡ 0
  pub copies-none : t.copies ≡ 0

module _ {racks : List Rack} {ends : List ℕ} {b k : ℕ} {h₀ : Held} {t : Tally} {h : Held} {line bits log : List ℕ} (s : Turn racks ends b k h₀ t h line bits log) where
  -- k moves are made
  pub turn_spent : MovesOnly t → k ≤ t.moves → Made racks b k h₀ h t
  unfolding carried_places carried_cards
  turn_spent o l =
      let z : k - t.moves ≡ 0 = omega arith in
      let n : t.moves ≡ min k (aways racks h₀.places) = omega (arith, s.count, s.within) in
      record { tally-is = tally-is t _ _ _ o.phases-none n o.copies-none; held-is = rw (z, budget-zero racks h.places) at s.rest }

  -- no rack waits
  pub turn_idle : MovesOnly t → t.moves < k → get_or bits 65 0 ≡ 0 → Made racks b k h₀ h t
  unfolding carried_places carried_cards
  turn_idle o l e =
      let f = none-waits (s.ready l) s.legal e in
      let n : t.moves ≡ min k (aways racks h₀.places) = omega (arith, s.count, aways-none racks h.places f) in
      record { tally-is = tally-is t _ _ _ o.phases-none n o.copies-none; held-is = rw (budget-none racks h.places (k - t.moves) f) at s.rest }

  -- some rack waits: a card is away
  pub turn-waits : t.moves < k → (get_or bits 65 0 ≡ 0 → ⊥) → some_away racks h.places ≡ true
  turn-waits l w = some-waits (s.ready l) ((s.ready l).bounded.topped.small 65) w

  module _ {racking : List ℕ} (f : Fixed racks racking) (l : t.moves < k) where
    all-is : queued_plan 64 (rows_of ends line bits) ≡ plan racks h.places
    all-is = ready-plan racks h.places (rows_of ends line bits) (s.ready l)

    -- a phase can be run
    pub turn_runnable : Runnable ends b k t h racking line bits log
    turn_runnable =
        record {
          within = s.within;
          few = omega (arith, s.count, aways-few racks h₀.places, f.small);
          plannable = record {
            long = s.line-long;
            bounded = (s.ready l).bounded;
            fits = rw all-is (omega (arith, plan-aways racks h.places, s.count, aways-few racks h₀.places, f.small, s.log-long));
          };
          small = omega (arith, s.legal.long, f.small);
          sized = ap (λ (n : ℕ). n * b) s.legal.long ∙ sym s.cards-long;
          plan-few = rw all-is (omega (arith, plan-few racks h.places, f.small));
          slots = rw (all-is, s.legal.long) (all_map (λ m a. record { from_lt = a.from_lt; to_lt = a.to_lt }) (plan-allowed racks h.places));
          racked = λ g i. let j : g < slots racks = omega (arith, s.legal.long) in omega (arith, f.filled g j, rack_lt racks g j, f.few);
        }

    -- the phase is run
    module _ {t' : Tally} {h' : Held} {line' bits' log' : List ℕ} (r : PhaseRun ends b k t h racking line bits log t' h' line' bits' log') where
      abbrev made : List Pair
      made = take (k - t.moves) (plan racks h.places)

      pub held-is : h' ≡ carried b made h
      held-is = rw (← all-is) r.done.held-is

      pub moves-are : t'.moves ≡ t.moves + length made
      moves-are = rw (← all-is) (ap (λ (x : Tally). x.moves) r.done.tally-is)

      -- it counts nothing but moves
      pub moves-only : MovesOnly t → MovesOnly t'
      moves-only o = record {
        phases-none = ap (λ (x : Tally). x.phases) r.done.tally-is ∙ o.phases-none;
        copies-none = ap (λ (x : Tally). x.copies) r.done.tally-is ∙ o.copies-none;
      }

      in-turn : InTurn racks h.places made
      in-turn = in-turn-take (k - t.moves) (plan_in-turn s.legal)

      made-long : length made ≡ min (k - t.moves) (length (plan racks h.places))
      made-long = length-take (k - t.moves) (plan racks h.places)

      module _ (e : some_away racks h.places ≡ true) where
        -- it moves a card
        pub turn_more : t.moves < t'.moves
        turn_more = omega (arith, moves-are, made-long, (first-fit f.spared).has_pair h.places s.legal e)

        -- the moves left, after this phase's
        left_over : budget racks (k - t.moves) h.places ≡ made ++ budget racks (k - t'.moves) h'.places
        left_over = elim (dec_lt (length (plan racks h.places)) (k - t.moves)) [
          | yes m ↦
              let n : k - t'.moves ≡ (k - t.moves) - length (plan racks h.places) = omega (arith, moves-are, made-long) in
              let q : made ≡ plan racks h.places = take_all (k - t.moves) (plan racks h.places) (omega arith) in
              rw (held-is, n) (rw q (rw q at (budget-step (first-fit f.spared) s.legal (k - t.moves) e)))
          | no m ↦
              let n : k - t'.moves ≡ 0 = omega (arith, moves-are, made-long) in
              let o : (k - t.moves) - length (plan racks h.places) ≡ 0 = omega arith in
              rw (n, budget-zero racks h'.places) (rw (o, budget-zero racks (carried_places (plan racks h.places) h.places)) at (budget-step (first-fit f.spared) s.legal (k - t.moves) e))
        ]

        -- the next turn
        pub turn-next : Turn racks ends b k h₀ t' h' line' bits' log'
        turn-next =
            record {
              within = omega (arith, moves-are, made-long);
              legal = rw held-is (legal_in-turn s.legal in-turn);
              cards-long = rw held-is (length-carried-cards b made h.cards ∙ s.cards-long);
              line-long = ap length r.noted-are.line-is ∙ noted-long racking f.filled f.few r.line₁ s.legal in-turn-all r.planned.long;
              log-long = rw (r.planned.written.list, length-sets) s.log-long;
              ready = ready;
              rest = ap (carried b (budget racks (k - t'.moves) h'.places)) held-is ∙ sym (carried-append b _ _ h) ∙ ap (λ (ms : List Pair). carried b ms h) (sym left_over) ∙ s.rest;
              count = rw held-is (omega (arith, moves-are, aways-carried s.legal in-turn, s.count));
            }
          where
            in-turn-all : InTurn racks h.places (take (k - t.moves) (queued_plan 64 (rows_of ends line bits)))
            in-turn-all = rw all-is in-turn

            ready : t'.moves < k → Ready racks h'.places (rows_of ends line' bits')
            ready o =
                let q : made ≡ plan racks h.places = take_all (k - t.moves) (plan racks h.places) (omega (arith, moves-are, made-long)) in
                rw (held-is, r.noted-are.line-is, r.noted-are.bits_are, all-is, q)
                (ready-next s.legal (s.ready l) racking f.filled r.planned)

-- the first turn
module _ {job : Job} {b : ℕ} {h : Held} {racking line bits log : List ℕ} (g : Going job b h racking line bits log) where
  pub going-fixed : Fixed (racks_of job) racking
  going-fixed = record { spared = g.spared; small = g.opened.sound.small; few = sound-few job g.opened.sound; filled = g.opened.filled }

  pub turn-first : (k : ℕ) → Turn (racks_of job) job.ends b k h no_counts h line bits log
  turn-first k =
      let z : k - 0 ≡ k = omega arith in
      record {
        within = omega arith;
        legal = g.opened.legal;
        cards-long = g.cards-long;
        line-long = g.started.long;
        log-long = g.log-long;
        ready = λ _. g.started.ready;
        rest = rw z;
        count = omega arith;
      }
