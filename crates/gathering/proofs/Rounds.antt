-- The rounds of a run: a phase carried whole and logged, its moves paid for, until nothing is awaited. Assumes nothing.
use mathlib.Core.Path.{◌≡◌, refl, ap, sym, subst, ◌∙◌}
use mathlib.Core.Bool.{true, false}
use mathlib.Core.List.{List, [], ◌∷◌, ◌++◌, append-nil, append_assoc}
use Prim.Native.Nat.{ℕ, ◌+◌, ◌-◌, ◌*◌, ◌/◌, ◌%◌, ◌≤◌, ◌<◌}
use native.Mathlib.Omega.{arith}
use native.Mathlib.Decide.{ℕ_discrete}
use lib.ListN.{length, take, drop, get_or, set, length-set, length-append}
use lib.Seq.{sets, take_all, take_at, take-append-le, take-set-le, length-take-le, length-sets, sets-eq, get_or-set_same, get_or-set_other}
use borrow.Author.Tests.{eq-eqb}
use Rattle.counting.specs.Lists.{Pair, join, flat}
use Rattle.counting.proofs.Tests.{by-test, both, no_way, and_l, not_on}
use Rattle.counting.proofs.Count.{count-pos, count-some}
use Rattle.counting.proofs.Some.{some-hit}
use Rattle.counting.proofs.Lists.{join-append, matching-append}
use Rattle.counting.proofs.Stores.{length-flat, flat_append, sets_else}
use Rattle.racks.specs.Racks.{Rack, slots, rack_of}
use Rattle.racks.specs.Table.{dest, rack_to, away, bound, owes}
use Rattle.racks.specs.Numbers.{some_away}
use Rattle.racks.specs.Job.{racks_of}
use Rattle.racks.specs.declared.Job.{Job}
use Rattle.racks.proofs.Geometry.{rack_lt}
use Rattle.racks.proofs.LegalTable.{legal-dest}
use Rattle.racks.proofs.Away.{aways-few, away-held, to_is, to-away}
use Rattle.answers.specs.declared.Tally.{Tally}
use Rattle.answers.specs.Answers.{no_counts}
use Rattle.plans.specs.Plan.{plan}
use Rattle.plans.proofs.Plans.{plan-aways}
use Rattle.owed.specs.parts.Owed.{cell, Owed}
use Rattle.queues.specs.parts.Queues.{rows_of}
use Rattle.pairing.proofs.Ready.{ready-plan}
use Rattle.moves.specs.Moves.{carried_places, carried_cards, between, Held, carried}
use Rattle.moves.specs.Phases.{phases}
use Rattle.carrying.specs.parts.Carrying.{pairs_in}
use Rattle.carrying.proofs.Flat.{pairs-all}
use Rattle.moves.specs.Turns.{InTurn}
use Rattle.moves.proofs.Carry.{in-turn-append, carried-append}
use Rattle.moves.specs.Turns.InTurn.{stop}
use Rattle.moves.proofs.Phases.{some-away, aways-some, phases-none, phases-step, phases-pairs, phases-moves, Planner}
use Rattle.moves.proofs.FirstFit.{first-fit}
use Rattle.budgets.specs.parts.Engine.{Runnable, PhaseRun}
use Rattle.budgets.proofs.NextPhase.{plan_in-turn}
use Rattle.budgets.specs.parts.Turns.{Turn}
use Rattle.budgets.proofs.Turns.{tally-is, going-fixed, turn-first, turn_runnable, turn_more, turn-next, held-is, moves-are}
use Rattle.runs.specs.Run.{gathered}
use Rattle.runs.proofs.Gathering.{all-counted, all-few}
use Rattle.moves.specs.Awaits.{awaits}
use Rattle.owed.specs.parts.Kept.{Awaited, owing}
use Rattle.runs.specs.parts.Ran.{phase_counts}
use Rattle.gathering.specs.parts.Gathered.{Logged, Round, Closable, RoundClosed, Set, PhasesMade}
use Rattle.owed.proofs.Owing.{owed_paid, owed-payable, awaited-is, awaited-owed}

-- lists and one more behind them
pub join_last : (done : List (List Pair)) (ms : List Pair) → join (done ++ ms ∷ []) ≡ join done ++ ms
unfolding join
join_last done ms = join-append done (ms ∷ []) ∙ rw append-nil

-- numbers stored behind the first i
take_sets : (l vs : List ℕ) (i : ℕ) → i + length vs ≤ length l → take (i + length vs) (sets l i vs) ≡ take i l ++ vs
take_sets l vs i h =
    ap (take (i + length vs)) (sets-eq vs l i h)
    ∙ take_at (take i l ++ vs) (drop (i + length vs) l) (i + length vs) (length-append (take i l) vs ∙ omega (arith, length-take-le i l (omega arith)))

-- one phase more is logged
logged-more : {done : List (List Pair)} {log log' : List ℕ} (ms : List Pair) → Logged done log → length (join done) + length ms ≤ 4096 → 8192 ≤ length log → length done < 4096
    → log' ≡ set (sets log (2 * length (join done)) (flat ms)) (8192 + length done) (length (join done) + length ms) → Logged (done ++ ms ∷ []) log'
logged-more {done} {log} {log'} ms g few long j e = record {
  pairs =
      let n : 2 * length (join done ++ ms) ≡ 2 * length (join done) + length (flat ms) = omega (arith, length-append (join done) ms, length-flat ms) in
      rw (join_last done ms, flat_append (join done) ms, e, n)
      (take-set-le (2 * length (join done) + length (flat ms)) (sets log (2 * length (join done)) (flat ms)) (8192 + length done) _ (omega (arith, length-flat ms))
      ∙ take_sets log (flat ms) (2 * length (join done)) (omega (arith, length-flat ms))
      ∙ ap (λ (l : List ℕ). l ++ flat ms) g.pairs);
  ends = λ room i l. elim (ℕ_discrete i (length done)) [
    | yes q ↦
        let all : take (length done + 1) (done ++ ms ∷ []) ≡ done ++ ms ∷ [] = take_all (length done + 1) (done ++ ms ∷ []) (omega (arith, length-append done (ms ∷ []))) in
        rw (q, e, all, join_last done ms)
        (get_or-set_same (sets log (2 * length (join done)) (flat ms)) (8192 + length done) _ 0 (omega (arith, same, length-sets log (2 * length (join done)) (flat ms))) ∙ sym (length-append (join done) ms))
    | no q ↦
        let m : i < length done = omega (arith, length-append done (ms ∷ [])) in
        let front : take (i + 1) (done ++ ms ∷ []) ≡ take (i + 1) done = take-append-le (i + 1) done (ms ∷ []) (omega arith) in
        rw (e, front)
        (get_or-set_other (sets log (2 * length (join done)) (flat ms)) (8192 + length done) (8192 + i) _ 0 (λ x. q (omega arith))
        ∙ sets_else (flat ms) log (2 * length (join done)) (8192 + i) (λ x. omega (arith, length-flat ms))
        ∙ g.ends (omega (arith, same)) i m)
  ];
}
  where
    same : length log' ≡ length log
    same = ap length e ∙ length-set (sets log (2 * length (join done)) (flat ms)) (8192 + length done) _ ∙ length-sets log (2 * length (join done)) (flat ms)

-- the turn is the same where as many moves are counted and the log is as long
turn-same : {racks : List Rack} {ends : List ℕ} {b k : ℕ} {h₀ : Held} {t t' : Tally} {h : Held} {line bits log log' : List ℕ} → t'.moves ≡ t.moves → length log' ≡ length log
    → Turn racks ends b k h₀ t h line bits log → Turn racks ends b k h₀ t' h line bits log'
turn-same e l s = record {
  within = rw e s.within;
  legal = s.legal;
  cards-long = s.cards-long;
  line-long = s.line-long;
  log-long = rw l s.log-long;
  ready = λ m. s.ready (rw e at m);
  rest = rw e s.rest;
  count = rw e s.count;
}

module _ {racks : List Rack} {ends : List ℕ} {b : ℕ} {h₀ : Held} {done : List (List Pair)} {t : Tally} {h : Held} {racking line bits log dues wants : List ℕ}
    (r : Round racks ends b h₀ done t h racking line bits log dues wants) where
  places-are : h.places ≡ carried_places (join done) h₀.places
  places-are = ap (λ (x : Held). x.places) r.held-is

  -- both tables have what racks owe now
  now-awaited : Owed racks h.places wants
  now-awaited = rw places-are (awaited-owed r.legal₀ r.in-turn r.awaited)

  -- a card is awaited by the table: one is away
  pub awaited-some : (k : ℕ) → k < 4096 → owing wants k ≡ true → some_away racks h.places ≡ true
  unfolding some_away owes bound owing
  awaited-some k l o =
      let e : cell (k / 64) (k % 64) ≡ k = omega arith in
      let c : get_or wants k 0 ≡ owes racks h.places (k / 64) (k % 64) = rw e at (now-awaited.counts (k / 64) (k % 64) (omega arith) (omega arith)) in
      let some : 0 < owes racks h.places (k / 64) (k % 64) = elim (ℕ_discrete (get_or wants k 0) 0) [ yes z ↦ absurd (no_way (eq-eqb _ _ z) (not_on o)) | no z ↦ omega arith ] in
      let (g, m, a) = count-some (slots racks) (bound racks h.places (k / 64) (k % 64)) some in
      some-hit (slots racks) (away racks h.places) g m (to-away racks h.places (k % 64) g (and_l _ a))

  -- none is awaited: none is away
  pub awaited-none : ((k : ℕ) → k < length racks * 64 → get_or wants k 0 ≡ 0) → some_away racks h.places ≡ false
  unfolding owes bound rack_to
  awaited-none z = by-test (some_away racks h.places)
      (λ e.
      let (g, l, a) = some-away racks h.places e in
      let i : ℕ = rack_of racks g in
      let p : ℕ = rack_to racks h.places g in
      let li : i < 64 = omega (arith, rack_lt racks g l, r.fixed.few) in
      let lp : p < 64 = omega (arith, rack_lt racks (dest h.places g) (legal-dest racks h.places r.turn.legal g l (away-held racks h.places g a)), r.fixed.few) in
      let c : 0 < owes racks h.places i p = count-pos (slots racks) (bound racks h.places i p) g l (both (to_is racks h.places p g a refl) (eq-eqb i i refl)) in
      absurd (omega (arith, now-awaited.counts i p li lp, z (cell i p) (omega (arith, rack_lt racks g l)))))
      (λ e. e)

  -- what is not awaited is not awaited after further moves
  pub awaited-falls : (ms : List Pair) {awaits' : List ℕ} → Awaited racks h₀.places (join done ++ ms) awaits' → (k : ℕ) → k < 4096 → get_or wants k 0 ≡ 0 → get_or awaits' k 0 ≡ 0
  unfolding awaits
  awaited-falls ms {awaits'} a k l z =
      let e : cell (k / 64) (k % 64) ≡ k = omega arith in
      let x = rw e at (r.awaited.counts (k / 64) (k % 64) (omega arith) (omega arith)) in
      let y = rw e at (a.counts (k / 64) (k % 64) (omega arith) (omega arith)) in
      omega (arith, matching-append (between racks (k / 64) (k % 64)) (join done) ms)

  -- a card is away
  module _ (e : some_away racks h.places ≡ true) where
    -- so moves are left of 4,096
    pub round-left : t.moves < 4096
    round-left = omega (arith, r.turn.count, aways-some racks h.places e, aways-few racks h₀.places, r.fixed.small)

    -- the plan is carried whole
    whole : take (4096 - t.moves) (plan racks h.places) ≡ plan racks h.places
    whole = take_all (4096 - t.moves) (plan racks h.places) (omega (arith, plan-aways racks h.places, r.turn.count, aways-few racks h₀.places, r.fixed.small))

    pub round_runnable : Runnable ends b 4096 t h racking line bits log
    round_runnable = turn_runnable r.turn r.fixed round-left

    module _ {t' : Tally} {h' : Held} {line' bits' log' : List ℕ} (p : PhaseRun ends b 4096 t h racking line bits log t' h' line' bits' log') where
      abbrev ms : List Pair
      ms = plan racks h.places

      held-now : h' ≡ carried b ms h
      held-now = rw whole at (held-is r.turn r.fixed round-left p)

      moves-now : t'.moves ≡ t.moves + length ms
      moves-now = moves-are r.turn r.fixed round-left p ∙ ap (λ (l : List Pair). t.moves + length l) whole

      pub round-more : t.moves < t'.moves
      round-more = turn_more r.turn r.fixed round-left p e

      next : Turn racks ends b 4096 h₀ t' h' line' bits' log'
      next = turn-next r.turn r.fixed round-left p e

      -- the moves made are few
      round-few : t'.moves ≤ 4096
      round-few = next.within

      list-is : log' ≡ sets log (2 * t.moves) (flat ms)
      list-is = rw (ready-plan racks h.places (rows_of ends line bits) (r.turn.ready round-left)) at p.planned.written.list

      log-same : length log' ≡ length log
      log-same = ap length list-is ∙ length-sets log (2 * t.moves) (flat ms)

      -- the phases made are few: each has a move
      round-phases : t.phases < 4096
      round-phases = omega (arith, r.phases-count, phases-few, ap length r.phases-are, length-append done (phases racks h.places), ap length (phases-step (first-fit r.fixed.spared) r.turn.legal e))
        where
          fit : Planner racks
          fit = first-fit r.fixed.spared

          phases-few : length (phases racks h₀.places) ≤ 4096
          phases-few = omega (arith, all-few (phases-pairs fit r.legal₀), phases-moves fit r.legal₀, aways-few racks h₀.places, r.fixed.small)

      phases-same : t'.phases ≡ t.phases
      phases-same = ap (λ (x : Tally). x.phases) p.done.tally-is

      -- its pairs stand in the log
      round-pairs : pairs_in log' (2 * t.moves) (2 * t'.moves) ≡ ms
      round-pairs = pairs-all log' log (2 * t.moves) (2 * t'.moves) ms list-is (omega (arith, moves-now, length-flat ms)) (omega (arith, round-few, next.log-long))

      in-turn : InTurn racks h.places ms
      in-turn = plan_in-turn r.turn.legal

      -- and can be paid for in both tables: the phase can be closed
      pub round_closable : Closable t t' racking log' dues wants
      round_closable = record {
        order = omega (arith, moves-now);
        few = round-few;
        phases-few = round-phases;
        phases-same = phases-same;
        log-long = next.log-long;
        owes-long = r.owed.long;
        awaits-long = r.awaited.long;
        owes-pay = rw round-pairs (owed-payable racking r.fixed.filled r.fixed.few r.fixed.small r.turn.legal in-turn r.owed);
        awaits-pay = rw round-pairs (owed-payable racking r.fixed.filled r.fixed.few r.fixed.small r.turn.legal in-turn now-awaited);
      }

      module _ {t'' : Tally} {log'' owes' awaits' : List ℕ} (q : RoundClosed t t' racking log' dues wants t'' log'' owes' awaits') where
        -- closed, one phase more is done
        pub round-next : Round racks ends b h₀ (done ++ ms ∷ []) t'' h' racking line' bits' log'' owes' awaits'
        round-next =
            let moves-end : t''.moves ≡ t'.moves = ap (λ (x : Tally). x.moves) q.counted in
            let long : length log'' ≡ length log' = ap length q.end-noted ∙ length-set log' (8192 + t.phases) t'.moves in
            let now : h'.places ≡ carried_places ms h.places = ap (λ (x : Held). x.places) held-now in
            let turned : InTurn racks h₀.places (join done ++ ms) = in-turn-append r.in-turn (subst (λ (x : List ℕ). InTurn racks x ms) places-are in-turn) in
            let owed₁ : Owed racks h'.places owes' = rw (now, q.moves-paid.owes-are, round-pairs) (owed_paid racking r.fixed.filled r.fixed.few r.fixed.small r.turn.legal in-turn r.owed) in
            let owed₂ : Owed racks h'.places awaits' = rw (now, q.moves-paid.awaits-are, round-pairs) (owed_paid racking r.fixed.filled r.fixed.few r.fixed.small r.turn.legal in-turn now-awaited) in
            let all : h' ≡ carried b (join done ++ ms) h₀ = held-now ∙ ap (carried b ms) r.held-is ∙ sym (carried-append b (join done) ms h₀) in
            record {
              fixed = r.fixed;
              legal₀ = r.legal₀;
              turn = turn-same moves-end long next;
              phases-are = r.phases-are ∙ rw (now, phases-step (first-fit r.fixed.spared) r.turn.legal e, append_assoc);
              held-is = rw (join_last done ms) all;
              in-turn = rw (join_last done ms) turned;
              phases-count = omega (arith, ap (λ (x : Tally). x.phases) q.counted, phases-same, r.phases-count, length-append done (ms ∷ []));
              moves-count = rw (join_last done ms) (omega (arith, moves-end, moves-now, r.moves-count, length-append (join done) ms));
              copies-none = ap (λ (x : Tally). x.copies) q.counted ∙ ap (λ (x : Tally). x.copies) p.done.tally-is ∙ r.copies-none;
              logged = logged-more ms r.logged (omega (arith, round-few, moves-now, r.moves-count)) r.turn.log-long (omega (arith, round-phases, r.phases-count))
                  (q.end-noted ∙ rw (list-is, ← r.moves-count, ← r.phases-count, moves-now));
              owed = owed₁;
              awaited = rw (join_last done ms) (awaited-is r.legal₀ turned (rw (ap (λ (x : Held). x.places) all) at owed₂));
            }

  -- nothing is away
  pub round-done : some_away racks h.places ≡ false → PhasesMade racks b h₀ h t log
  unfolding phase_counts gathered
  round-done e =
      let d : phases racks h₀.places ≡ done = r.phases-are ∙ rw (phases-none racks h.places e, append-nil) in
      record {
        held-is = rw d r.held-is;
        tally-is = tally-is t _ _ _ (r.phases-count ∙ ap length (sym d) ∙ sym (all-counted (phases-pairs (first-fit r.fixed.spared) r.legal₀))) (r.moves-count ∙ rw d) r.copies-none;
        logged = rw d r.logged;
      }

-- a run begins
pub round-first : {job : Job} {b : ℕ} {h : Held} {racking line bits log owes awaits : List ℕ} → Set job b h racking line bits log owes awaits
    → Round (racks_of job) job.ends b h [] no_counts h racking line bits log owes awaits
unfolding join flat carried_places carried_cards
round-first {job} {b} {h} {racking} {line} {bits} {log} {owes} {awaits} s = record {
  fixed = going-fixed s.going;
  legal₀ = s.going.opened.legal;
  turn = turn-first s.going 4096;
  phases-are = refl;
  held-is = refl;
  in-turn = stop;
  phases-count = refl;
  moves-count = refl;
  copies-none = refl;
  logged = record { pairs = refl; ends = λ room j l. absurd (omega arith) };
  owed = s.owed;
  awaited = rw s.agree (awaited-is s.going.opened.legal stop s.owed);
}
