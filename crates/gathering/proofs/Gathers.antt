-- The phases of a run by the table of what is awaited: a cursor over its cells, before which nothing is awaited any more. Assumes nothing.
use mathlib.Core.Path.{◌≡◌, ap}
use mathlib.Core.Bool.{true}
use mathlib.Core.List.{List, [], ◌∷◌, ◌++◌}
use Prim.Native.Nat.{ℕ, ◌*◌, ◌≤◌, ◌<◌}
use native.Mathlib.Omega.{arith}
use native.Mathlib.Decide.{dec_lt}
use lib.ListN.{length, get_or}
use Rattle.counting.specs.Lists.{Pair, join}
use Rattle.racks.specs.Racks.{Rack}
use Rattle.racks.specs.Numbers.{some_away}
use Rattle.racks.specs.Job.{racks_of}
use Rattle.racks.specs.declared.Job.{Job}
use Rattle.answers.specs.declared.Tally.{Tally}
use Rattle.answers.specs.Answers.{no_counts}
use Rattle.plans.specs.Plan.{plan}
use Rattle.bits.specs.parts.Bits.{NextOn}
use Rattle.moves.specs.Moves.{Held}
use Rattle.budgets.specs.parts.Engine.{Runnable, PhaseRun}
use Rattle.owed.specs.parts.Kept.{Awaited, owing}
use Rattle.owed.proofs.Owing.{none-owing}
use Rattle.gathering.specs.parts.Gathered.{Round, Closable, RoundClosed, Set, PhasesMade}
use Rattle.gathering.proofs.Rounds.{join_last, round-first, round_runnable, round-more, round_closable, round-next, round-done, awaited-some, awaited-none, awaited-falls}

-- a run so far: some phases are done, and nothing is awaited before the cursor
pub record Sofar (racks : List Rack) (ends : List ℕ) (b : ℕ) (h₀ : Held) (t : Tally) (h : Held) (racking line bits log owes awaits : List ℕ) (cells at : ℕ) : Type 0 where
  pub done : List (List Pair)
  pub round : Round racks ends b h₀ done t h racking line bits log owes awaits
  pub below : (k : ℕ) → k < at → get_or awaits k 0 ≡ 0
  pub hit : at < cells → owing awaits at ≡ true
  pub few : at ≤ cells

-- a run begins
pub sofar-first : {job : Job} {b : ℕ} {h : Held} {racking line bits log owes awaits : List ℕ} {cells at : ℕ} → Set job b h racking line bits log owes awaits
    → NextOn (owing awaits) 0 cells at → Sofar (racks_of job) job.ends b h no_counts h racking line bits log owes awaits cells at
sofar-first {awaits = awaits} s o = record {
  done = [];
  round = round-first s;
  below = λ k l. none-owing awaits k (o.passed k (omega arith) l);
  hit = o.hit;
  few = o.within;
}

module _ {racks : List Rack} {ends : List ℕ} {b : ℕ} {h₀ : Held} {t : Tally} {h : Held} {racking line bits log owes awaits : List ℕ} {cells at : ℕ}
    (y : Sofar racks ends b h₀ t h racking line bits log owes awaits cells at) where
  -- nothing is awaited
  pub sofar-done : cells ≡ length racks * 64 → cells ≤ at → PhasesMade racks b h₀ h t log
  sofar-done e l = round-done y.round (awaited-none y.round (λ k m. y.below k (omega arith)))

  module _ (l : at < cells) (few : cells ≤ 4096) where
    away : some_away racks h.places ≡ true
    away = awaited-some y.round at (omega arith) (y.hit l)

    -- a phase can be run
    pub sofar_runnable : Runnable ends b 4096 t h racking line bits log
    sofar_runnable = round_runnable y.round away

    module _ {t' : Tally} {h' : Held} {line' bits' log' : List ℕ} (p : PhaseRun ends b 4096 t h racking line bits log t' h' line' bits' log') where
      -- and closed
      pub sofar_closable : Closable t t' racking log' owes awaits
      sofar_closable = round_closable y.round away p

      module _ {t'' : Tally} {log'' owes' awaits' : List ℕ} (q : RoundClosed t t' racking log' owes awaits t'' log'' owes' awaits') where
        abbrev ms : List Pair
        ms = plan racks h.places

        after : Round racks ends b h₀ (y.done ++ ms ∷ []) t'' h' racking line' bits' log'' owes' awaits'
        after = round-next y.round away p q

        -- it makes a move
        pub sofar-more : (t.moves < t''.moves) × (t''.moves ≤ 4096)
        sofar-more = (omega (arith, round-more y.round away p, ap (λ (x : Tally). x.moves) q.counted), after.turn.within)

        -- and the cursor goes on
        pub sofar-next : {at' : ℕ} → NextOn (owing awaits') at cells at' → Sofar racks ends b h₀ t'' h' racking line' bits' log'' owes' awaits' cells at'
        sofar-next {at'} o =
            let w : Awaited racks h₀.places (join y.done ++ ms) awaits' = rw (join_last y.done ms) at after.awaited in
            record {
              done = y.done ++ ms ∷ [];
              round = after;
              below = λ k i. elim (dec_lt k at) [
                | yes j ↦ awaited-falls y.round ms w k (omega arith) (y.below k j)
                | no j ↦ none-owing awaits' k (o.passed k (omega arith) i)
              ];
              hit = o.hit;
              few = o.within;
            }
