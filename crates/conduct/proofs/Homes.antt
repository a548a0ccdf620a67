-- Every card home by any way, proved. Assumes nothing.
use mathlib.Core.Path.{◌≡◌, sym, ◌∙◌}
use mathlib.Core.List.{List, [], ◌∷◌}
use Prim.Native.Nat.{ℕ, ◌≤◌}
use Rattle.counting.specs.Lists.{Pair}
use Rattle.counting.proofs.Tests.{by-test}
use Rattle.racks.specs.Racks.{Rack, slots}
use Rattle.racks.specs.Numbers.{some_away}
use Rattle.racks.proofs.LegalTable.{spared-caps}
use Rattle.moves.specs.Moves.{Held, carried}
use Rattle.moves.proofs.Carry.{in-turn-moving}
use Rattle.moves.proofs.Phases.{phases_in-turn, aways-none}
use Rattle.moves.proofs.FirstFit.{first-fit}
use Rattle.shuffle.specs.Shuffle.{shuffled}
use Rattle.shuffle.specs.Home.{Home}
use Rattle.shuffle.proofs.Homes.{home-carried, home-one, home-legal, home_again}
use Rattle.runs.specs.Run.{gathered, ran}
use Rattle.conduct.specs.Calls.{CardsCall, leaves, left_after}
use Rattle.conduct.specs.Calls.CardsCall.{moves, shuffle, run}
use Rattle.conduct.specs.Demand2.{Shuffle}
use Rattle.conduct.specs.Homes.{Gathers, Homes, HomesHold}
use Rattle.conduct.proofs.Acceptance.{accepted-small}
use Rattle.conduct.proofs.Calls.{Start, start-legal, start-long, start-legal_again, start-moving, start-carried, call-done}
use Rattle.conduct.proofs.Runs.{shuffle-done, shuffle-refused, gathered_none, ran-home, ran-shuffled, budgeted-gathered}

-- what calls leave: a table and its cards that are accepted, and all that is home from there is home from the start
record Kept (racks : List Rack) (b : ℕ) (h h' : Held) : Type 0 where
  pub start : Start racks b h'
  pub home : {end : Held} → Home racks b h' end → Home racks b h end

-- a whole run then leaves what it would have left at the start
kept_run : {racks : List Rack} {b : ℕ} {h h' : Held} → Kept racks b h h' → slots racks ≤ 4096 → Start racks b h → (ran racks b h').held ≡ (ran racks b h).held
kept_run kept small s = home-one small (kept.home (ran-home kept.start small)) (ran-home s small)

module _ {racks : List Rack} {b : ℕ} (small : slots racks ≤ 4096) where
  -- a table with its cards where every card is home
  home-kept : {h h' : Held} → Start racks b h → Home racks b h h' → Kept racks b h h'
  home-kept s x =
      record {
        start = start-legal_again s (home-legal (start-legal s) small x) x.cards-long;
        home = home_again (start-legal s) small x;
      }

  -- one call: moves that are allowed in turn, a shuffle that is refused or brings every card home, a run that brings every card home
  call_keeps : {h : Held} (call : CardsCall) → Start racks b h → Kept racks b h (leaves racks b h call)
  unfolding leaves
  call_keeps {h} (moves call) s =
      let one = call-done call s in
      rw one.held-is (record {
        start = start-carried s one.in-turn;
        home = home-carried racks b h (start-legal s) small (start-long s) (in-turn-moving one.in-turn);
      })
  call_keeps {h} shuffle s =
      by-test (some_away racks h.places) (λ e. rw (shuffle-refused s e) (record { start = s; home = λ x. x }))
      (λ e. home-kept s (shuffle-done s small (aways-none racks h.places e)).home)
  call_keeps run s = home-kept s (ran-home s small)

  -- so do all
  calls_keep : {h : Held} (calls : List CardsCall) → Start racks b h → Kept racks b h (left_after racks b calls h)
  unfolding left_after
  calls_keep [] s = record { start = s; home = λ x. x }
  calls_keep {h = h} (call ∷ calls) s =
      let one = call_keeps call s in
      let rest = calls_keep {h = leaves racks b h call} calls one.start in
      record { start = rest.start; home = λ x. one.home (rest.home x) }

module _ {racks : List Rack} {b : ℕ} {h : Held} (s : Start racks b h) (small : slots racks ≤ 4096) where
  -- the shuffle after moves to free slots that leave nothing away
  moved-shuffle : {ms : List Pair} → Gathers racks b h ms → Shuffle racks b (carried b ms h)
  moved-shuffle g = shuffle-done (start-moving s g.moving) small g.none-away

  moved-home : {ms : List Pair} → Gathers racks b h ms → Home racks b h (shuffled racks b (carried b ms h)).held
  moved-home g = home-carried racks b h (start-legal s) small (start-long s) g.moving (moved-shuffle g).home

  from_start : Homes racks b h
  unfolding gathered
  from_start =
      record {
        phases_gather = record { moving = in-turn-moving (phases_in-turn (first-fit s.spared) (start-legal s)); none-away = gathered_none s small };
        done = λ ms g. (moved-shuffle g).done;
        home = λ ms g. moved-home g;
        one = λ x y u v. home-one small u v;
        any-moves = λ ms g. home-one small (moved-home g) (ran-home s small);
        later-run = λ calls. kept_run (calls_keep small calls s) small s;
        later-budget = λ calls k l.
            let kept = calls_keep small calls s in
            sym (ran-shuffled kept.start small _ (budgeted-gathered kept.start small k l)) ∙ kept_run kept small s;
      }

-- **Every card home by any way.** Every accepted job
pub homes : HomesHold
homes caps b h z = from_start (record { spared = spared-caps caps; fits = z }) (accepted-small caps b h.places h.cards z)
