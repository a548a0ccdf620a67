-- The shuffle, the whole run and budgeted moves of an accepted job. Assumes nothing.
use mathlib.Core.Path.{◌≡◌, sym, ◌∙◌}
use mathlib.Core.Bool.{true, false}
use mathlib.Core.List.{List, []}
use Prim.Native.Nat.{ℕ, ◌≤◌, min}
use native.Mathlib.Omega.{arith}
use lib.ListN.{length, take}
use Rattle.counting.specs.Lists.{join}
use Rattle.counting.specs.Checks.{first}
use Rattle.counting.proofs.Tests.{off}
use Rattle.counting.proofs.Checks.{first-clear, first_past, first-here, first-later, first-none}
use Rattle.racks.specs.Racks.{Rack, slots}
use Rattle.racks.specs.Table.{aways}
use Rattle.racks.specs.Numbers.{some_away}
use Rattle.answers.specs.Answers.{placeless, answer, moves_of}
use Rattle.moves.specs.Moves.{Held, carried}
use Rattle.moves.specs.Phases.{phases, budget, budgeted}
use Rattle.moves.proofs.Phases.{phases_in-turn, phases-end, aways-some, aways-none}
use Rattle.moves.proofs.FirstFit.{first-fit}
use Rattle.racks.proofs.Marked.{cards-marked}
use Rattle.factors.specs.Copies.{copy_list}
use Rattle.factors.proofs.Chains.{chained}
use Rattle.factors.proofs.OneRack.{one-rack}
use Rattle.shuffle.specs.Shuffle.{settled_held, shuffle_checks, shuffled}
use Rattle.shuffle.specs.Home.{Home}
use Rattle.shuffle.proofs.Homes.{settled-home}
use Rattle.runs.specs.Run.{gathered, counts, ran}
use Rattle.runs.proofs.WholeRun.{run-moves, run-phases, run-budget, run_home}
use Rattle.conduct.specs.Demand2.{Shuffle}
use Rattle.conduct.proofs.Calls.{Start, start-legal, start-long, start-carried}
use Rattle.conduct.proofs.Section2.{copy-list}

module _ {racks : List Rack} {b : ℕ} {h : Held} (s : Start racks b h) (small : slots racks ≤ 4096) where
  -- where nothing is away, nothing is refused
  module _ (z : aways racks h.places ≡ 0) where
    none-away : some_away racks h.places ≡ false
    none-away = off (λ e. omega (arith, aways-some racks h.places e))

    shuffle-number : first (shuffle_checks racks b h) ≡ 0
    unfolding shuffle_checks
    shuffle-number =
        first_past _ (first-clear (cards-marked racks b h.places h.cards) s.fits) ∙ first-later (some_away racks h.places) 12 [] none-away ∙ first-none

    pub shuffled-held : (shuffled racks b h).held ≡ settled_held racks b h
    unfolding shuffled
    shuffled-held = rw shuffle-number

    pub shuffle-done : Shuffle racks b h
    unfolding shuffled
    shuffle-done =
        record {
          done = shuffle-number;
          list = copy-list (chained (start-legal s) small);
          inside = one-rack (start-legal s) small none-away;
          home = rw shuffle-number (settled-home racks b h (start-legal s) small (start-long s));
          copies = rw shuffle-number;
        }

-- where a card is away, the shuffle is refused and changes nothing
pub shuffle-refused : {racks : List Rack} {b : ℕ} {h : Held} → Start racks b h → some_away racks h.places ≡ true → (shuffled racks b h).held ≡ h
unfolding shuffled shuffle_checks
shuffle-refused {racks} {b} {h} s e =
    rw (first_past _ (first-clear (cards-marked racks b h.places h.cards) s.fits) ∙ first-here (some_away racks h.places) 12 [] e)

module _ {racks : List Rack} {b : ℕ} {h : Held} (s : Start racks b h) (small : slots racks ≤ 4096) where
  -- after all phases the table is accepted
  pub start-gathered : Start racks b (gathered racks b h)
  unfolding gathered
  start-gathered = start-carried s (phases_in-turn (first-fit s.spared) (start-legal s))

  -- and nothing is away
  pub gathered_none : aways racks (gathered racks b h).places ≡ 0
  unfolding gathered
  gathered_none = aways-none racks _ (phases-end (first-fit s.spared) (start-legal s))

  pub ran-number : (ran racks b h).answer.number ≡ 0
  unfolding ran
  ran-number = s.fits

  -- what a whole run leaves
  pub ran-held : (ran racks b h).held ≡ settled_held racks b (gathered racks b h)
  unfolding ran
  ran-held = rw s.fits

  pub ran-home : Home racks b h (ran racks b h).held
  ran-home = rw ran-held (run_home racks b h (start-legal s) s.spared small (start-long s))

  -- its counts
  pub ran-phases : (ran racks b h).answer.tally.phases ≡ length (phases racks h.places)
  unfolding ran
  ran-phases = rw s.fits (run-phases racks b h (start-legal s) s.spared)

  pub ran-moves : (ran racks b h).answer.tally.moves ≡ aways racks h.places
  unfolding ran
  ran-moves = rw s.fits (run-moves racks b h (start-legal s) s.spared)

  pub ran-copies : (ran racks b h).answer.tally.copies ≡ length (copy_list (gathered racks b h).places)
  unfolding ran counts
  ran-copies = rw s.fits

  -- it ends with the shuffle of what its phases, or budgeted moves with budget enough, leave
  pub ran-shuffled : (x : Held) → x ≡ gathered racks b h → (ran racks b h).held ≡ (shuffled racks b x).held
  ran-shuffled x e = rw e (ran-held ∙ sym (shuffled-held start-gathered small gathered_none))

  -- budgeted moves make the first k of all pairs
  pub budgeted-first : (k : ℕ)
      → budgeted racks b h k ≡ record { answer = answer (placeless 0) (moves_of (min k (aways racks h.places))); held = carried b (take k (join (phases racks h.places))) h }
  unfolding budgeted budget
  budgeted-first k = rw s.fits

  pub budgeted-gathered : (k : ℕ) → aways racks h.places ≤ k → (budgeted racks b h k).held ≡ gathered racks b h
  unfolding budgeted
  budgeted-gathered k l = rw s.fits (run-budget racks b h (start-legal s) s.spared k l)
