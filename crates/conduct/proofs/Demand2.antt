-- Demand 2, proved. Assumes nothing.
use mathlib.Core.Path.{◌≡◌, ap, sym, subst, ◌∙◌}
use mathlib.Core.List.{List}
use Prim.Native.Nat.{ℕ, ◌≤◌}
use lib.ListN.{length, take}
use lib.Seq.{take-length}
use Rattle.counting.specs.Lists.{Pair, join}
use Rattle.racks.specs.Racks.{Rack, slots}
use Rattle.racks.specs.Table.{aways}
use Rattle.racks.proofs.LegalTable.{spared-caps}
use Rattle.moves.specs.Moves.{Held, carried}
use Rattle.moves.specs.Phases.{phases}
use Rattle.factors.specs.Copies.{copy_list}
use Rattle.runs.specs.Run.{gathered}
use Rattle.conduct.specs.Demand2.{Shuffle, Demand2, Demand2Holds}
use Rattle.conduct.proofs.Acceptance.{accepted-small}
use Rattle.conduct.proofs.Calls.{Start}
use Rattle.conduct.proofs.Phases.{plan-phase, phase-is, phase-away}
use Rattle.conduct.proofs.Figure1Run.{figure1-run}
use Rattle.conduct.proofs.Runs.{shuffle-done, start-gathered, gathered_none, ran-number, ran-home, ran-phases, ran-moves, ran-copies, ran-shuffled, budgeted-first, budgeted-gathered}

-- the table and the cards after all phases
after-all : (racks : List Rack) (b : ℕ) (h : Held) → carried b (join (take (length (phases racks h.places)) (phases racks h.places))) h ≡ gathered racks b h
unfolding gathered
after-all racks b h = ap (λ (ps : List (List Pair)). carried b (join ps) h) (take-length (phases racks h.places))

from_start : {racks : List Rack} {b : ℕ} {h : Held} → Start racks b h → slots racks ≤ 4096 → Demand2 racks b h
from_start {racks} {b} {h} s small =
    let last = after-all racks b h in
    let none = ap (λ (x : Held). aways racks x.places) last ∙ gathered_none s small in
    record {
      plan-now = plan-phase s;
      shuffle-now = λ z. shuffle-done s small z;
      phase = λ n l. phase-is s n l;
      goes_on = λ n l. phase-away s n l;
      over = none;
      figure1-run = figure1-run s none;
      shuffle = subst (Shuffle racks b) (sym last) (shuffle-done (start-gathered s small) small (gathered_none s small));
      then-shuffle = ran-shuffled s small _ last;
      done = ran-number s small;
      home = ran-home s small;
      phase-count = ran-phases s small;
      move-count = ran-moves s small;
      copy-count = ran-copies s small ∙ ap (λ (x : Held). length (copy_list x.places)) (sym last);
      first-k = λ k. budgeted-first s small k;
      by-budget = λ k l. ran-shuffled s small _ (budgeted-gathered s small k l);
    }

-- **Demand 2.** Every accepted job
pub demand2 : Demand2Holds
demand2 caps b h z = from_start (record { spared = spared-caps caps; fits = z }) (accepted-small caps b h.places h.cards z)
