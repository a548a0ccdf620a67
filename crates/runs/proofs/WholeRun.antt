-- A whole run: its counts, the budget that makes all its moves, and every card home. Assumes nothing.
use mathlib.Core.Path.{◌≡◌, refl, ap}
use mathlib.Core.List.{List}
use Prim.Native.Nat.{ℕ, ◌*◌, ◌≤◌}
use native.Mathlib.Omega.{arith}
use lib.ListN.{length}
use lib.Seq.{take_all}
use Rattle.counting.specs.Lists.{Pair, join}
use Rattle.racks.specs.Racks.{Rack, slots}
use Rattle.racks.specs.Table.{aways}
use Rattle.racks.specs.parts.Legal.{Legal, Spared}
use Rattle.moves.specs.Moves.{Held, carried}
use Rattle.moves.specs.Phases.{phases, budget}
use Rattle.moves.proofs.Carry.{in-turn-moving}
use Rattle.moves.proofs.Phases.{phases_in-turn, phases-moves, phases-pairs}
use Rattle.moves.proofs.FirstFit.{first-fit}
use Rattle.factors.specs.Copies.{copy_list}
use Rattle.shuffle.specs.Shuffle.{settled_held}
use Rattle.shuffle.specs.Home.{Home}
use Rattle.shuffle.proofs.Homes.{moving-home}
use Rattle.runs.specs.Run.{gathered, counts}
use Rattle.runs.proofs.Gathering.{all-counted}

module _ (racks : List Rack) (b : ℕ) (h : Held) (legal : Legal racks h.places) (spared : Spared racks) where
  -- moves counts the cards that were away
  pub run-moves : (counts racks b h).moves ≡ aways racks h.places
  unfolding counts
  run-moves = phases-moves (first-fit spared) legal

  -- phases counts every plan: each had pairs
  pub run-phases : (counts racks b h).phases ≡ length (phases racks h.places)
  unfolding counts
  run-phases = all-counted (phases-pairs (first-fit spared) legal)

  -- copies counts the copy list of the table that the phases leave
  pub run-copies : (counts racks b h).copies ≡ length (copy_list (gathered racks b h).places)
  unfolding counts
  run-copies = refl

  -- a budget of at least the cards away makes all moves of a run
  pub run-budget : (k : ℕ) → aways racks h.places ≤ k → carried b (budget racks k h.places) h ≡ gathered racks b h
  unfolding gathered budget
  run-budget k l = ap (λ (ms : List Pair). carried b ms h) (take_all k (join (phases racks h.places)) (omega (arith, phases-moves (first-fit spared) legal)))

  -- each card ends in its named slot, byte for byte; every other slot is free and blank
  pub run_home : slots racks ≤ 4096 → length h.cards ≡ slots racks * b → Home racks b h (settled_held racks b (gathered racks b h))
  unfolding gathered
  run_home small long = moving-home racks b h legal small long (in-turn-moving (phases_in-turn (first-fit spared) legal))
