-- What the phases of a legal job leave: a legal table, and as many card bytes; and how many they are. Assumes nothing.
use mathlib.Core.Path.{◌≡◌, refl, ◌∙◌}
use mathlib.Core.List.{List}
use Prim.Native.Nat.{ℕ, ◌*◌, ◌≤◌}
use native.Mathlib.Omega.{arith}
use lib.ListN.{length, length-append}
use borrow.Author.Tests.{lt-ltb}
use Rattle.counting.specs.Lists.{Pair, join, matching}
use Rattle.counting.specs.Every.{All}
use Rattle.counting.specs.Every.All.{more, none}
use Rattle.racks.specs.Racks.{Rack, slots}
use Rattle.racks.specs.parts.Legal.{Legal, Spared}
use Rattle.moves.specs.Moves.{Held}
use Rattle.moves.specs.Phases.{phases}
use Rattle.moves.proofs.Carry.{length-carried-cards}
use Rattle.moves.proofs.Phases.{HasPair, phases-legal}
use Rattle.moves.proofs.FirstFit.{first-fit}
use Rattle.runs.specs.Run.{has_pairs, gathered}

module _ (racks : List Rack) (b : ℕ) (h : Held) where
  pub legal-gathered : Legal racks h.places → Spared racks → Legal racks (gathered racks b h).places
  unfolding gathered
  legal-gathered legal spared = phases-legal (first-fit spared) legal

  pub long-gathered : length h.cards ≡ slots racks * b → length (gathered racks b h).cards ≡ slots racks * b
  unfolding gathered
  long-gathered long = length-carried-cards b (join (phases racks h.places)) h.cards ∙ long

-- plans that all have pairs are counted whole
pub all-counted : {ps : List (List Pair)} → All HasPair ps → matching has_pairs ps ≡ length ps
unfolding matching has_pairs
all-counted none = refl
all-counted (more {x} h r) = rw (lt-ltb 0 (length x) h) (omega (arith, all-counted r))

-- and are no more than their pairs
pub all-few : {ps : List (List Pair)} → All HasPair ps → length ps ≤ length (join ps)
unfolding join
all-few none = omega arith
all-few (more {x} {l} h r) = omega (arith, all-few r, length-append x (join l))
