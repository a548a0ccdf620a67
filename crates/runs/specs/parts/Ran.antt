-- What a whole run leaves and counts, phases first. Assumes nothing: these are definitions.
use Rattle.std.specs.Prelude.{◌≡◌, List, ℕ, length}
use Rattle.counting.specs.Lists.{join, matching}
use Rattle.racks.specs.Racks.{Rack}
use Rattle.answers.specs.declared.Tally.{Tally}
use Rattle.moves.specs.Moves.{Held}
use Rattle.moves.specs.Phases.{phases}
use Rattle.shuffle.specs.Shuffle.{settled_held}
use Rattle.runs.specs.Run.{has_pairs, gathered, counts}

-- the counts of all phases: the plans that had pairs, and the pairs carried
unfoldable pub phase_counts : List Rack → List ℕ → Tally
phase_counts racks places = record { phases = matching has_pairs (phases racks places); moves = length (join (phases racks places)); copies = 0 }

-- a whole run made
pub record Ran (racks : List Rack) (b : ℕ) (h h' : Held) (t : Tally) : Type 0 where
  pub held-is : h' ≡ settled_held racks b (gathered racks b h)
  pub tally-is : t ≡ counts racks b h
