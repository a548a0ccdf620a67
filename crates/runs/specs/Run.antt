-- "Whole run." Assumes nothing: these are definitions.
use Rattle.std.specs.Prelude.{Bool, List, ◌≡◌, ℕ, ltb, length}
use Rattle.counting.specs.Lists.{Pair, join, matching}
use Rattle.counting.specs.Checks.{first}
use Rattle.racks.specs.Racks.{Rack, of_caps}
use Rattle.racks.specs.Numbers.{card_checks, refusal_in}
use Rattle.answers.specs.declared.Tally.{Tally}
use Rattle.moves.specs.Moves.{Held, carried, Outcome, outcome}
use Rattle.moves.specs.Phases.{phases}
use Rattle.factors.specs.Copies.{copy_list}
use Rattle.shuffle.specs.Shuffle.{settled_held}

-- the table and the cards after all phases
unfoldable pub gathered : List Rack → ℕ → Held → Held
gathered racks b h = carried b (join (phases racks h.places)) h

-- the plan has pairs
unfoldable pub has_pairs : List Pair → Bool
has_pairs pairs = ltb 0 (length pairs)

-- phases counts the plans that had pairs, moves the pairs carried, copies the shuffle's
unfoldable pub counts : List Rack → ℕ → Held → Tally
counts racks b h =
    record {
      phases = matching has_pairs (phases racks h.places);
      moves = length (join (phases racks h.places));
      copies = length (copy_list (gathered racks b h).places);
    }

-- **Whole run.** Phases until nothing is away, then the shuffle
unfoldable pub ran : List Rack → ℕ → Held → Outcome
ran racks b h =
    outcome (refusal_in racks h.places (first (card_checks racks b h.places h.cards))) (counts racks b h)
    (settled_held racks b (gathered racks b h)) h

-- the contract of `whole_run`: what it gives, and the table and the cards at exit
abbrev pub WholeRun : List ℕ → ℕ → Held → Outcome → Type 0
WholeRun caps b h r = r ≡ ran (of_caps caps) b h
