-- The pairs of a target by the slots where it begins and ends: no table, each target looks at the entries again. Assumes nothing: these are
-- definitions.
use Rattle.std.specs.Prelude.{◌≡◌, List, ◌++◌, ℕ, ◌+◌, ◌-◌, ◌*◌, ◌≤◌, ◌<◌, length}
use Rattle.std.proofs.lemmas.List.Edits.{sets}
use Rattle.counting.specs.Count.{select_from}
use Rattle.counting.specs.Lists.{Pair, pair_up, flat}
use Rattle.racks.specs.Limits.{SLOTS}
use Rattle.spans.specs.parts.Spans.{range_of, free_range, entry_in}

-- the rack from first up to end: the slots of the cards of other racks that are bound for it, its sources below it, then those above it
unfoldable pub coming_to : List ℕ → ℕ → ℕ → List ℕ
coming_to places first end =
    select_from 0 first (entry_in places (range_of first end)) ++ select_from end (length places - end) (entry_in places (range_of first end))

-- the free slots of the rack from first up to end
unfoldable pub opens_of : List ℕ → ℕ → ℕ → List ℕ
opens_of places first end = select_from first (end - first) (entry_in places free_range)

-- the pairs of the rack from first up to end
unfoldable pub pairs_to : List ℕ → ℕ → ℕ → List Pair
pairs_to places first end = pair_up (coming_to places first end) (opens_of places first end)

-- a rack from first up to end, of a table that fits
pub record TargetIn (places : List ℕ) (first end : ℕ) : Type 0 where
  pub up : first ≤ end
  pub within : end ≤ length places
  pub small : length places ≤ SLOTS

-- pairs put into the list from pair k on, and the next pair
pub record PairsPut (before : List ℕ) (k : ℕ) (pairs : List Pair) (next : ℕ) (after : List ℕ) : Type 0 where
  pub list : after ≡ sets before (2 * k) (flat pairs)
  pub next-is : next ≡ k + length pairs

-- most is no less than the pairs, no more than slots can be, and exactly as many as the pairs where a list of room numbers is too short for it
pub record Covers (pairs room most : ℕ) : Type 0 where
  pub covers : pairs ≤ most
  pub few : most ≤ SLOTS
  pub exact : room < 2 * most → most ≡ pairs
