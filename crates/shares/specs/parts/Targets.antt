-- How many pairs a target gets, by the slots where it begins and ends: nothing is kept, each target looks at the entries again. Assumes
-- nothing: these are definitions.
use Rattle.std.specs.Prelude.{List, ℕ, ◌+◌, ◌-◌, ◌≤◌, min, length}
use Rattle.racks.specs.Limits.{SLOTS}
use Rattle.spans.specs.parts.Spans.{range_of, free_range, entries_in}

-- the rack from first up to end: how many cards of other racks are bound for it, of its sources below it and of those above it
unfoldable pub coming_to : List ℕ → ℕ → ℕ → ℕ
coming_to places first end = entries_in places (range_of first end) 0 first + entries_in places (range_of first end) end (length places - end)

-- how many pairs it gets: the smaller of these and its free slots
unfoldable pub share_to : List ℕ → ℕ → ℕ → ℕ
share_to places first end = min (coming_to places first end) (entries_in places free_range first (end - first))

-- a rack from first up to end, in a table of no more slots than there may be
pub record TargetIn (places : List ℕ) (first end : ℕ) : Type 0 where
  pub up : first ≤ end
  pub within : end ≤ length places
  pub small : length places ≤ SLOTS
