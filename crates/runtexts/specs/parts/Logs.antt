-- The phases of a run, as its log has them. Assumes nothing: these are definitions.
use Rattle.std.specs.Prelude.{List, ℕ, zero, suc, ◌+◌, ◌*◌, ◌≤◌, ◌<◌, length, get_or}
use Rattle.counting.specs.Lists.{Pair, tabulate}
use Rattle.racks.specs.Limits.{SLOTS}
use Rattle.carrying.specs.parts.Carrying.{pairs_in}
use Rattle.gathering.specs.parts.Gathered.{ENDS, LOG}

-- how many moves were made before phase j
unfoldable pub made_before : List ℕ → ℕ → ℕ
made_before log zero = 0
made_before log (suc j) = get_or log (ENDS + j) 0

-- the pairs of phase j
unfoldable pub phase_in : List ℕ → ℕ → List Pair
phase_in log j = pairs_in log (2 * made_before log j) (2 * made_before log (suc j))

-- the first n phases
unfoldable pub phases_in : ℕ → List ℕ → List (List Pair)
phases_in n log = tabulate n (phase_in log)

-- the first n phases can be read: none ends before it begins, and all their pairs stand before the ends
pub record Readable (n : ℕ) (log : List ℕ) : Type 0 where
  pub few : n ≤ SLOTS
  pub long : LOG ≤ length log
  pub rising : (j : ℕ) → j < n → made_before log j ≤ made_before log (suc j)
  pub within : (j : ℕ) → j < n → made_before log (suc j) ≤ SLOTS
