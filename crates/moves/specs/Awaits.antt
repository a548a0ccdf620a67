-- "Whole run": what racks await. Assumes nothing: these are definitions.
use Rattle.std.specs.Prelude.{List, ℕ, ◌-◌}
use Rattle.counting.specs.Lists.{Pair, matching}
use Rattle.racks.specs.Racks.{Rack}
use Rattle.racks.specs.Table.{owes}
use Rattle.moves.specs.Moves.{between}

-- what rack p awaits from rack i: what i owed p at the start, less the moves made from i to p
unfoldable pub awaits : List Rack → List ℕ → List Pair → ℕ → ℕ → ℕ
awaits racks start made i p = owes racks start i p - matching (between racks i p) made
