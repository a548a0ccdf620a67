use mathlib.Core.Path.{◌≡◌}
use Rattle.counting.specs.Count.{some}
use Rattle.tables.specs.parts.Tables.{away_by}
use Rattle.copies.proofs.parts.some_away.Given as goal

abbrev pub invariant-loop-g : goal.invariant-loop-g
invariant-loop-g l = l.found ≡ some l.g (away_by l.racking l.places)
