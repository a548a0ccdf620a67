use Prim.Native.Nat.{◌≤◌, ◌<◌}
use Rattle.entries.specs.parts.Marks.{FilledFrom}
use Rattle.entries.proofs.parts.fill.Given as goal

abbrev pub invariant-loop-g : goal.invariant-loop-g
invariant-loop-g l = (l.low ≤ l.g) × (l.low < l.g → l.g ≤ l.high) × FilledFrom l.low l.g l.value l.initial.list l.list
