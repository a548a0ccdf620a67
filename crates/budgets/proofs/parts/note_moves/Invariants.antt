use mathlib.Core.Path.{◌≡◌}
use Rattle.carrying.specs.parts.Carrying.{unflat}
use Rattle.budgets.specs.parts.Engine.{noted, noted_line}
use Rattle.budgets.proofs.PhaseRuns.{Noting}
use Rattle.budgets.proofs.parts.note_moves.Given as goal

abbrev pub invariant-loop-pair : goal.invariant-loop-pair
invariant-loop-pair l =
    let left = l.pair-iterator in
    (left.size ≡ 2) × Noting l.racking (unflat left.rest.now) l.line l.bits (noted_line l.racking (unflat l.pairs) l.initial.line) (noted (unflat l.pairs) l.initial.bits)
