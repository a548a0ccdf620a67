use mathlib.Core.Path.{◌≡◌}
use Rattle.carrying.specs.parts.Carrying.{unflat}
use Rattle.owed.specs.parts.Kept.{paid}
use Rattle.owed.proofs.Paying.{Paying}
use Rattle.owed.proofs.parts.pay_moves.Given as goal

abbrev pub invariant-loop-pair : goal.invariant-loop-pair
invariant-loop-pair l =
    let left = l.pair-iterator in
    let ms = unflat left.rest.now in
    (left.size ≡ 2) × Paying ms l.racking l.owes (paid l.racking (unflat l.pairs) l.initial.owes) × Paying ms l.racking l.awaits (paid l.racking (unflat l.pairs) l.initial.awaits)
