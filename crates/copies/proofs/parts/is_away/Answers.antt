use native.Mathlib.Omega.{arith}
use Rattle.factors.proofs.Sourced.{named-low}
use Rattle.tables.proofs.Targets.{named-read, at-away}
use Rattle.copies.proofs.parts.is_away.Goals as goal

pub bounds-racking-to : goal.bounds-racking-to
bounds-racking-to c =
    let n = named-read c.args.places.now c.args.g _ c.requires.1 c.named_slot-to.ensures in
    omega (arith, n, named-low c.requires.0 c.args.g c.requires.1, c.requires.0.small)

pub returns : goal.returns
returns c = at-away _ _ _ _ (named-read c.args.places.now c.args.g _ c.requires.1 c.named_slot-to.ensures)
