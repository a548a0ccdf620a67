use mathlib.Core.Path.{sym}
use native.Mathlib.Omega.{arith}
use Rattle.counting.proofs.Some.{some-zero}
use Rattle.copies.proofs.AwayBy.{some_next, some-whole}
use Rattle.copies.proofs.parts.some_away.Goals as goal

pub loop-g-init : goal.loop-g-init
loop-g-init c = sym (some-zero _)

pub is_away-found-requires : goal.is_away-found-requires
is_away-found-requires c = (c.requires, omega arith)

pub loop-g-preserved : goal.loop-g-preserved
loop-g-preserved c = some_next _ _ c.loop-g.g _ _ c.loop-g.invariant c.is_away-found.ensures

pub returns : goal.returns
returns c = some-whole _ _ c.loop-g.g _ (omega arith) c.loop-g.invariant
