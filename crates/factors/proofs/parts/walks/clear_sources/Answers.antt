use mathlib.Core.Path.{◌≡◌, refl, ◌∙◌}
use native.Mathlib.Omega.{arith}
use lib.ListN.{length-set}
use Rattle.factors.proofs.Sourced.{cleared-none, cleared_more}
use Rattle.factors.proofs.parts.walks.clear_sources.Goals as goal

pub loop-d-init : goal.loop-d-init
loop-d-init c = (cleared-none _ c.requires.1, refl)

pub loop-d-preserved : goal.loop-d-preserved
loop-d-preserved c =
    let l = c.loop-d in
    (cleared_more l.d l.sources (omega (arith, l.invariant.0.long)) l.invariant.0, length-set l.sources l.d 65535 ∙ l.invariant.1)

pub returns : goal.returns
returns c = let e : c.args.n ≡ c.loop-d.d = omega arith in rw e c.loop-d.invariant.0
