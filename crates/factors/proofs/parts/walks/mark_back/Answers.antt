use native.Mathlib.Omega.{arith}
use Rattle.factors.proofs.Sourced.{length-inverse, inverse-chained}
use Rattle.factors.proofs.Walking.{back-passed}
use mathlib.Core.Path.{sym}
use Rattle.factors.proofs.parts.walks.mark_back.Goals as goal

pub slice_bounds-mark_along-end : goal.slice_bounds-mark_along-end
slice_bounds-mark_along-end c = let p = c.requires in sym (length-inverse p.0 p.1)

pub mark_along-requires : goal.mark_along-requires
mark_along-requires c =
    let p = c.requires in
    (inverse-chained p.0 p.1, omega (arith, length-inverse p.0 p.1, p.2), p.3)

pub returns : goal.returns
returns c =
    let p = c.requires in
    back-passed p.0 p.1 _ _ p.2 _ _ _ _ _ c.mark_along.ensures
