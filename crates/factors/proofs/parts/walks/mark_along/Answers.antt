use mathlib.Core.Logic.{inl, inr}
use mathlib.Core.Path.{refl}
use native.Mathlib.Omega.{arith}
use Rattle.factors.proofs.Sourced.{entry-low}
use Rattle.factors.proofs.Walking.{marking_begin, marking-more, marking-stop, marking_never}
use Rattle.factors.proofs.parts.walks.mark_along.Goals as goal
use Rattle.factors.proofs.parts.walks.mark_along.Goals.{then-y-via-then-y, then-y-via-else-y+then-to-h}

pub loop-n-init : goal.loop-n-init
loop-n-init c = marking_begin c.requires.0 _ _ c.requires.1 _

pub offset_bounds-table-x : goal.offset_bounds-table-x
offset_bounds-table-x c = omega (arith, c.loop-n.invariant.here, c.requires.0.small)

pub bounds-table-x : goal.bounds-table-x
bounds-table-x c = c.loop-n.invariant.here

pub returns-then-y : goal.returns-then-y
returns-then-y c =
    let p = c.requires in
    marking-stop p.0 _ _ p.1 _ _ _ _ c.loop-n.invariant (elim c.then-y.branch [ then-y-via-then-y w ↦ inl w.if-y.true | then-y-via-else-y+then-to-h w ↦ inr w.if-to-h.true ])

pub bounds-seen-to : goal.bounds-seen-to
bounds-seen-to c =
    let ok = c.requires.0 in
    omega (arith, entry-low ok c.loop-n.x c.loop-n.invariant.here c.if-y.false, ok.small)

pub loop-n-preserved : goal.loop-n-preserved
loop-n-preserved c =
    let p = c.requires in
    marking-more p.0 _ _ p.1 _ _ _ _ c.loop-n.invariant _ (omega arith) refl c.if-y.false c.if-to-h.false p.2

pub returns : goal.returns
returns c =
    let p = c.requires in
    absurd (marking_never p.0 _ _ p.1 _ _ _ _ c.loop-n.invariant (omega arith))
