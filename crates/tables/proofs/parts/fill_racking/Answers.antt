use native.Mathlib.Omega.{arith}
use mathlib.Core.Path.{◌∙◌}
use Rattle.racks.proofs.Passing.{Bounds, at_first, at_bounds, at_next, at-behind}
use Rattle.tables.proofs.Fills.{filled_more}
use Rattle.tables.proofs.parts.fill_racking.Goals as goal
use Rattle.tables.proofs.parts.fill_racking.Goals.{In-loop-p}

-- the next rack
next : (c : In-loop-p) → Bounds c.args.job c.loop-p.p c.loop-p.low
next c = let l = c.loop-p in at_bounds c.requires.0 l.invariant.0 (omega arith)

pub loop-p-init : goal.loop-p-init
loop-p-init c = (at_first _, c.requires.1, λ g l. absurd (omega arith))

pub offset_bounds-job-p : goal.offset_bounds-job-p
offset_bounds-job-p c = omega (arith, (next c).rack)

pub bounds-job-p : goal.bounds-job-p
bounds-job-p c = (next c).rack

pub overflow_cast-end : goal.overflow_cast-end
overflow_cast-end c = omega (arith, (next (goal.at.overflow_cast-end c).In-loop-p).small)

pub overflow_cast-p : goal.overflow_cast-p
overflow_cast-p c = omega (arith, (next (goal.at.overflow_cast-p c).In-loop-p).rack)

pub fill-requires : goal.fill-requires
fill-requires c = omega (arith, (next (goal.at.fill-requires c).In-loop-p).small, c.loop-p.invariant.1)

pub loop-p-preserved : goal.loop-p-preserved
loop-p-preserved c =
    let n = next (goal.at.loop-p-preserved c).In-loop-p in
    let i = c.loop-p.invariant in
    (at_next c.requires.0 i.0 (omega arith), c.fill.ensures.long ∙ i.1, filled_more _ c.requires.0.small c.loop-p.p c.loop-p.low _ n.one i.0.low-is n.ends _ _ i.2 c.fill.ensures)

pub returns : goal.returns
returns c =
    let l = c.loop-p in
    let e = at-behind c.requires.0 l.invariant.0 (omega (arith, l.invariant.0.passed)) in
    record { filled = λ g h. l.invariant.2 g (omega (arith, e)); long = l.invariant.1 }
