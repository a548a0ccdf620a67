use native.Mathlib.Omega.{arith}
use mathlib.Core.Path.{refl, ◌∙◌}
use Rattle.racks.proofs.Passing.{Bounds, at_first, at_bounds, at_next, at-behind}
use Rattle.entries.proofs.Fills.{marked-none, marked_more, marked_all}
use Rattle.entries.proofs.parts.mark_users.Goals as goal
use Rattle.entries.proofs.parts.mark_users.Goals.{In-loop-p}

-- the next rack
next : (c : In-loop-p) → Bounds c.args.job c.loop-p.p c.loop-p.low
next c = let l = c.loop-p in at_bounds c.requires.0 l.invariant.0 (omega arith)

pub loop-p-init : goal.loop-p-init
loop-p-init c = (at_first _, refl, marked-none _ _ c.requires.1)

pub offset_bounds-job-p : goal.offset_bounds-job-p
offset_bounds-job-p c = omega (arith, (next c).rack)

pub bounds-job-p : goal.bounds-job-p
bounds-job-p c = (next c).rack

pub overflow_cast-spare : goal.overflow_cast-spare
overflow_cast-spare c = let n = next (goal.at.overflow_cast-spare c).In-loop-p in omega (arith, n.user-up, n.small)

pub fill-requires : goal.fill-requires
fill-requires c =
    let n = next (goal.at.fill-requires c).In-loop-p in
    omega (arith, n.user-up, n.small, c.loop-p.invariant.1, c.requires.1.long)

pub offset_bounds-job-p-in-loop-p : goal.offset_bounds-job-p-in-loop-p
offset_bounds-job-p-in-loop-p c = omega (arith, (next (goal.at.offset_bounds-job-p-in-loop-p c).In-loop-p).rack)

pub bounds-job-p-in-loop-p : goal.bounds-job-p-in-loop-p
bounds-job-p-in-loop-p c = (next (goal.at.bounds-job-p-in-loop-p c).In-loop-p).rack

pub overflow_cast-low : goal.overflow_cast-low
overflow_cast-low c = omega (arith, (next (goal.at.overflow_cast-low c).In-loop-p).small)

pub loop-p-preserved : goal.loop-p-preserved
loop-p-preserved c =
    let n = next (goal.at.loop-p-preserved c).In-loop-p in
    let i = c.loop-p.invariant in
    let f = c.fill.ensures in
    (at_next c.requires.0 i.0 (omega arith), f.long ∙ i.1, marked_more _ c.requires.0.small c.loop-p.p c.loop-p.low _ n.one i.0.low-is n.ends _ _ _ n.spares i.2 f)

pub returns : goal.returns
returns c =
    let l = c.loop-p in
    marked_all _ _ l.low (at-behind c.requires.0 l.invariant.0 (omega (arith, l.invariant.0.passed))) (omega (arith, l.invariant.1, c.requires.1.long)) l.invariant.2
