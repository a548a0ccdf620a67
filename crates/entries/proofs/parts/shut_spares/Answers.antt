use native.Mathlib.Omega.{arith}
use mathlib.Core.Path.{◌≡◌, ◌∙◌}
use Rattle.racks.specs.Racks.{slots}
use Rattle.racks.specs.Job.{racks_of}
use Rattle.racks.proofs.Passing.{Bounds, at_first, at_bounds, at_next, at-behind}
use Rattle.entries.proofs.Once.{open_more, open-all}
use Rattle.entries.proofs.parts.shut_spares.Goals as goal
use Rattle.entries.proofs.parts.shut_spares.Goals.{After-loop-p, In-loop-p}

-- the next rack
next : (c : In-loop-p) → Bounds c.args.job c.loop-p.p c.loop-p.low
next c = let l = c.loop-p in at_bounds c.requires.0 l.invariant.0 (omega arith)

pub loop-p-init : goal.loop-p-init
loop-p-init c = (at_first _, c.requires.1, λ v l. absurd (omega arith))

pub offset_bounds-job-p : goal.offset_bounds-job-p
offset_bounds-job-p c = omega (arith, (next c).rack)

pub bounds-job-p : goal.bounds-job-p
bounds-job-p c = (next c).rack

pub overflow_cast-from : goal.overflow_cast-from
overflow_cast-from c = let n = next (goal.at.overflow_cast-from c).In-loop-p in omega (arith, n.user-up, n.small)

pub offset_bounds-job-p-in-loop-p : goal.offset_bounds-job-p-in-loop-p
offset_bounds-job-p-in-loop-p c = omega (arith, (next (goal.at.offset_bounds-job-p-in-loop-p c).In-loop-p).rack)

pub bounds-job-p-in-loop-p : goal.bounds-job-p-in-loop-p
bounds-job-p-in-loop-p c = (next (goal.at.bounds-job-p-in-loop-p c).In-loop-p).rack

pub overflow_cast-low : goal.overflow_cast-low
overflow_cast-low c = omega (arith, (next (goal.at.overflow_cast-low c).In-loop-p).small)

pub fill-requires : goal.fill-requires
fill-requires c = omega (arith, (next (goal.at.fill-requires c).In-loop-p).small, c.loop-p.invariant.1)

pub loop-p-preserved : goal.loop-p-preserved
loop-p-preserved c =
    let n = next (goal.at.loop-p-preserved c).In-loop-p in
    let i = c.loop-p.invariant in
    (at_next c.requires.0 i.0 (omega arith), c.fill.ensures.long ∙ i.1, open_more _ c.requires.0.small c.loop-p.p c.loop-p.low _ n.one i.0.low-is n.ends _ _ _ n.spares i.2 c.fill.ensures)

-- behind the last rack
behind : (c : After-loop-p) → c.loop-p.low ≡ slots (racks_of c.args.job)
behind c = let l = c.loop-p in at-behind c.requires.0 l.invariant.0 (omega (arith, l.invariant.0.passed))

pub bounds-marks-low : goal.bounds-marks-low
bounds-marks-low c = omega (arith, behind (goal.at.bounds-marks-low c).After-loop-p, c.requires.0.small)

pub returns : goal.returns
returns c =
    let l = c.loop-p in
    open-all (racks_of c.args.job) l.low l.marks (behind (goal.at.returns c).After-loop-p) (omega (arith, behind (goal.at.returns c).After-loop-p, c.requires.0.small)) l.invariant.1 l.invariant.2
