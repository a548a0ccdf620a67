use native.Mathlib.Omega.{arith}
use mathlib.Core.Path.{◌≡◌, ◌∙◌}
use Prim.Native.Nat.{◌+◌, ◌≤◌, ◌<◌}
use Rattle.racks.specs.Job.{racks_of}
use Rattle.racks.proofs.Jobs.{sound-racks}
use Rattle.racks.proofs.Passing.{at_first, at_bounds, at_next}
use Rattle.shares.specs.parts.Shares.{share_of}
use Rattle.shares.proofs.Shares.{start-more, sharing-none, sharing-more, sharing-all, target_in, share-at, shares-small}
use Rattle.shares.proofs.parts.targets.share_out.Goals as goal
use Rattle.shares.proofs.parts.targets.share_out.Goals.{After-count_target-pairs, In-loop-p}

pub loop-p-init : goal.loop-p-init
loop-p-init c = (at_first _, sharing-none _ _ _ _ c.requires.2 c.requires.3)

-- there is one more rack
rack : (c : In-loop-p) → c.loop-p.p < 64
rack c = (at_bounds c.requires.0 c.loop-p.invariant.0 (omega arith)).rack

-- and the pairs up to it are no more than slots
small : (c : In-loop-p) → c.loop-p.pairs + share_of (racks_of c.args.job) c.args.places.now c.loop-p.p ≤ 4096
small c =
    let l = c.loop-p in
    omega (
      arith,
      l.invariant.1.pairs-are,
      start-more (racks_of c.args.job) c.args.places.now l.p,
      shares-small _ c.requires.0 _ c.requires.1 l.p l.low l.invariant.0 (omega arith),
    )

pub offset_bounds-job-p : goal.offset_bounds-job-p
offset_bounds-job-p c = omega (arith, rack c)

pub bounds-job-p : goal.bounds-job-p
bounds-job-p c = rack c

pub overflow_cast-nexts : goal.overflow_cast-nexts
overflow_cast-nexts c = omega (arith, small (goal.at.overflow_cast-nexts c).In-loop-p)

pub offset_bounds-nexts-p : goal.offset_bounds-nexts-p
offset_bounds-nexts-p c = omega (arith, rack (goal.at.offset_bounds-nexts-p c).In-loop-p)

pub bounds-nexts-p : goal.bounds-nexts-p
bounds-nexts-p c = rack (goal.at.bounds-nexts-p c).In-loop-p

pub count_target-pairs-requires : goal.count_target-pairs-requires
count_target-pairs-requires c = target_in _ c.requires.0 _ c.requires.1 _ _ c.loop-p.invariant.0 (omega arith)

-- what is counted is the target's share
counted : (c : After-count_target-pairs)
    → c.count_target-pairs.result ≡ share_of (racks_of c.args.job) c.args.places.now c.loop-p.p
counted c =
    let l = c.loop-p in
    c.count_target-pairs.ensures ∙ share-at _ c.requires.0 _ c.requires.1 l.p l.low l.invariant.0 (omega arith)

pub overflow_add-pairs : goal.overflow_add-pairs
overflow_add-pairs c = omega (arith, counted c, small (goal.at.overflow_add-pairs c).In-loop-p)

pub overflow_cast-stops : goal.overflow_cast-stops
overflow_cast-stops c = omega (arith, counted c, small (goal.at.overflow_cast-stops c).In-loop-p)

pub offset_bounds-stops-p : goal.offset_bounds-stops-p
offset_bounds-stops-p c = omega (arith, rack (goal.at.offset_bounds-stops-p c).In-loop-p)

pub bounds-stops-p : goal.bounds-stops-p
bounds-stops-p c = rack (goal.at.bounds-stops-p c).In-loop-p

pub loop-p-preserved : goal.loop-p-preserved
loop-p-preserved c =
    let l = c.loop-p in
    (at_next c.requires.0 l.invariant.0 (omega arith), sharing-more _ _ l.invariant.1 _ (counted (goal.at.loop-p-preserved c).After-count_target-pairs) (rack (goal.at.loop-p-preserved c).In-loop-p))

pub returns : goal.returns
returns c =
    let l = c.loop-p in
    sharing-all _ _ l.invariant.1 (omega (arith, l.invariant.0.passed, sound-racks _ c.requires.0))
