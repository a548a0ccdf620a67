use native.Mathlib.Omega.{arith}
use Rattle.spans.specs.parts.Spans.{RangeFits}
use Rattle.spans.proofs.Found.{rack-fits, free-fits}
use Rattle.planner.proofs.Targets.{pairs-counted}
use Rattle.planner.proofs.parts.targets.count_target.Goals as goal
use Rattle.planner.proofs.parts.targets.count_target.Goals.{After-of-range}

-- the rack's slots are a range that fits
fits : (c : After-of-range) → RangeFits c.of-range.result
fits c = rack-fits _ _ _ c.of-range.ensures c.requires.up (omega (arith, c.requires.within, c.requires.small))

pub look-free-requires : goal.look-free-requires
look-free-requires c = (omega (arith, c.requires.up, c.requires.within), free-fits _ c.free.ensures)

pub look-below-requires : goal.look-below-requires
look-below-requires c = (omega (arith, c.requires.up, c.requires.within), fits (goal.at.look-below-requires c).After-of-range)

pub look-above-requires : goal.look-above-requires
look-above-requires c = (omega (arith, c.requires.within), fits (goal.at.look-above-requires c).After-of-range)

pub returns : goal.returns
returns c =
    pairs-counted _ _ _ _ _ c.of-range.ensures c.free.ensures _ _ _ c.look-free.ensures c.look-below.ensures c.look-above.ensures _ c.min.ensures
