use native.Mathlib.Omega.{arith}
use mathlib.Core.Path.{◌∙◌}
use Rattle.spans.specs.parts.Spans.{RangeFits}
use Rattle.shares.specs.parts.Targets.{coming_to, share_to}
use Rattle.spans.proofs.Found.{rack-fits, free-fits, found-few}
use Rattle.shares.proofs.parts.targets.count_target.Goals as goal
use Rattle.shares.proofs.parts.targets.count_target.Goals.{After-of-range}

-- the rack's slots are a range that fits
fits : (c : After-of-range) → RangeFits c.of-range.result
fits c = rack-fits _ _ _ c.of-range.ensures c.requires.up (omega (arith, c.requires.within, c.requires.small))

pub count_in-below-requires : goal.count_in-below-requires
count_in-below-requires c = (omega (arith, c.requires.up, c.requires.within), fits c)

pub count_in-above-requires : goal.count_in-above-requires
count_in-above-requires c = (omega (arith, c.requires.within), fits (goal.at.count_in-above-requires c).After-of-range)

pub count_in-free-requires : goal.count_in-free-requires
count_in-free-requires c = (omega (arith, c.requires.up, c.requires.within), free-fits _ c.free.ensures)

pub overflow_add-below : goal.overflow_add-below
overflow_add-below c =
    omega (arith, c.requires.within, c.requires.small, found-few _ _ _ _ _ c.count_in-below.ensures, found-few _ _ _ _ _ c.count_in-above.ensures)

pub returns : goal.returns
unfolding share_to coming_to
returns c =
    let k = c.of-range.ensures in
    c.min.ensures
    ∙ rw (c.count_in-below.ensures, c.count_in-above.ensures, c.count_in-free.ensures, c.free.ensures, k)
