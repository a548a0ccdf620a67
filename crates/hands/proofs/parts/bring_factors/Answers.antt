use Rattle.hands.proofs.Copying.{bringing-start, bringing-room, bringing-more, bringing-end}
use mathlib.Core.Path.{◌∙◌}
use native.Mathlib.Omega.{arith}
use Rattle.hands.proofs.parts.bring_factors.Goals as goal

pub loop-k-init : goal.loop-k-init
loop-k-init c = bringing-start _ _ _ _ _ _ c.requires.5

pub bring_slot-sum-requires : goal.bring_slot-sum-requires
bring_slot-sum-requires c =
    let l = c.loop-k in (
      c.requires.0,
      c.requires.1,
      omega arith,
      l.invariant.adding.progress.marks.long ∙ c.requires.2.long,
      bringing-room _ _ l.k _ _ _ _ _ _ _ _ l.invariant c.requires.0 c.requires.2 (omega arith) c.requires.6,
      c.requires.3,
      l.invariant.size ∙ c.requires.4,
      l.invariant.brings.long,
    )

pub loop-k-preserved : goal.loop-k-preserved
loop-k-preserved c =
    let l = c.loop-k in
    bringing-more _ _ l.k _ _ _ _ _ _ _ _ l.invariant c.requires.0 c.requires.2 (omega arith) _ _ _ _ c.bring_slot-sum.ensures

pub returns : goal.returns
returns c = bringing-end _ _ c.loop-k.k _ _ _ _ _ _ _ _ c.loop-k.invariant (omega arith)
