use Rattle.shuffler.proofs.Settling.{settled-none, settled-more, settled-all}
use mathlib.Core.Path.{refl, ◌∙◌}
use native.Mathlib.Omega.{arith}
use Rattle.shuffler.proofs.parts.settle_table.Goals as goal

pub loop-d-init : goal.loop-d-init
loop-d-init c = (refl, settled-none _ _ c.requires.1)

pub offset_bounds-sources-d : goal.offset_bounds-sources-d
offset_bounds-sources-d c = omega (arith, c.requires.0.small, c.loop-d.invariant.1.size)

pub bounds-sources-d : goal.bounds-sources-d
bounds-sources-d c = omega (arith, c.requires.0.small, c.loop-d.invariant.1.size, c.loop-d.invariant.1.listed.long)

pub settle_slot-n-requires : goal.settle_slot-n-requires
settle_slot-n-requires c =
    let i = c.loop-d.invariant.1 in
    (omega (arith, i.size), omega (arith, c.requires.0.small, i.size), i.listed.few, i.listed.long)

pub loop-d-preserved : goal.loop-d-preserved
loop-d-preserved c =
    let i = c.loop-d.invariant in
    let w = c.settle_slot-n in
    (w.auto.frees ∙ i.0, settled-more c.requires.0 c.loop-d.d (omega (arith, i.1.size)) c.loop-d.n c.loop-d.places c.loop-d.sources i.1 _ refl _ _ _ w.ensures)

pub returns : goal.returns
returns c = let l = c.loop-d in settled-all _ l.d _ _ l.n (omega (arith, l.invariant.1.size)) l.invariant.1
