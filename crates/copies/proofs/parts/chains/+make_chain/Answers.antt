use Rattle.std.proofs.Common.{arith, rules}
use Rattle.factors.specs.parts.Walks.{STRETCH}
use Rattle.factors.proofs.Stretches.{inside_near, inside_far}
use Rattle.copies.proofs.Tallied.{plus-count}
use Rattle.copies.proofs.Making.{made-both}
use Rattle.copies.proofs.parts.chains.+make_chain.Goals as goal

pub slot_after-far-requires : goal.slot_after-far-requires
slot_after-far-requires g t c = (inside_near _ _ _ _ c.requires.0 (omega arith), c.requires.1)

pub make_chain-made-requires : goal.make_chain-made-requires
make_chain-made-requires g t c κs within =
    let p = c.requires in
    (omega arith, (search rules, (search rules, (inside_far _ _ _ _ _ _ c.slot_after-far.ensures p.0 (omega arith), p.1, omega (arith, p.2), g.met.T.Target.fewer _ _ _ _ _ (omega arith) p.3))))

pub make_shift-requires-2 : goal.make_shift-requires-2
make_shift-requires-2 g t c =
    let p = c.requires in
    let n = plus-count _ _ _ c.make_chain-made.ensures.counts in
    (inside_near _ _ _ _ p.0 (omega arith), p.1, omega (arith, n, p.2), rw c.make_chain-made.auto.list (g.met.T.Target.fewer _ _ _ _ _ (omega (arith, n)) p.3))

pub returns-clause-copies : goal.returns-clause-copies
returns-clause-copies g t c =
    let w = c.make_chain-made.ensures in
    made-both _ _ _ _ _ _ _ _ STRETCH _ _ (omega arith) c.slot_after-far.ensures (plus-count _ _ _ w.counts) w.copies c.make_shift-2.ensures.copies
