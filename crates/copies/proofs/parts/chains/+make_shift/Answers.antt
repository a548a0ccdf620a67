use Rattle.std.proofs.Common.{arith, rules}
use mathlib.Core.Path.{refl}
use Rattle.factors.proofs.Walked.{inside-here, inside-next}
use Rattle.copies.proofs.Tallied.{plus-count}
use Rattle.copies.proofs.Making.{made_none, made-more}
use Rattle.copies.proofs.parts.chains.+make_shift.Goals as goal

pub returns-then-left-eq0-clause-copies : goal.returns-then-left-eq0-clause-copies
returns-then-left-eq0-clause-copies g t c = made_none _ _ _ _ _ _ c.if-left-eq0.true

pub offset_bounds-places-x : goal.offset_bounds-places-x
offset_bounds-places-x g t c = omega (arith, inside-here _ _ _ c.requires.0, c.requires.1)

pub bounds-places-x : goal.bounds-places-x
bounds-places-x g t c = inside-here _ _ _ c.requires.0

pub make_shift-made-requires : goal.make_shift-made-requires
make_shift-made-requires g t c κs within =
    let p = c.requires in
    (omega arith, (search rules, (search rules, (inside-next _ _ _ _ p.0 refl (omega arith), p.1, omega arith, g.met.T.Target.fewer _ _ _ _ _ (omega arith) p.3))))

pub copy-requires : goal.copy-requires
copy-requires g t c =
    let p = c.requires in
    let n = plus-count _ _ _ c.make_shift-made.ensures.counts in
    (_, rw c.make_shift-made.auto.list (g.met.T.Target.fewer _ _ _ _ _ (omega (arith, n)) p.3), inside-here _ _ _ p.0, inside-here _ _ _ (inside-next _ _ _ _ p.0 refl (omega arith)), p.1, omega (arith, n))

pub returns-clause-copies : goal.returns-clause-copies
returns-clause-copies g t c =
    let w = c.make_shift-made.ensures in
    made-more _ _ _ _ _ _ _ _ _ _ c.requires.0 refl (omega arith) (plus-count _ _ _ w.counts) w.copies c.copy.ensures
