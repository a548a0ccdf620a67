use native.Mathlib.Omega.{arith}
use mathlib.Core.Path.{◌≡◌, refl, ap, ◌∙◌}
use Prim.Native.Nat.{◌≤◌, ◌<◌}
use lib.ListN.{length, length-set}
use Rattle.counting.specs.Tests.{bit}
use Rattle.counting.proofs.Tests.{bit_le}
use Rattle.spans.specs.parts.Spans.{entry_in}
use Rattle.spans.proofs.Spans.{lies-read, putting_in, putting-more, putting-done}
use Rattle.counting.proofs.Tests.{bit-code}
use Rattle.spans.proofs.parts.put_hits.Goals as goal
use Rattle.spans.proofs.parts.put_hits.Goals.{After-from-next, In-loop-next}

pub loop-next-init : goal.loop-next-init
loop-next-init c = (refl, record { up = omega arith; within = omega arith; enough = omega arith; same = refl })

-- a pair is left, so is a slot
inside : (c : In-loop-next) → c.loop-next.g < length c.args.places.now
inside c = putting_in _ _ _ _ _ _ _ _ c.loop-next.invariant.1 (omega arith)

pub overflow_cast-lent : goal.overflow_cast-lent
overflow_cast-lent c = omega (arith, inside c)

pub bounds-lent-next : goal.bounds-lent-next
bounds-lent-next c = omega (arith, c.loop-next.invariant.0)

pub offset_bounds-places-g : goal.offset_bounds-places-g
offset_bounds-places-g c = omega (arith, inside c)

pub bounds-places-g : goal.bounds-places-g
bounds-places-g c = inside (goal.at.bounds-places-g c).In-loop-next

pub lies-requires : goal.lies-requires
lies-requires c = c.requires.low_in_bounds.2

-- what is added: whether the entry lies in the range
adds : (c : After-from-next) → c.from-next.result ≡ bit (entry_in c.args.places.now c.args.range c.loop-next.g)
adds c = c.from-next.ensures ∙ bit-code _ ∙ ap bit (c.lies.ensures ∙ lies-read _ _ _ (putting_in _ _ _ _ _ _ _ _ c.loop-next.invariant.1 (omega arith)))

-- which is 0 or 1
one : (c : After-from-next) → c.from-next.result ≤ 1
one c = bit_le _ (entry_in c.args.places.now c.args.range c.loop-next.g) (adds c)

pub overflow_add-next : goal.overflow_add-next
overflow_add-next c = omega (arith, one c)

pub overflow_add-g : goal.overflow_add-g
overflow_add-g c = omega (arith, inside (goal.at.overflow_add-g c).In-loop-next)

pub loop-next-smaller : goal.loop-next-smaller
loop-next-smaller c = omega (arith, inside (goal.at.loop-next-smaller c).In-loop-next)

pub loop-next-preserved : goal.loop-next-preserved
loop-next-preserved c =
    let l = c.loop-next in
    (length-set l.lent _ _ ∙ l.invariant.0, rw (adds c) (putting-more _ _ _ _ _ _ _ _ l.invariant.1 (omega arith)))

pub returns : goal.returns
returns c = putting-done _ _ _ _ _ _ _ _ c.loop-next.invariant.1 (omega arith)
