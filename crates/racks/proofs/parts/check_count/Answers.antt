use native.Mathlib.Omega.{arith}
use mathlib.Core.Path.{refl}
use Rattle.racks.specs.Racks.{of_caps}
use Rattle.racks.proofs.Caps.{length-caps, count-bad, count-many, count-good}
use Rattle.racks.proofs.parts.check_count.Goals as goal

pub returns-then-n-eq0 : goal.returns-then-n-eq0
returns-then-n-eq0 c = (count-bad (of_caps c.args.caps.now) (omega (arith, length-caps c.args.caps.now, c.if-n-eq0.true)), refl)

pub returns-then-n-gt-MAX_RACKS : goal.returns-then-n-gt-MAX_RACKS
returns-then-n-gt-MAX_RACKS c = (count-many (of_caps c.args.caps.now) (omega (arith, length-caps c.args.caps.now)), refl)

pub returns : goal.returns
returns c =
    let e = length-caps c.args.caps.now in
    count-good (of_caps c.args.caps.now) (λ z. c.if-n-eq0.false (omega (arith, e, z))) (omega (arith, e))
