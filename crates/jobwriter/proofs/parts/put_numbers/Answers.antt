use native.Mathlib.Omega.{arith}
use mathlib.Core.Path.{◌≡◌}
use lib.ListN.{get_or}
use Rattle.jobwriter.proofs.Puts.{none-put, put-room, put-more, all-put}
use Rattle.jobwriter.proofs.parts.put_numbers.Goals as goal

pub loop-i-init : goal.loop-i-init
loop-i-init g c = λ xs e. none-put xs _ _

pub number-requires : goal.number-requires
number-requires g c = c.requires.1.called c.loop-i.i (omega arith)

pub put_number-next-requires : goal.put_number-next-requires
put_number-next-requires g c =
    let l = c.loop-i in
    let r = c.requires in
    let e : c.number.result ≡ get_or r.0 l.i 0 = r.1.given l.i _ (omega arith) c.number.ensures in
    (omega (arith, e, r.1.short l.i (omega (arith, r.1.as_many))), put-room r.0 l.i (omega (arith, r.1.as_many)) r.1.short r.2 (l.invariant r.0 r.1))

pub loop-i-preserved : goal.loop-i-preserved
loop-i-preserved g c = λ xs e.
    put-more xs c.loop-i.i (omega (arith, e.as_many)) _ (e.given c.loop-i.i _ (omega arith) c.number.ensures) (c.loop-i.invariant xs e) c.put_number-next.ensures

pub returns : goal.returns
returns g c = λ xs e. all-put xs c.loop-i.i (omega (arith, e.as_many)) (c.loop-i.invariant xs e)
