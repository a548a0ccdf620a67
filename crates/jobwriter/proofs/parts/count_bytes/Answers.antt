use native.Mathlib.Omega.{arith}
use mathlib.Core.Path.{◌∙◌}
use Rattle.counting.proofs.Tests.{bit_le}
use Prim.Native.Nat.{◌≤◌}
use Rattle.jobwriter.proofs.Puts.{none-size, size-more, all-size}
use Rattle.counting.proofs.Tests.{bit-code}
use Rattle.jobwriter.proofs.parts.count_bytes.Goals as goal
use Rattle.jobwriter.proofs.parts.count_bytes.Goals.{After-from-more}

pub loop-i-init : goal.loop-i-init
loop-i-init g c = (omega arith, λ xs e. none-size xs)

pub number-requires : goal.number-requires
number-requires g c = c.requires.1.called c.loop-i.i (omega arith)

-- a second group, or none
one : (g : _) → (c : After-from-more g) → c.from-more.result ≤ 1
one g c = bit_le _ _ (c.from-more.ensures ∙ bit-code _)

pub overflow_add-more : goal.overflow_add-more
overflow_add-more g c = omega (arith, one g c, c.loop-i.invariant.0, c.requires.2)

pub loop-i-preserved : goal.loop-i-preserved
loop-i-preserved g c =
    let l = c.loop-i in (
      omega (arith, one g c, l.invariant.0),
      λ xs e. size-more xs l.i (omega (arith, e.as_many)) _ (e.given l.i _ (omega arith) c.number.ensures) _ _ e.short (l.invariant.1 xs e) (c.from-more.ensures ∙ bit-code _),
    )

pub overflow_add-result : goal.overflow_add-result
overflow_add-result g c = omega (arith, c.loop-i.invariant.0, c.requires.2)

pub returns : goal.returns
returns g c = λ xs e. all-size xs c.loop-i.i (omega (arith, e.as_many)) _ (omega (arith, c.loop-i.invariant.1 xs e))
