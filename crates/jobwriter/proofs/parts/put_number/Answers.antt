use mathlib.Core.Path.{◌∙◌}
use Prim.Native.Nat.{◌≤◌}
use native.Mathlib.Omega.{arith}
use Rattle.counting.proofs.Tests.{bit_le}
use Rattle.jobwriter.proofs.Puts.{numeral-put}
use Rattle.counting.proofs.Tests.{bit-code}
use Rattle.jobwriter.proofs.parts.put_number.Goals as goal
use Rattle.jobwriter.proofs.parts.put_number.Goals.{After-from-more}

-- the top bit
one : (c : After-from-more) → c.from-more.result ≤ 1
one c = bit_le _ _ (c.from-more.ensures ∙ bit-code _)

pub overflow_mul-out : goal.overflow_mul-out
overflow_mul-out c = omega (arith, one c)

pub overflow_add-out : goal.overflow_add-out
overflow_add-out c = omega (arith, one c)

pub overflow_cast-out : goal.overflow_cast-out
overflow_cast-out c = omega (arith, one c)

pub returns : goal.returns
returns c = numeral-put _ _ _ _ c.requires.0 (c.from-more.ensures ∙ bit-code _)
