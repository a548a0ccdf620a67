use mathlib.Core.Path.{sym}
use native.Mathlib.Omega.{arith}
use Rattle.texts.proofs.Digits.{digit_low, digit-high}
use Rattle.texts.proofs.parts.words.digit_of.Goals as goal

pub returns-then-d-lt10 : goal.returns-then-d-lt10
returns-then-d-lt10 c = sym (digit_low _ (omega arith))

pub returns : goal.returns
returns c = sym (digit-high _ (omega arith))
