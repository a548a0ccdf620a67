-- The contract of this layer's call allows one outcome. Assumes nothing.
use mathlib.Core.List.{List}
use Prim.Native.Nat.{ℕ}
use Rattle.counting.specs.One.{One}
use Rattle.counting.proofs.One.{one-is}
use Rattle.answers.specs.Answers.{SizeAnswer}
use Rattle.answers.proofs.One.{sized-one}
use Rattle.jobwriter.specs.Writing.{WriteFile}

pub write-file-one : (caps : List ℕ) (b : ℕ) (places cards lent : List ℕ) → One (λ ((r, lent') : SizeAnswer × List ℕ). WriteFile caps b places cards lent r lent')
write-file-one caps b places cards lent = sized-one (one-is _)
