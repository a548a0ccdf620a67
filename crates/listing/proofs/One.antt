-- The contract of this layer's call allows one outcome. Assumes nothing.
use mathlib.Core.List.{List}
use Prim.Native.Nat.{ℕ}
use Rattle.counting.specs.One.{One}
use Rattle.counting.proofs.One.{one-is}
use Rattle.answers.specs.Answers.{SizeAnswer}
use Rattle.answers.proofs.One.{sized-one}
use Rattle.listing.specs.Listing.{ListJob}

pub list_job-one : (file lent : List ℕ) → One (λ ((r, lent') : SizeAnswer × List ℕ). ListJob file lent r lent')
list_job-one file lent = sized-one (one-is _)
