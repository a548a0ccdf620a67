-- The contract of this layer's call allows one outcome. Assumes nothing.
use mathlib.Core.List.{List}
use Prim.Native.Nat.{ℕ}
use Rattle.counting.specs.One.{One}
use Rattle.counting.proofs.One.{one-is}
use Rattle.answers.specs.declared.Answer.{Answer}
use Rattle.answers.proofs.One.{listed-one}
use Rattle.plans.specs.Plan.{PhasePlan}

pub phase-plan-one : (caps places lent : List ℕ) → One (λ ((r, lent') : Answer × List ℕ). PhasePlan caps places lent r lent')
phase-plan-one caps places lent = listed-one (one-is _)
