use Prim.Native.Nat.{◌-◌, ◌^◌, ◌<◌}
use Rattle.pairing.proofs.Planning.{Reached}
use Rattle.pairing.proofs.parts.plan_phase.Given as goal

abbrev pub invariant-loop-p : goal.invariant-loop-p
invariant-loop-p l = (l.waiting < 2 ^ 64) × Reached l.p l.ends l.initial.line l.bits l.initial.log l.at l.line l.log l.count l.waiting l.left

abbrev pub decreases-loop-p : goal.decreases-loop-p
decreases-loop-p l = 64 - l.p
