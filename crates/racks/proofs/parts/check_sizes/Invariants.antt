use Prim.Native.Nat.{ℕ, ◌*◌, ◌≤◌, ◌<◌}
use mathlib.Core.Path.{◌≡◌}
use Rattle.counting.specs.Count.{sum}
use Rattle.racks.specs.Racks.{of_caps, users}
use Rattle.racks.proofs.parts.check_sizes.Given as goal

abbrev pub invariant-loop-m : goal.invariant-loop-m
invariant-loop-m l = (l.total ≡ sum l.m-index (users (of_caps l.caps))) × (l.total ≤ 1023 * l.m-index) × ((k : ℕ) → k < l.m-index → users (of_caps l.caps) k ≤ 1023)
