use mathlib.Core.Path.{◌≡◌}
use Prim.Native.Nat.{◌*◌}
use lib.ListN.{length}
use Rattle.runtexts.specs.parts.Logs.{made_before}
use Rattle.runtexts.proofs.Phasing.{Lines}
use Rattle.runtexts.proofs.parts.phasing.put_phases.Given as goal

abbrev pub invariant-loop-j : goal.invariant-loop-j
invariant-loop-j l = (length l.out ≡ length l.initial.out) × (l.low ≡ 2 * made_before l.log l.j) × Lines l.n l.log l.j l.out l.next l.initial.out
