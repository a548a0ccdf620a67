use mathlib.Core.Path.{refl, ap}
use lib.ListN.{set}
use Prim.Native.Nat.{ℕ, ◌+◌}
use lib.Dec.{eqb}
use Rattle.counting.proofs.Tests.{bit-code}
use Rattle.shuffler.proofs.parts.settle_slot.Goals as goal

pub returns : goal.returns
returns c =
    record { entry = ap (set c.args.places.now c.args.d) c.entry_by.ensures; slot = refl; count-is = ap (λ (m : ℕ). c.args.n + m) (bit-code (eqb c.args.source 65535)) }
