-- The contract of this layer's call allows one outcome. Assumes nothing.
use mathlib.Core.List.{List}
use Prim.Native.Nat.{ℕ}
use Rattle.counting.specs.One.{One}
use Rattle.counting.proofs.One.{one-is}
use Rattle.tables.specs.Check.{CheckTable}

pub check-table-one : (caps places : List ℕ) → One (CheckTable caps places)
check-table-one caps places = one-is _
