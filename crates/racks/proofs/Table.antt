-- What code reads in a table, and what its entries say. Assumes nothing.
use mathlib.Core.Path.{◌≡◌, refl}
use mathlib.Core.Logic.{◌≢◌}
use mathlib.Core.List.{List, [], ◌∷◌}
use Prim.Native.Nat.{ℕ, zero, suc, ◌<◌}
use native.Mathlib.Omega.{arith}
use native.Mathlib.Decide.{dec_lt}
use lib.ListN.{length, get_or, get_or-eq_default}
use Rattle.racks.specs.Limits.{FREE}
use Rattle.racks.specs.Table.{dest}

-- what is read at a slot is where its card must end
pub read-dest : (places : List ℕ) (g : ℕ) → g < length places → get_or places g 0 ≡ dest places g
read-dest [] g h = absurd (omega arith)
read-dest (x ∷ places) zero h = refl
read-dest (x ∷ places) (suc g) h = read-dest places g (omega arith)

-- only slots have cards
pub dest-has : (places : List ℕ) (g : ℕ) → dest places g ≢ FREE → g < length places
dest-has places g h = elim (dec_lt g (length places)) [ yes l ↦ l | no l ↦ absurd (h (get_or-eq_default places FREE (omega arith))) ]
