-- The checks of a table, and of a table with its cards, each with a number that is not 0. Assumes nothing.
use mathlib.Core.Path.{◌≡◌}
use mathlib.Core.List.{List}
use Prim.Native.Nat.{ℕ, ◌<◌}
use native.Mathlib.Omega.{arith}
use Rattle.counting.proofs.Checks.{Refusing}
use Rattle.counting.proofs.Checks.Refusing.{more, none}
use Rattle.racks.specs.Racks.{Rack}
use Rattle.racks.specs.Numbers.{places_checks, table_checks, card_checks, rack_checks, size_checks}

-- no check gives 0
given : (n : ℕ) → 0 < n → n ≡ 0 → ⊥
given n l e = omega arith

pub table-marked : (racks : List Rack) (places : List ℕ) → Refusing (table_checks racks places)
unfolding table_checks places_checks rack_checks
table-marked racks places =
    more (given 1 (omega arith)) (more (given 3 (omega arith)) (more (given 4 (omega arith)) (more (given 5 (omega arith)) (more (given 6 (omega arith)) none))))

pub cards-marked : (racks : List Rack) (b : ℕ) (places cards : List ℕ) → Refusing (card_checks racks b places cards)
unfolding card_checks
cards-marked racks b places cards =
    more (given 1 (omega arith))
    (more (given 2 (omega arith)) (more (given 3 (omega arith)) (more (given 4 (omega arith)) (more (given 5 (omega arith)) (more (given 6 (omega arith)) none)))))

pub racks-marked : (racks : List Rack) → Refusing (rack_checks racks)
unfolding rack_checks
racks-marked racks = more (given 1 (omega arith)) (more (given 3 (omega arith)) none)

pub sizes-marked : (racks : List Rack) (b : ℕ) → Refusing (size_checks racks b)
unfolding size_checks
sizes-marked racks b = more (given 1 (omega arith)) (more (given 2 (omega arith)) (more (given 3 (omega arith)) none))
