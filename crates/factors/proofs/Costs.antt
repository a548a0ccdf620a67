-- What factors cost, and the bound on the copy list. Assumes nothing.
use mathlib.Core.Path.{◌≡◌, refl}
use mathlib.Core.Logic.{◌≢◌}
use mathlib.Core.List.{List, [], ◌∷◌}
use Prim.Native.Nat.{ℕ, ◌+◌, ◌*◌, ◌≤◌}
use native.Mathlib.Omega.{arith}
use lib.Dec.{eqb}
use lib.ListN.{length, length-append}
use borrow.Author.Tests.{eq-eqb, ne_eqb}
use Rattle.counting.specs.Lists.{last, join, each}
use Rattle.counting.proofs.Tests.{by-test}
use Rattle.racks.specs.Limits.{FREE}
use Rattle.racks.specs.Table.{dest}
use Rattle.factors.specs.Copies.{shift, cycle, copies, factors, copy_list}
use Rattle.factors.specs.parts.Chains.{Chained}
use Rattle.factors.proofs.Members.{pigeon}
use Rattle.factors.proofs.Factors.{factors-once, factors-slots}

-- back to front, as many copies as slots follow the first
pub length_shift : (x : ℕ) (l : List ℕ) → length (shift x l) ≡ length l
unfolding shift
length_shift x [] = refl
length_shift x (y ∷ l) = simp (length-append, length_shift y l) (omega arith)

-- by the hand, two copies more
pub length-cycle : (x y : ℕ) (l : List ℕ) → length (cycle x (y ∷ l)) ≡ length l + 3
unfolding cycle
length-cycle x y l = simp (length-append, length_shift) (omega arith)

module _ (places : List ℕ) (x : ℕ) (l : List ℕ) where
  -- the copies of a shift
  pub copies-shift : dest places (last x l) ≡ FREE → copies places (x ∷ l) ≡ shift x l
  unfolding copies
  copies-shift e = rw (eq-eqb (dest places (last x l)) FREE e)

  -- the copies of a cycle
  pub copies-cycle : dest places (last x l) ≢ FREE → copies places (x ∷ l) ≡ cycle x l
  unfolding copies
  copies-cycle q = rw (ne_eqb (dest places (last x l)) FREE q)

  -- a shift of n slots, its free end among them, costs n - 1 copies; so a lone free slot none
  pub cost-shift : dest places (last x l) ≡ FREE → length (copies places (x ∷ l)) + 1 ≡ length (x ∷ l)
  cost-shift e = rw (copies-shift e) (omega (arith, length_shift x l))

-- a cycle of n slots, 2 or more, costs n + 1
pub cost-cycle : (places : List ℕ) (x y : ℕ) (l : List ℕ) → dest places (last x (y ∷ l)) ≢ FREE → length (copies places (x ∷ y ∷ l)) ≡ length (x ∷ y ∷ l) + 1
cost-cycle places x y l q = rw (copies-cycle places x (y ∷ l) q) (omega (arith, length-cycle x y l))

-- a settled card costs none
pub cost-settled : (places : List ℕ) (x : ℕ) → dest places x ≢ FREE → copies places (x ∷ []) ≡ []
unfolding cycle last
cost-settled places x q = copies-cycle places x [] q

-- at most 3/2 copies a slot
cost_most : (places l : List ℕ) → 2 * length (copies places l) ≤ 3 * length l
unfolding copies cycle
cost_most places [] = omega arith
cost_most places (x ∷ []) = by-test (eqb (dest places (last x [])) FREE) (λ t. rw t (omega (arith, length_shift x []))) (λ t. rw t (omega arith))
cost_most places (x ∷ y ∷ l) =
    by-test (eqb (dest places (last x (y ∷ l))) FREE) (λ t. rw t (omega (arith, length_shift x (y ∷ l)))) (λ t. rw t (omega (arith, length-cycle x y l)))

join_most : (places : List ℕ) (l : List (List ℕ)) → 2 * length (join (each (copies places) l)) ≤ 3 * length (join l)
unfolding join each
join_most places [] = omega arith
join_most places (x ∷ l) = simp length-append (omega (arith, cost_most places x, join_most places l))

-- at most 3/2 S copies
pub list_most : {places : List ℕ} → Chained places → 2 * length (copy_list places) ≤ 3 * length places
unfolding copy_list
list_most {places} ok = omega (arith, join_most places (factors places), pigeon (length places) (join (factors places)) (factors-once ok) (factors-slots ok))
