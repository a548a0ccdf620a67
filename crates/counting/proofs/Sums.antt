-- More laws of `sum`: sums added, one number alone, one more at one place, sums compared, and a count taken apart by where each number goes.
-- Assumes nothing.
use mathlib.Core.Path.{◌≡◌, refl, ap}
use mathlib.Core.Bool.{Bool, true}
use mathlib.Core.Logic.{◌≢◌}
use Prim.Native.Nat.{ℕ, zero, suc, ◌+◌, ◌≤◌, ◌<◌}
use native.Mathlib.Omega.{arith}
use native.Mathlib.Decide.{ℕ_discrete}
use lib.Dec.{eqb}
use borrow.Author.Tests.{eq-eqb, ne_eqb}
use Rattle.counting.specs.Tests.{◌and◌, bit}
use Rattle.counting.specs.Count.{sum, count}
use Rattle.counting.proofs.Tests.{by-test, and-off_l, and-off_r, both}
use Rattle.counting.proofs.Select.{sum_cong}

pub sum-none : (n : ℕ) (f : ℕ → ℕ) → ((k : ℕ) → k < n → f k ≡ 0) → sum n f ≡ 0
unfolding sum
sum-none zero f h = refl
sum-none (suc n) f h = omega (arith, sum-none n f (λ k l. h k (omega arith)), h n (omega arith))

pub sum-add : (n : ℕ) (f g : ℕ → ℕ) → sum n (λ k. f k + g k) ≡ sum n f + sum n g
unfolding sum
sum-add zero f g = refl
sum-add (suc n) f g = omega (arith, sum-add n f g)

-- where all others are 0, the sum is the one at k
pub sum_one : (n : ℕ) (f : ℕ → ℕ) (k : ℕ) → k < n → ((j : ℕ) → j < n → j ≢ k → f j ≡ 0) → sum n f ≡ f k
unfolding sum
sum_one zero f k l h = absurd (omega arith)
sum_one (suc n) f k l h = elim (ℕ_discrete n k) [
  | yes e ↦ omega (arith, ap f e, sum-none n f (λ j m. h j (omega arith) (λ q. omega arith)))
  | no d ↦ omega (arith, h n (omega arith) d, sum_one n f k (omega arith) (λ j m. h j (omega arith)))
]

-- where one more stands at k, and the same at all others, the sum is one more
pub sum-on : (n : ℕ) (f g : ℕ → ℕ) (k : ℕ) → k < n → g k ≡ f k + 1 → ((j : ℕ) → j ≢ k → g j ≡ f j) → sum n g ≡ sum n f + 1
unfolding sum
sum-on zero f g k l e h = absurd (omega arith)
sum-on (suc n) f g k l e h = elim (ℕ_discrete n k) [
  | yes q ↦ rw q (omega (arith, e, sum_cong k g f (λ j m. h j (λ i. omega arith))))
  | no d ↦ omega (arith, h n d, sum-on n f g k (omega arith) e h)
]

-- sums of numbers of which none is above the other's are no higher
pub sum_le : (n : ℕ) (f g : ℕ → ℕ) → ((k : ℕ) → k < n → f k ≤ g k) → sum n f ≤ sum n g
unfolding sum
sum_le zero f g h = omega arith
sum_le (suc n) f g h = omega (arith, h n (omega arith), sum_le n f g (λ k l. h k (omega arith)))

-- and where they are the same, so is each number
pub sum_tight : (n : ℕ) (f g : ℕ → ℕ) → ((k : ℕ) → k < n → f k ≤ g k) → sum n f ≡ sum n g → (k : ℕ) → k < n → f k ≡ g k
unfolding sum
sum_tight zero f g h e k l = absurd (omega arith)
sum_tight (suc n) f g h e k l =
    let below : sum n f ≤ sum n g = sum_le n f g (λ j m. h j (omega arith)) in
    let last : f n ≤ g n = h n (omega arith) in
    elim (ℕ_discrete k n) [
      | yes q ↦ rw q (omega arith)
      | no d ↦ sum_tight n f g (λ j m. h j (omega arith)) (omega arith) k (omega arith)
    ]

-- a test that passes is counted at one number below m alone, a test that fails at none
sum-bit : (m : ℕ) (b : Bool) (q : ℕ) → (b ≡ true → q < m) → sum m (λ p. bit (b and eqb q p)) ≡ bit b
sum-bit m b q h =
    by-test b
    (λ e. omega (
      arith,
      sum_one m (λ p. bit (b and eqb q p)) q (h e) (λ j _ d. ap bit (and-off_r b (ne_eqb q j (λ x. omega arith)))),
      ap bit (both e (eq-eqb q q refl)),
      ap bit e,
    ))
    (λ e. omega (arith, sum-none m (λ p. bit (b and eqb q p)) (λ j _. ap bit (and-off_l (eqb q j) e)), ap bit e))

-- those that pass f, by where φ takes each of them
pub count_by : (n m : ℕ) (f : ℕ → Bool) (φ : ℕ → ℕ) → ((k : ℕ) → k < n → f k ≡ true → φ k < m) → count n f ≡ sum m (λ p. count n (λ k. f k and eqb (φ k) p))
unfolding count
count_by zero m f φ h = omega (arith, sum-none m (λ _. 0) (λ _ _. refl))
count_by (suc n) m f φ h =
    omega (
      arith,
      count_by n m f φ (λ k l. h k (omega arith)),
      sum-bit m (f n) (φ n) (h n (omega arith)),
      sum-add m (λ p. bit (f n and eqb (φ n) p)) (λ p. count n (λ k. f k and eqb (φ k) p)),
    )
