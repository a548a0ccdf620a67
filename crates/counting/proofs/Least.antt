-- Laws of `least`: it passes, none below it does, and it is the only such number. Assumes nothing.
use mathlib.Core.Path.{◌≡◌, refl}
use mathlib.Core.Bool.{Bool, true, false}
use Prim.Native.Nat.{ℕ, zero, suc, ◌+◌, ◌≤◌, ◌<◌}
use native.Mathlib.Omega.{arith}
use native.Mathlib.Decide.{dec_lt}
use Rattle.counting.specs.Count.{some, least}
use Rattle.counting.proofs.Tests.{by-test, no_way}
use Rattle.counting.proofs.Some.{some-found, some-off}

-- none below it passes
pub least-below : (n : ℕ) (f : ℕ → Bool) (k : ℕ) → k < least n f → f k ≡ false
unfolding least
least-below zero f k l = absurd (omega arith)
least-below (suc n) f zero l = by-test (f 0) (λ e. absurd (omega (arith, rw e at l))) (λ e. e)
least-below (suc n) f (suc k) l = by-test (f 0)
    (λ e. absurd (omega (arith, rw e at l)))
    (λ e. least-below n (λ i. f (suc i)) k (omega (arith, rw e at l)))

-- where it is below n, it passes
pub least_on : (n : ℕ) (f : ℕ → Bool) → least n f < n → f (least n f) ≡ true
unfolding least
least_on zero f l = absurd (omega arith)
least_on (suc n) f l = by-test (f 0) (λ e. rw e e) (λ e. rw e (least_on n (λ k. f (suc k)) (omega (arith, rw e at l))))

-- equal tests have the same
pub least_cong : (n : ℕ) (f g : ℕ → Bool) → ((k : ℕ) → k < n → f k ≡ g k) → least n f ≡ least n g
unfolding least
least_cong zero f g h = refl
least_cong (suc n) f g h = rw (h 0 (omega arith), least_cong n (λ k. f (suc k)) (λ k. g (suc k)) (λ k l. h (suc k) (omega arith)))

-- no number that passes is lower
pub least-min : (n : ℕ) (f : ℕ → Bool) (k : ℕ) → f k ≡ true → least n f ≤ k
least-min n f k e = elim (dec_lt k (least n f)) [ yes l ↦ absurd (no_way e (least-below n f k l)) | no l ↦ omega arith ]

-- it is the number below n that passes where none below it does
pub least-is : (n : ℕ) (f : ℕ → Bool) (g : ℕ) → g < n → f g ≡ true → ((k : ℕ) → k < g → f k ≡ false) → least n f ≡ g
least-is n f g l e h =
    let m = least-min n f g e in
    elim (dec_lt (least n f) g) [
      | yes k ↦ absurd (no_way (least_on n f (omega arith)) (h (least n f) k))
      | no k ↦ omega arith
    ]

-- where some number below n passes, it is below n
pub least_lt : (n : ℕ) (f : ℕ → Bool) → some n f ≡ true → least n f < n
least_lt n f e = let k = some-found n f e in omega (arith, least-min n f k.0 k.2, k.1)

-- one number more, as code counts it: the lowest of before, where there is one
pub least_kept : (n : ℕ) (f : ℕ → Bool) → some n f ≡ true → least (n + 1) f ≡ least n f
least_kept n f e =
    let l = least_lt n f e in
    least-is (n + 1) f (least n f) (omega arith) (least_on n f l) (least-below n f)

-- else the new one, where it passes
pub least-new : (n : ℕ) (f : ℕ → Bool) → some n f ≡ false → f n ≡ true → least (n + 1) f ≡ n
least-new n f e t = least-is (n + 1) f n (omega arith) t (some-off n f e)

-- where none passes, n
pub least-none : (n : ℕ) (f : ℕ → Bool) → ((k : ℕ) → k < n → f k ≡ false) → least n f ≡ n
unfolding least
least-none zero f h = refl
least-none (suc n) f h = rw (h 0 (omega arith), least-none n (λ k. f (suc k)) (λ k l. h (suc k) (omega arith)))

-- it is no more than n
pub least_le : (n : ℕ) (f : ℕ → Bool) → least n f ≤ n
unfolding least
least_le zero f = omega arith
least_le (suc n) f = by-test (f 0) (λ e. rw e (omega arith)) (λ e. rw e (omega (arith, least_le n (λ k. f (suc k)))))
