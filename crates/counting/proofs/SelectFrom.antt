-- Laws of `select_from`: a span of numbers from its lowest up. Assumes nothing.
use mathlib.Core.Path.{◌≡◌, refl, ap, sym, ◌∙◌}
use mathlib.Core.Bool.{Bool, true, false}
use mathlib.Core.List.{[], ◌∷◌, ◌++◌, append_assoc, append-nil}
use Prim.Native.Nat.{ℕ, zero, suc, ◌+◌, ◌-◌, ◌≤◌, ◌<◌}
use native.Mathlib.Omega.{arith}
use native.Mathlib.Nat.{add-zero, add-suc, suc-add, zero-add}
use lib.ListN.{length, take, length-append}
use lib.Seq.{take-append-le}
use Rattle.counting.specs.Tests.{bit}
use Rattle.counting.specs.Count.{count, select, select_from}
use Rattle.counting.proofs.Tests.{by-test}
use Rattle.counting.proofs.Count.{count_le}

-- the lowest of a span passes
pub from_on : (low n : ℕ) (f : ℕ → Bool) → f low ≡ true → select_from low (suc n) f ≡ low ∷ select_from (suc low) n f
unfolding select_from
from_on low n f e = rw e

-- or it does not
pub from-off : (low n : ℕ) (f : ℕ → Bool) → f low ≡ false → select_from low (suc n) f ≡ select_from (suc low) n f
unfolding select_from
from-off low n f e = rw e

-- two spans, one behind the other
pub from-split : (low m n : ℕ) (f : ℕ → Bool) → select_from low (m + n) f ≡ select_from low m f ++ select_from (low + m) n f
unfolding select_from
from-split low zero n f = rw (zero-add, add-zero)
from-split low (suc m) n f =
    rw (suc-add m n, add-suc low m, ← suc-add low m)
    (by-test (f low) (λ e. rw (e, from-split (suc low) m n f)) (λ e. rw (e, from-split (suc low) m n f)))

-- what is below low, then a span from low on
pub select-from : (low n : ℕ) (f : ℕ → Bool) → select (low + n) f ≡ select low f ++ select_from low n f
unfolding select select_from
select-from low zero f = rw (add-zero, append-nil)
select-from low (suc n) f =
    ap (λ (m : ℕ). select m f) (add-suc low n ∙ sym (suc-add low n))
    ∙ select-from (suc low) n f
    ∙ by-test (f low) (λ e. rw (e, append_assoc)) (λ e. rw (e, append-nil))

-- all that are selected are a span from 0 on
pub select-all : (n : ℕ) (f : ℕ → Bool) → select n f ≡ select_from 0 n f
unfolding select
select-all n f = rw zero-add at (select-from 0 n f)

-- a span within: those before it, its own, and those behind it
pub select-three : (n low high : ℕ) (f : ℕ → Bool) → low ≤ high → high ≤ n → select n f ≡ select_from 0 low f ++ (select_from low (high - low) f ++ select_from high (n - high) f)
select-three n low high f u l =
    let e : n ≡ low + ((high - low) + (n - high)) = omega arith in
    let h : low + (high - low) ≡ high = omega arith in
    select-all n f
    ∙ ap (λ (m : ℕ). select_from 0 m f) e
    ∙ from-split 0 low ((high - low) + (n - high)) f
    ∙ rw (zero-add low, from-split low (high - low) (n - high) f, h)

-- equal tests
pub from_cong : (low n : ℕ) (f g : ℕ → Bool) → ((k : ℕ) → low ≤ k → k < low + n → f k ≡ g k) → select_from low n f ≡ select_from low n g
unfolding select_from
from_cong low zero f g h = refl
from_cong low (suc n) f g h = rw (h low (omega arith) (omega arith), from_cong (suc low) n f g (λ k l m. h k (omega arith) (omega arith)))

-- a test that nothing passes
pub from-none : (low n : ℕ) (f : ℕ → Bool) → ((k : ℕ) → low ≤ k → k < low + n → f k ≡ false) → select_from low n f ≡ []
unfolding select_from
from-none low zero f h = refl
from-none low (suc n) f h = rw (h low (omega arith) (omega arith), from-none (suc low) n f (λ k l m. h k (omega arith) (omega arith)))

-- a span of one
from_one : (low : ℕ) (f : ℕ → Bool) → length (select_from low (suc zero) f) ≡ bit (f low)
unfolding select_from
from_one low f = by-test (f low) (λ e. rw e) (λ e. rw e)

-- how many of a span pass
pub length_from : (low n : ℕ) (f : ℕ → Bool) → length (select_from low n f) ≡ count n (λ j. f (low + j))
unfolding count
length_from low zero f = ap length (from-none low 0 f (λ k l m. absurd (omega arith)))
length_from low (suc n) f =
    ap (λ (m : ℕ). length (select_from low m f)) (sym (add-suc n zero ∙ ap suc (add-zero n)))
    ∙ ap length (from-split low n (suc zero) f)
    ∙ omega (arith, length-append (select_from low n f) (select_from (low + n) (suc zero) f), from_one (low + n) f, length_from low n f)

-- no more than there are
pub from-few : (low n : ℕ) (f : ℕ → Bool) → length (select_from low n f) ≤ n
from-few low n f = omega (arith, length_from low n f, count_le n (λ j. f (low + j)))

-- a span is the front of a longer one
from_longer : (low n m : ℕ) (f : ℕ → Bool) → n ≤ m → select_from low m f ≡ select_from low n f ++ select_from (low + n) (m - n) f
from_longer low n m f l = let e : m ≡ n + (m - n) = omega arith in ap (λ (i : ℕ). select_from low i f) e ∙ from-split low n (m - n) f

-- it has no more
pub from_mono : (low n m : ℕ) (f : ℕ → Bool) → n ≤ m → length (select_from low n f) ≤ length (select_from low m f)
from_mono low n m f l = omega (arith, ap length (from_longer low n m f l), length-append (select_from low n f) (select_from (low + n) (m - n) f))

-- and the longer one begins with it
pub from_front : (low n m k : ℕ) (f : ℕ → Bool) → n ≤ m → k ≤ length (select_from low n f) → take k (select_from low m f) ≡ take k (select_from low n f)
from_front low n m k f l h = ap (take k) (from_longer low n m f l) ∙ take-append-le k (select_from low n f) (select_from (low + n) (m - n) f) h

-- where nothing passes before low + x, the span may begin there
pub from_skip : (low n x : ℕ) (f : ℕ → Bool) → x ≤ n → ((j : ℕ) → j < x → f (low + j) ≡ false) → select_from low n f ≡ select_from (low + x) (n - x) f
from_skip low n x f l h =
    let e : n ≡ x + (n - x) = omega arith in
    let q : (k : ℕ) → low ≤ k → k < low + x → f k ≡ false = λ k m m'. let d : low + (k - low) ≡ k = omega arith in rw d at (h (k - low) (omega arith)) in
    ap (λ (m : ℕ). select_from low m f) e ∙ from-split low x (n - x) f ∙ rw (from-none low x f q)
