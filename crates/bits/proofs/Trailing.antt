-- The zeros below the lowest bit that is on: so many bits are off, and the next one is on. Assumes nothing.
use mathlib.Core.Path.{◌≡◌, refl, sym, ap, ◌∙◌}
use mathlib.Core.Bool.{true, false, true≢false}
use Prim.Native.Nat.{ℕ, zero, suc, ◌/◌, ◌%◌, ◌^◌, ◌≤◌, ◌<◌}
use native.Mathlib.Nat.{div-one, div-eq_of_lt, lt_of_lt_of_le, pow-suc}
use native.Mathlib.Omega.{arith}
use native.Mathlib.Decide.{ℕ_discrete}
use native.Mathlib.Numerals.{one-add}
use lib.Dec.{eqb}
use lib.Pow.{pow_mono}
use lib.Count.{count_trailing_zeros, under}
use Rattle.bits.specs.parts.Bits.{bit_on}
use Rattle.bits.proofs.Words.{bit-shift}

-- bit 0 is the lowest digit
bit-low : (n d : ℕ) → n % 2 ≡ d → bit_on n 0 ≡ eqb d 1
unfolding bit_on
bit-low n d e = ap (λ (x : ℕ). eqb (x % 2) 1) (div-one n) ∙ ap (λ (x : ℕ). eqb x 1) e

-- and the bits above it are those of the half
bit_high : (n j : ℕ) → bit_on n (suc j) ≡ bit_on (n / 2) j
bit_high n j = ap (bit_on n) (sym (one-add j)) ∙ sym (bit-shift n 1 j)

-- a step of it: the bits below are off in the half, so they are off in the word
under-below : (d t n j : ℕ) → n % 2 ≡ d → ((i : ℕ) → i < t → bit_on (n / 2) i ≡ false) → j < under d t → bit_on n j ≡ false
under-below zero t n zero e ih h = bit-low n 0 e
under-below zero t n (suc j) e ih h = bit_high n j ∙ ih j (omega arith)
under-below (suc d) t n j e ih h = absurd (omega arith)

-- the bits below the lowest that is on are off
pub trailing_below : (k n j : ℕ) → j < count_trailing_zeros k n → bit_on n j ≡ false
unfolding count_trailing_zeros
trailing_below zero n j h = absurd (omega arith)
trailing_below (suc k) n j h = under-below (n % 2) (count_trailing_zeros k (n / 2)) n j refl (λ i l. trailing_below k (n / 2) i l) h

-- a step of it: the bit is on in the half, so it is on in the word
under-hit : (d t k n : ℕ) → n % 2 ≡ d → (t < k → bit_on (n / 2) t ≡ true) → under d t < suc k → bit_on n (under d t) ≡ true
under-hit zero t k n e ih h = bit_high n t ∙ ih (omega arith)
under-hit (suc zero) t k n e ih h = bit-low n 1 e
under-hit (suc (suc d)) t k n e ih h = absurd (omega arith)

-- and that one is on, where there is one
pub trailing-hit : (k n : ℕ) → count_trailing_zeros k n < k → bit_on n (count_trailing_zeros k n) ≡ true
unfolding count_trailing_zeros
trailing-hit zero n h = absurd (omega arith)
trailing-hit (suc k) n h = under-hit (n % 2) (count_trailing_zeros k (n / 2)) k n refl (λ l. trailing-hit k (n / 2) l) h

-- a step of it: a word that is even and not 0 has a half that is not 0
under_lt : (d t k n : ℕ) → n % 2 ≡ d → 0 < n → (0 < n / 2 → t < k) → under d t < suc k
under_lt zero t k n e p ih = omega (arith, ih (omega arith))
under_lt (suc d) t k n e p ih = omega arith

-- there is one in a word of k bits that is not 0
pub trailing_lt : (k n : ℕ) → n < 2 ^ k → 0 < n → count_trailing_zeros k n < k
unfolding count_trailing_zeros
trailing_lt zero n h p = absurd (omega arith)
trailing_lt (suc k) n h p = under_lt (n % 2) (count_trailing_zeros k (n / 2)) k n refl p (λ q. trailing_lt k (n / 2) (omega (arith, pow-suc 2 k)) q)

-- a word of k bits with all of them off is 0
pub all-off : (k n : ℕ) → n < 2 ^ k → ((j : ℕ) → j < k → bit_on n j ≡ false) → n ≡ 0
all-off k n h f = elim (ℕ_discrete n 0) [
  | yes e ↦ e
  | no p ↦
      let l : count_trailing_zeros k n < k = trailing_lt k n h (omega arith) in
      absurd (true≢false (sym (trailing-hit k n l) ∙ f (count_trailing_zeros k n) l))
]

-- a word of j bits has no bit on from j up
pub bit-over : (j n k : ℕ) → n < 2 ^ j → j ≤ k → bit_on n k ≡ false
unfolding bit_on
bit-over j n k h l = ap (λ (x : ℕ). eqb (x % 2) 1) (div-eq_of_lt (lt_of_lt_of_le h (pow_mono l)))
