-- Laws of a word's bits: a bit turned on, turned off, and every other bit as it was. Assumes nothing.
use mathlib.Core.Path.{◌≡◌, refl, sym, ap, ◌∙◌}
use mathlib.Core.Bool.{Bool, true, false, true≢false}
use Prim.Native.Nat.{ℕ, zero, suc, ◌+◌, ◌-◌, ◌*◌, ◌/◌, ◌%◌, ◌^◌, ◌≤◌, ◌<◌, min, max}
use native.Mathlib.Nat.{mod-eq_of_lt, lt_of_le_of_lt, one-mul, mul_comm, div-one, div-eq_of_lt}
use native.Mathlib.Omega.{arith}
use lib.Dec.{eqb}
use lib.Arith.{digits_div, digits_mod}
use lib.Bits.{bit_and, bit_or, or_lt, xor_lt, and_le_l}
use lib.Pow.{pow_pos, pow-lt, shr-shr, ones_split, ones_lt, high}
use mir.Syntax.{w64}
use native.Mathlib.Decide.{ℕ_discrete}
use native.Mathlib.Nat.{pow-suc}
use Rattle.std.specs.Int.{bit_at, bit_not}
use Rattle.std.proofs.lemmas.Nat.Bits.{bit_at_lowest, bit_at-suc, bit_at_and, bit_at_or, bit_at_xor, bit_at-pow_same, bit_at-pow_other, bit_at_clear_same, bit_at_clear_other}
use Rattle.counting.specs.Tests.{bit}
use Rattle.bits.specs.parts.Bits.{bit_on, ALL, turned_on, turned_off}

-- the digits of a word, with bit b turned on
on-digit : (word b k : ℕ) → bit_at (turned_on word b) k ≡ max (bit_at word k) (bit_at (2 ^ b) k)
unfolding turned_on
on-digit word b k = bit_at_or word (2 ^ b) k

-- and turned off: no digit that it shares with the bit
off-digit : (word b k : ℕ) → bit_at (turned_off word b) k ≡ min (bit_at word k) (1 - bit_at (2 ^ b) k)
unfolding turned_off
off-digit word b k = omega (arith, bit_at_xor word (bit_and word (2 ^ b)) k, bit_at_and word (2 ^ b) k)

-- numbers of j digits with the same digits are the same
digits_same : (j a c : ℕ) → a < 2 ^ j → c < 2 ^ j → ((k : ℕ) → k < j → bit_at a k ≡ bit_at c k) → a ≡ c
digits_same zero a c l m f = omega arith
digits_same (suc j) a c l m f =
    let half = digits_same j (a / 2) (c / 2) (omega (arith, pow-suc 2 j)) (omega (arith, pow-suc 2 j)) (λ k h. sym (bit_at-suc a k) ∙ f (suc k) (omega arith) ∙ bit_at-suc c k) in
    omega (arith, half, f 0 (omega arith), bit_at_lowest a, bit_at_lowest c)

-- 0 has no bit on
pub bit-none : (b : ℕ) → bit_on 0 b ≡ false
unfolding bit_on
bit-none b = ap (λ (x : ℕ). eqb (x % 2) 1) (div-eq_of_lt (pow_pos b))

-- the word with every bit on has each of them on
pub bit-all : (b : ℕ) → b < 64 → bit_on ALL b ≡ true
unfolding bit_on
bit-all b h =
    let i = 63 - b in
    let e : 64 ≡ (i + 1) + b = omega arith in
    ap (λ (x : ℕ). eqb ((2 ^ x - 1) / 2 ^ b % 2) 1) e
    ∙ ap (λ (x : ℕ). eqb (x / 2 ^ b % 2) 1) (ones_split (i + 1) b)
    ∙ ap (λ (x : ℕ). eqb (x % 2) 1) (high (2 ^ (i + 1) - 1) b (ones_lt b))
    ∙ ap (λ (x : ℕ). eqb (x % 2) 1) (ones_split i 1)
    ∙ ap (λ (x : ℕ). eqb x 1) (digits_mod (2 ^ i - 1) (omega arith))

-- a word moved down by s: its bit k is the word's bit s + k
pub bit-shift : (word s k : ℕ) → bit_on (word / 2 ^ s) k ≡ bit_on word (s + k)
unfolding bit_on
bit-shift word s k = ap (λ (x : ℕ). eqb (x % 2) 1) (shr-shr word s k)

-- a word doubled: each bit is one further up, and the lowest is what was added
pub doubled-low : (word : ℕ) (t : Bool) → bit_on (2 * word + bit t) 0 ≡ t
unfolding bit_on
doubled-low word true = ap (λ (x : ℕ). eqb (x / 1 % 2) 1) (ap (λ (y : ℕ). y + 1) (mul_comm 2 word)) ∙ ap (λ (x : ℕ). eqb (x % 2) 1) (div-one (word * 2 + 1)) ∙ ap (λ (x : ℕ). eqb x 1) (digits_mod word (omega arith))
doubled-low word false = ap (λ (x : ℕ). eqb (x / 1 % 2) 1) (ap (λ (y : ℕ). y + 0) (mul_comm 2 word)) ∙ ap (λ (x : ℕ). eqb (x % 2) 1) (div-one (word * 2 + 0)) ∙ ap (λ (x : ℕ). eqb x 1) (digits_mod word (omega arith))

pub doubled-up : (word one b : ℕ) → one ≤ 1 → bit_on (2 * word + one) (1 + b) ≡ bit_on word b
doubled-up word one b h =
    sym (bit-shift (2 * word + one) 1 b)
    ∙ ap (λ (x : ℕ). bit_on x b) (ap (λ (y : ℕ). (y + one) / 2) (mul_comm 2 word) ∙ digits_div word (omega arith))

-- a bit turned on is on
pub turned-on-here : (word b : ℕ) → bit_on (turned_on word b) b ≡ true
unfolding bit_on
turned-on-here word b = let e : bit_at (turned_on word b) b ≡ 1 = omega (arith, on-digit word b b, bit_at-pow_same b) in ap (λ (x : ℕ). eqb x 1) e

-- every other bit is as it was
pub turned-on-other : (word b k : ℕ) → (k ≡ b → ⊥) → bit_on (turned_on word b) k ≡ bit_on word k
unfolding bit_on
turned-on-other word b k f = ap (λ (x : ℕ). eqb x 1) (omega (arith, on-digit word b k, bit_at-pow_other b k f))

-- a bit turned off is off
pub turned-off-here : (word b : ℕ) → bit_on (turned_off word b) b ≡ false
unfolding bit_on
turned-off-here word b = let e : bit_at (turned_off word b) b ≡ 0 = omega (arith, off-digit word b b, bit_at-pow_same b) in ap (λ (x : ℕ). eqb x 1) e

-- every other bit is as it was
pub turned-off-other : (word b k : ℕ) → (k ≡ b → ⊥) → bit_on (turned_off word b) k ≡ bit_on word k
unfolding bit_on
turned-off-other word b k f = ap (λ (x : ℕ). eqb x 1) (omega (arith, off-digit word b k, bit_at-pow_other b k f))

-- a word in which a bit is on is not 0
pub not_none : {word : ℕ} (b : ℕ) → bit_on word b ≡ true → word ≡ 0 → ⊥
not_none b p e = true≢false (sym p ∙ ap (λ (x : ℕ). bit_on x b) e ∙ bit-none b)

-- nothing to turn off in 0
pub turned-off-none : (b : ℕ) → turned_off 0 b ≡ 0
unfolding turned_off
turned-off-none b = refl

-- a word of j bits stays one
pub turned-on_lt : (j word b : ℕ) → word < 2 ^ j → b < j → turned_on word b < 2 ^ j
unfolding turned_on
turned-on_lt j word b h l = or_lt j word (2 ^ b) h (pow-lt l)

-- a word of j bits stays one
pub turned-off_lt : (j word b : ℕ) → word < 2 ^ j → turned_off word b < 2 ^ j
unfolding turned_off
turned-off_lt j word b h = xor_lt j word (bit_and word (2 ^ b)) h (lt_of_le_of_lt (and_le_l word (2 ^ b)) h)

-- as code computes a power of two: no bit is shifted out
power_code : (j b : ℕ) → b < j → 1 * 2 ^ b % 2 ^ j ≡ 2 ^ b
power_code j b l = ap (λ (x : ℕ). x % 2 ^ j) (one-mul (2 ^ b)) ∙ mod-eq_of_lt (pow-lt l)

pub turn-on_code : (j word b : ℕ) → b < j → bit_or word (1 * 2 ^ b % 2 ^ j) ≡ turned_on word b
unfolding turned_on
turn-on_code j word b l = ap (bit_or word) (power_code j b l)

-- the word without the bit, as code computes it, has the same digits
pub turn-off_code : (word b : ℕ) → word < 2 ^ 64 → b < 64 → bit_and word (bit_not w64 (1 * 2 ^ b % 2 ^ 64)) ≡ turned_off word b
turn-off_code word b fits l =
    digits_same 64 _ _ (lt_of_le_of_lt (and_le_l word (bit_not w64 (1 * 2 ^ b % 2 ^ 64))) fits) (turned-off_lt 64 word b fits) (λ k h. elim (ℕ_discrete k b) [
      | yes e ↦ rw e (bit_at_clear_same w64 word b l ∙ omega (arith, off-digit word b b, bit_at-pow_same b))
      | no f ↦ bit_at_clear_other w64 word b l k h f ∙ omega (arith, off-digit word b k, bit_at-pow_other b k f)
    ])
