-- The next bit of a word, what each way through the code gives; and a number of a set by its word. Assumes nothing.
use mathlib.Core.Path.{◌≡◌, sym, ap, ◌∙◌}
use mathlib.Core.Bool.{Bool, true, false}
use mathlib.Core.List.{List}
use Prim.Native.Nat.{ℕ, ◌+◌, ◌-◌, ◌/◌, ◌%◌, ◌^◌, ◌≤◌, ◌<◌}
use native.Mathlib.Nat.{lt_of_le_of_lt}
use native.Mathlib.Omega.{arith}
use native.Mathlib.Decide.{dec_le}
use lib.ListN.{get_or}
use lib.Pow.{shr_le}
use lib.Count.{count_trailing_zeros, trailing_le}
use borrow.Author.Tests.{eqb-true}
use Rattle.counting.proofs.Tests.{no_way, not-off-is}
use Rattle.bits.specs.parts.Bits.{bit_on, is_on, Topped, NextOn}
use Rattle.bits.proofs.Words.{bit-none, bit-shift}
use Rattle.bits.proofs.Trailing.{trailing_below, trailing-hit, trailing_lt, bit-over}

-- from the end on there is none
pub next-end : (test : ℕ → Bool) (low high : ℕ) → low ≡ high → NextOn test low high high
next-end test low high e = record {
  up = omega arith;
  within = omega arith;
  passed = λ k l m. absurd (omega arith);
  hit = λ l. absurd (omega arith);
}

-- a word's bit k from s up is bit k - s of what is left above s
left-bit : (word s k : ℕ) → s ≤ k → bit_on (word / 2 ^ s) (k - s) ≡ bit_on word k
left-bit word s k l =
    let e : s + (k - s) ≡ k = omega arith in
    bit-shift word s (k - s) ∙ ap (bit_on word) e

-- the zeros of a word fit a word
pub zeros-fit : (n : ℕ) → count_trailing_zeros 64 n < 2 ^ 64
zeros-fit n = omega (arith, trailing_le 64 n)

-- and so do s and the zeros
pub place-fits : (s n : ℕ) → s ≤ 64 → s + count_trailing_zeros 64 n < 2 ^ 64
place-fits s n h = omega (arith, trailing_le 64 n)

-- nothing left above s: no bit is on from there
pub next-off : (word s : ℕ) → s ≤ 64 → word / 2 ^ s ≡ 0 → NextOn (bit_on word) s 64 64
next-off word s h e = record {
  up = h;
  within = omega arith;
  passed = λ k l m. sym (left-bit word s k l) ∙ ap (λ (x : ℕ). bit_on x (k - s)) e ∙ bit-none (k - s);
  hit = λ l. absurd (omega arith);
}

module _ (word s : ℕ) (fits : word < 2 ^ 64) (some : word / 2 ^ s ≡ 0 → ⊥) where
  -- what is left above s is a word
  left_lt : word / 2 ^ s < 2 ^ 64
  left_lt = lt_of_le_of_lt (shr_le word s) fits

  -- its lowest bit that is on is on in the word too
  left-hit : bit_on word (s + count_trailing_zeros 64 (word / 2 ^ s)) ≡ true
  left-hit =
      sym (bit-shift word s (count_trailing_zeros 64 (word / 2 ^ s)))
      ∙ trailing-hit 64 (word / 2 ^ s) (trailing_lt 64 (word / 2 ^ s) left_lt (omega arith))

  -- the lowest bit of what is left lies within the word
  next-within : s + count_trailing_zeros 64 (word / 2 ^ s) < 64
  next-within = elim (dec_le 64 (s + count_trailing_zeros 64 (word / 2 ^ s))) [
    | yes l ↦ absurd (no_way left-hit (bit-over 64 word (s + count_trailing_zeros 64 (word / 2 ^ s)) fits l))
    | no l ↦ omega arith
  ]

  -- and is the next that is on
  pub next-left : NextOn (bit_on word) s 64 (s + count_trailing_zeros 64 (word / 2 ^ s))
  next-left = record {
    up = omega arith;
    within = omega (arith, next-within);
    passed = λ k l m. sym (left-bit word s k l) ∙ trailing_below 64 (word / 2 ^ s) (k - s) (omega arith);
    hit = λ l. left-hit;
  }

-- number k of a set, by its word and its bit
pub is-on-at : (words : List ℕ) (k w b : ℕ) → k / 64 ≡ w → k % 64 ≡ b → is_on words k ≡ bit_on (get_or words w 0) b
unfolding is_on
is-on-at words k w b p q = rw (p, q)

-- a word whose bit in the last one is off has no bit on
pub top-off : {words : List ℕ} → Topped words → (w j : ℕ) → w < 64 → bit_on (get_or words 64 0) w ≡ false → bit_on (get_or words w 0) j ≡ false
top-off {words} t w j l f =
    let z : get_or words w 0 ≡ 0 = eqb-true (get_or words w 0) 0 (not-off-is (sym (t.tops w l) ∙ f)) in
    ap (λ (x : ℕ). bit_on x j) z ∙ bit-none j
