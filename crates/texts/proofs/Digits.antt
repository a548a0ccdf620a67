-- Laws of decimal and hexadecimal numbers: their digits as code writes them, how many there are. Assumes nothing.
use mathlib.Core.Path.{◌≡◌, refl, sym, ap, ◌∙◌}
use mathlib.Core.List.{List, [], ◌∷◌, ◌++◌}
use Prim.Native.Nat.{ℕ, zero, suc, ◌+◌, ◌-◌, ◌/◌, ◌%◌, ◌≤◌, ◌<◌, ◌^◌}
use native.Mathlib.Omega.{arith}
use native.Mathlib.Nat.{zero-add, suc-add, pow-suc, pow-le-pow_right}
use native.Mathlib.Decide.{dec_le}
use lib.Dec.{ltb}
use borrow.Author.Tests.{le-ltb, lt-ltb}
use lib.ListN.{length, length-append}
use Rattle.counting.specs.Tests.{pick}
use Rattle.counting.proofs.Tests.{by-test}
use Rattle.texts.specs.Text.{digit, digits, decimal, hex}
use Rattle.texts.specs.parts.Writing.{Wrote}
use Rattle.texts.proofs.Writing.{wrote_then}

-- a digit below 10
pub digit_low : (d : ℕ) → d < 10 → digit d ≡ 48 + d
unfolding digit
digit_low d h = rw (lt-ltb d 10 h)

-- a digit from 10 on
pub digit-high : (d : ℕ) → 10 ≤ d → digit d ≡ 87 + d
unfolding digit
digit-high d h = rw (le-ltb d 10 h)

-- a number below 10 has one digit
digits_low : (n x : ℕ) → x < 10 → digits n x ≡ digit x ∷ []
unfolding digits
digits_low zero x h = refl
digits_low (suc n) x h = rw (lt-ltb x 10 h)

-- where n + 1 digits are enough, so are more
more-digits : (n x : ℕ) → x < 10 ^ suc n → digits (suc n) x ≡ digits n x
unfolding digits
more-digits zero x h = digits_low 1 x h
more-digits (suc n) x h =
    let k : x / 10 < 10 ^ suc n = omega (arith, pow-suc 10 (suc n)) in
    ap (λ (r : List ℕ). pick (ltb x 10) (digit x ∷ []) (r ++ digit (x % 10) ∷ [])) (more-digits n (x / 10) k)

module _ (n x : ℕ) (enough : x < 10 ^ suc n) where
  -- k digits more than enough are enough
  still-enough : (k : ℕ) → x < 10 ^ suc (k + n)
  still-enough k = let le : 10 ^ suc n ≤ 10 ^ suc (k + n) = pow-le-pow_right (omega arith) (omega arith) in omega arith

  -- and the number is written the same
  same_digits : (k : ℕ) → digits (k + n) x ≡ digits n x
  same_digits zero = rw zero-add
  same_digits (suc k) = rw suc-add (more-digits (k + n) x (still-enough k) ∙ same_digits k)

-- x + 1 digits are enough for x
counted : (x : ℕ) → x < 10 ^ suc x
counted zero = omega arith
counted (suc x) = omega (arith, counted x, pow-suc 10 (suc x))

-- **Enough digits are enough**: with any n + 1 digits in which x can be written, it is written the same
pub decimal-enough : (n x : ℕ) → x < 10 ^ suc n → digits n x ≡ decimal x
unfolding decimal
decimal-enough n x h = elim (dec_le n x) [
  | yes le ↦ let e : (x - n) + n ≡ x = omega arith in sym (rw e at (same_digits n x h (x - n)))
  | no gt ↦ let e : (n - x) + x ≡ n = omega arith in rw e at (same_digits x x (counted x) (n - x))
]

-- a number below 10 in decimal, as code writes it
pub decimal-low : (x : ℕ) → x < 10 → decimal x ≡ digit x ∷ []
unfolding decimal
decimal-low x h = digits_low x x h

-- a number from 10 on in decimal, as code writes it: what stands before its last digit, and then that
pub decimal-more : (x : ℕ) → 10 ≤ x → decimal x ≡ decimal (x / 10) ++ digit (x % 10) ∷ []
unfolding digits
decimal-more x h =
    sym (decimal-enough (suc x) x (omega (arith, counted x, pow-suc 10 (suc x))))
    ∙ opened
    ∙ ap (λ (r : List ℕ). r ++ digit (x % 10) ∷ []) (decimal-enough x (x / 10) (omega (arith, counted x)))
  where
    opened : digits (suc x) x ≡ digits x (x / 10) ++ digit (x % 10) ∷ []
    opened = rw (le-ltb x 10 h)

-- so it is a digit longer than what stands before that
pub decimal_longer : (x : ℕ) → 10 ≤ x → length (decimal x) ≡ length (decimal (x / 10)) + 1
decimal_longer x h = ap length (decimal-more x h) ∙ length-append (decimal (x / 10)) (digit (x % 10) ∷ [])

-- at most n + 1 digits
length_digits : (n x : ℕ) → length (digits n x) ≤ suc n
unfolding digits
length_digits zero x = omega arith
length_digits (suc n) x = by-test (ltb x 10) (λ e. rw e (omega arith)) (λ e. rw e (simp length-append (omega (arith, length_digits n (x / 10)))))

-- a number that n + 1 digits are enough for has at most n + 1 in decimal
pub length-decimal : (n x : ℕ) → x < 10 ^ suc n → length (decimal x) ≤ suc n
length-decimal n x h = omega (arith, length_digits n x, ap length (decimal-enough n x h))

-- a number below 100,000 has at most 5
pub length-decimal-5 : (x : ℕ) → x < 100000 → length (decimal x) ≤ 5
length-decimal-5 x h = length-decimal 4 x h

-- a byte in hexadecimal has two digits
pub length-hex : (x : ℕ) → length (hex x) ≡ 2
unfolding hex
length-hex x = refl

module _ {l m : List ℕ} {i j : ℕ} (x d : ℕ) where
  -- a number below 10 is written by its digit
  pub wrote-low : x < 10 → d ≡ digit x → Wrote (d ∷ []) l i m j → Wrote (decimal x) l i m j
  wrote-low h e w = rw (decimal-low x h, ← e) w

  -- a number from 10 on is written by what stands before its last digit, and then that
  pub wrote-more : {n : List ℕ} {k : ℕ} → 10 ≤ x → d ≡ digit (x % 10) → Wrote (decimal (x / 10)) l i m j → Wrote (d ∷ []) m j n k → Wrote (decimal x) l i n k
  wrote-more h e v w = rw (decimal-more x h, ← e) (wrote_then v w)

  -- a byte is written by its two digits
  pub wrote-hex : {n : List ℕ} {k : ℕ} (e : ℕ) → d ≡ digit (x / 16) → e ≡ digit (x % 16) → Wrote (d ∷ []) l i m j → Wrote (e ∷ []) m j n k → Wrote (hex x) l i n k
  unfolding hex
  wrote-hex e p q v w = rw (← p, ← q) (wrote_then v w)
