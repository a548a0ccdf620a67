-- A number is known by its decimal, and a refusal by its line. Assumes nothing.
use mathlib.Core.Path.{◌≡◌, refl, ap, ◌∙◌}
use mathlib.Core.List.{List, [], ◌∷◌, ◌++◌}
use Prim.Native.Nat.{ℕ, zero, suc, ◌+◌, ◌-◌, ◌*◌, ◌/◌, ◌%◌, ◌≤◌}
use native.Mathlib.Omega.{arith}
use native.Mathlib.Decide.{dec_lt}
use borrow.Author.Tests.{le-ltb, lt-ltb}
use lib.ListN.{drop}
use Rattle.texts.specs.Text.{digit, digits, decimal}
use Rattle.texts.specs.Lines.{refused_line}
use Rattle.texts.proofs.Digits.{digit_low}

-- what digits spell, behind what is spelled already
spell : ℕ → List ℕ → ℕ
spell a [] = a
spell a (c ∷ cs) = spell (a * 10 + (c - 48)) cs

spell-append : (a : ℕ) (xs ys : List ℕ) → spell a (xs ++ ys) ≡ spell (spell a xs) ys
unfolding spell
spell-append a [] ys = refl
spell-append a (x ∷ xs) ys = spell-append (a * 10 + (x - 48)) xs ys

-- one digit
spell-digit : (a d : ℕ) → d + 1 ≤ 10 → spell a (digit d ∷ []) ≡ a * 10 + d
unfolding spell
spell-digit a d h = ap (λ (c : ℕ). a * 10 + (c - 48)) (digit_low d (omega arith)) ∙ omega arith

-- the digits of a number spell it
spell-digits : (n x : ℕ) → x ≤ n → spell 0 (digits n x) ≡ x
unfolding digits
spell-digits zero x h = spell-digit 0 x (omega arith) ∙ omega arith
spell-digits (suc n) x h = elim (dec_lt x 10) [
  | yes l ↦ rw (lt-ltb x 10 l) (spell-digit 0 x (omega arith) ∙ omega arith)
  | no m ↦
      let e : spell 0 (digits n (x / 10)) ≡ x / 10 = spell-digits n (x / 10) (omega arith) in
      rw (le-ltb x 10 (omega arith))
      (spell-append 0 (digits n (x / 10)) (digit (x % 10) ∷ [])
      ∙ ap (λ (a : ℕ). spell a (digit (x % 10) ∷ [])) e
      ∙ spell-digit (x / 10) (x % 10) (omega arith)
      ∙ omega arith)
]

-- a refusal's line: its number stands behind eight bytes, with the line's end behind it
spell-refused : (n : ℕ) → spell 0 (drop 8 (refused_line n)) ≡ n * 10
unfolding refused_line decimal spell
spell-refused n = spell-append 0 (digits n n) (10 ∷ []) ∙ ap (λ (a : ℕ). a * 10 + 0) (spell-digits n n (omega arith)) ∙ omega arith

-- so no two numbers have one line
pub refused-one : (n m : ℕ) → refused_line n ≡ refused_line m → n ≡ m
refused-one n m e = omega (arith, spell-refused n, spell-refused m, ap (λ (l : List ℕ). spell 0 (drop 8 l)) e)
