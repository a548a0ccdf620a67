-- Rows of the rules' table: numbers with their conditions, in order, and what "given exactly when" says of them. Assumes nothing: these are definitions.
use Rattle.std.specs.Prelude.{◌≡◌, ◌≢◌, ◌↔◌, ◌⊎◌, List, [], ◌∷◌, ◌++◌, ℕ}

-- a row: a number, and its condition
abbrev pub Row : Type 1
Row = ℕ × Type 0

-- no condition holds
unfoldable pub None : List Row → Type 0
None [] = Unit
None (r ∷ rows) = (¬ r.1) × None rows

-- a condition of number n holds, and no earlier one
unfoldable pub Holds : ℕ → List Row → Type 0
Holds n [] = ⊥
Holds n (r ∷ rows) = ((n ≡ r.0) × r.1) ⊎ ((¬ r.1) × Holds n rows)

-- no row has the number 0
unfoldable pub Numbered : List Row → Type 0
Numbered [] = Unit
Numbered (r ∷ rows) = (r.0 ≢ 0) × Numbered rows

-- the number is n exactly when condition n holds and no earlier one, and 0 exactly when none holds
pub record Given (number : ℕ) (rows : List Row) : Type 0 where
  pub refused : (n : ℕ) → n ≢ 0 → (number ≡ n) ↔ Holds n rows
  pub done : (number ≡ 0) ↔ None rows
  pub numbered : Numbered rows

infixr 20 ◌then◌
-- these rows, and after them those
abbrev pub ◌then◌ : List Row → List Row → List Row
rows then more = rows ++ more
