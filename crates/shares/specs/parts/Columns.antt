-- Columns of a list of pairs laid flat: their first numbers, or their second ones. Assumes nothing: these are definitions.
use Rattle.std.specs.Prelude.{List, ℕ, zero, suc}
use Rattle.counting.specs.Lists.{column}

-- the list with numbers for each p below n in one of its columns: those of p from pair starts p on
unfoldable pub columns : ℕ → ℕ → (ℕ → ℕ) → (ℕ → List ℕ) → List ℕ → List ℕ
columns side zero starts numbers l = l
columns side (suc n) starts numbers l = column side (columns side n starts numbers l) (starts n) (numbers n)
