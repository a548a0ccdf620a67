-- Copies made one after another, whatever one of them does. Assumes nothing: these are definitions.
use Rattle.std.specs.Prelude.{List, [], ◌∷◌, ℕ, ◌+◌}
use Rattle.counting.specs.Lists.{Pair}

-- the list after copies, each in turn, the first of them copy number `at`
unfoldable pub made : {A : Type 0} → (ℕ → ℕ → ℕ → List A → List A) → ℕ → List Pair → List A → List A
made step at [] list = list
made step at (c ∷ cs) list = made step (at + 1) cs (step at c.0 c.1 list)
