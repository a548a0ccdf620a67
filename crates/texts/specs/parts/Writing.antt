-- What the functions that write text into a lent buffer promise. Assumes nothing: these are definitions.
use Rattle.std.specs.Prelude.{◌≡◌, List, ℕ, ◌+◌, ◌≤◌, length}
use Rattle.std.proofs.lemmas.List.Edits.{sets}

-- the words fit into the buffer from `at` on
abbrev pub Reaches : List ℕ → ℕ → List ℕ → Type 0
Reaches words at out = at + length words ≤ length out

-- the words stand in the buffer from `at` on, all else is unchanged, and r is the position behind them
pub record Wrote (words before : List ℕ) (at : ℕ) (after : List ℕ) (r : ℕ) : Type 0 where
  pub stored : after ≡ sets before at words
  pub behind : r ≡ at + length words
