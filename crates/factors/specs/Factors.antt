-- What is said of factors: their lowest slots, which of them are cycles, and which cards are not settled. Assumes nothing: these are definitions.
use Rattle.std.specs.Prelude.{Bool, false, not, List, [], ◌∷◌, ℕ, ◌≤◌, ◌<◌, eqb}
use Rattle.counting.specs.Tests.{◌and◌}
use Rattle.counting.specs.Lists.{last}
use Rattle.counting.specs.Every.{In}
use Rattle.racks.specs.Limits.{FREE}
use Rattle.racks.specs.Table.{dest, free, settled}

-- k is the lowest slot of a factor
pub record Lowest (k : ℕ) (slots : List ℕ) : Type 0 where
  pub member : In k slots
  pub least : (v : ℕ) → In v slots → k ≤ v

-- a factor that comes later has a higher lowest slot
abbrev pub Before : List ℕ → List ℕ → Type 0
Before a b = (j k : ℕ) → Lowest j a → Lowest k b → j < k

-- slot g has a card that is not settled
unfoldable pub unsettled : List ℕ → ℕ → Bool
unsettled places g = not (free places g) and not (settled places g)

-- a factor is a cycle, of two slots or more
unfoldable pub turning : List ℕ → List ℕ → Bool
turning places [] = false
turning places (x ∷ []) = false
turning places (x ∷ y ∷ l) = not (eqb (dest places (last y l)) FREE)
