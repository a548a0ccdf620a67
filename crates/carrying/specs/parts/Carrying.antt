-- Moves in a list of numbers, and what carrying them does. Assumes nothing: these are definitions.
use Rattle.std.specs.Prelude.{◌≡◌, List, [], ◌∷◌, ℕ, ◌<◌, length}
use Rattle.std.proofs.Math.Seq.{slice}
use Rattle.counting.specs.Lists.{Pair}
use Rattle.counting.specs.Every.{All}
use Rattle.answers.specs.Answers.{plus_moves}
use Rattle.answers.specs.declared.Tally.{Tally}
use Rattle.moves.specs.Moves.{Held, carried}

-- moves carried, and each of them added to the tally
pub record Carried (b : ℕ) (ms : List Pair) (h : Held) (t : Tally) (h' : Held) (t' : Tally) : Type 0 where
  pub held-is : h' ≡ carried b ms h
  pub tally-is : t' ≡ plus_moves (length ms) t

-- the pairs of a list of numbers, two for each: undoes `flat`; a last number with no partner is left out
unfoldable pub unflat : List ℕ → List Pair
unflat [] = []
unflat (f ∷ []) = []
unflat (f ∷ (t ∷ rest)) = (f, t) ∷ unflat rest

-- the pairs that stand from index `low` up to `high`
unfoldable pub pairs_in : List ℕ → ℕ → ℕ → List Pair
pairs_in list low high = unflat (slice low high list)

-- both ends of a move are slots, of which there are n
pub record Slots (n : ℕ) (m : Pair) : Type 0 where
  pub from_lt : m.0 < n
  pub to_lt : m.1 < n

-- both ends of each move are slots
abbrev pub AllSlots : ℕ → List Pair → Type 0
AllSlots n ms = All (Slots n) ms
