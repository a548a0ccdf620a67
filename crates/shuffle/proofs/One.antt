-- The contract of this layer's call allows one outcome. Assumes nothing.
use mathlib.Core.List.{List}
use Prim.Native.Nat.{ℕ}
use Rattle.counting.specs.One.{One}
use Rattle.counting.proofs.One.{one-is}
use Rattle.answers.specs.declared.Answer.{Answer}
use Rattle.moves.specs.Moves.{held, outcome_of}
use Rattle.moves.proofs.One.{carded-one}
use Rattle.shuffle.specs.Shuffle.{ShuffleCards}

pub shuffle-cards-one : (caps : List ℕ) (b : ℕ) (places cards : List ℕ)
    → One (λ ((r, places', cards') : Answer × List ℕ × List ℕ). ShuffleCards caps b (held places cards) (outcome_of r places' cards'))
shuffle-cards-one caps b places cards = carded-one (one-is _)
