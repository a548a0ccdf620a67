-- The contracts of the calls that are lent the cards allow one outcome each. Assumes nothing.
use mathlib.Core.Path.{refl}
use mathlib.Core.List.{List}
use Prim.Native.Nat.{ℕ}
use Rattle.counting.specs.One.{One}
use Rattle.counting.proofs.One.{one-is, one_by}
use Rattle.answers.specs.declared.Answer.{Answer}
use Rattle.moves.specs.Moves.{Outcome, held, outcome_of, OneMove}
use Rattle.moves.specs.Phases.{BudgetedMoves}

-- an answer with the table and the cards
pub carded-one : {allowed : Outcome → Type 0} → One allowed → One (λ ((r, places, cards) : Answer × List ℕ × List ℕ). allowed (outcome_of r places cards))
carded-one = one_by (λ (x : Answer × List ℕ × List ℕ). outcome_of x.0 x.1 x.2) (λ (o : Outcome). (o.answer, o.held.places, o.held.cards)) (λ x. refl)

pub one-move-one : (caps : List ℕ) (b : ℕ) (places cards : List ℕ) (from to : ℕ)
    → One (λ ((r, places', cards') : Answer × List ℕ × List ℕ). OneMove caps b (held places cards) (from, to) (outcome_of r places' cards'))
one-move-one caps b places cards from to = carded-one (one-is _)

pub budgeted-moves-one : (caps : List ℕ) (b : ℕ) (places cards : List ℕ) (k : ℕ)
    → One (λ ((r, places', cards') : Answer × List ℕ × List ℕ). BudgetedMoves caps b (held places cards) k (outcome_of r places' cards'))
budgeted-moves-one caps b places cards k = carded-one (one-is _)
