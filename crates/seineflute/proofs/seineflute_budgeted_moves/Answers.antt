-- `seineflute::seineflute_budgeted_moves` meets its contract. Assumes nothing.
use mathlib.Core.Path.{ap, ◌∙◌}
use Rattle.answers.specs.declared.Answer.{Answer}
use Rattle.moves.specs.Moves.{outcome_of}
use Rattle.seineflute.proofs.seineflute_budgeted_moves.Goals as goal

pub returns : goal.returns
returns c = ap (λ (a : Answer). outcome_of a c.budgeted_moves.new.places c.budgeted_moves.new.cards) c.from.ensures ∙ c.budgeted_moves.ensures
