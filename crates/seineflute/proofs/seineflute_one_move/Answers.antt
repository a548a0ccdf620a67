-- `seineflute::seineflute_one_move` meets its contract. Assumes nothing.
use mathlib.Core.Path.{ap, ◌∙◌}
use Rattle.answers.specs.declared.Answer.{Answer}
use Rattle.moves.specs.Moves.{outcome_of}
use Rattle.seineflute.proofs.seineflute_one_move.Goals as goal

pub returns : goal.returns
returns c = ap (λ (a : Answer). outcome_of a c.one_move.new.places c.one_move.new.cards) c.from.ensures ∙ c.one_move.ensures
