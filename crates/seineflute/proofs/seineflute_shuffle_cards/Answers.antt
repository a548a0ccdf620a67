-- `seineflute::seineflute_shuffle_cards` meets its contract. Assumes nothing.
use mathlib.Core.Path.{ap, ◌∙◌}
use Rattle.answers.specs.declared.Answer.{Answer}
use Rattle.moves.specs.Moves.{outcome_of}
use Rattle.seineflute.proofs.seineflute_shuffle_cards.Goals as goal

pub returns : goal.returns
returns c = ap (λ (a : Answer). outcome_of a c.shuffle_cards.new.places c.shuffle_cards.new.cards) c.from.ensures ∙ c.shuffle_cards.ensures
