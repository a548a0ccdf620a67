-- `seineflute::seineflute_whole_run` meets its contract. Assumes nothing.
use mathlib.Core.Path.{ap, ◌∙◌}
use Rattle.answers.specs.declared.Answer.{Answer}
use Rattle.moves.specs.Moves.{outcome_of}
use Rattle.seineflute.proofs.seineflute_whole_run.Goals as goal

pub returns : goal.returns
returns c = ap (λ (a : Answer). outcome_of a c.whole_run.new.places c.whole_run.new.cards) c.from.ensures ∙ c.whole_run.ensures
