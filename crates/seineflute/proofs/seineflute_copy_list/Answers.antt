-- `seineflute::seineflute_copy_list` meets its contract. Assumes nothing.
use mathlib.Core.Path.{ap, ◌∙◌}
use Rattle.answers.specs.Answers.{listed_of}
use Rattle.answers.specs.declared.Answer.{Answer}
use Rattle.seineflute.proofs.seineflute_copy_list.Goals as goal

pub returns : goal.returns
returns c = ap (λ (a : Answer). listed_of a c.copy_list.new.lent) c.from.ensures ∙ c.copy_list.ensures
