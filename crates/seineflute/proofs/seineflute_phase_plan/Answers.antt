-- `seineflute::seineflute_phase_plan` meets its contract. Assumes nothing.
use mathlib.Core.Path.{ap, ◌∙◌}
use Rattle.answers.specs.Answers.{listed_of}
use Rattle.answers.specs.declared.Answer.{Answer}
use Rattle.seineflute.proofs.seineflute_phase_plan.Goals as goal

pub returns : goal.returns
returns c = ap (λ (a : Answer). listed_of a c.phase_plan.new.lent) c.from.ensures ∙ c.phase_plan.ensures
