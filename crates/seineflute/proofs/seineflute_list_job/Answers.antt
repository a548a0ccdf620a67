-- `seineflute::seineflute_list_job` meets its contract. Assumes nothing.
use mathlib.Core.Path.{ap, ◌∙◌}
use Rattle.answers.specs.Answers.{sized_of}
use Rattle.answers.specs.Answers.{SizeAnswer}
use Rattle.seineflute.proofs.seineflute_list_job.Goals as goal

pub returns : goal.returns
returns c = ap (λ (a : SizeAnswer). sized_of a c.list_job.new.out) c.from.ensures ∙ c.list_job.ensures
