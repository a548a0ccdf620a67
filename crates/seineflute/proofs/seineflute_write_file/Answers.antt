-- `seineflute::seineflute_write_file` meets its contract. Assumes nothing.
use mathlib.Core.Path.{ap, ◌∙◌}
use Rattle.answers.specs.Answers.{sized_of}
use Rattle.answers.specs.Answers.{SizeAnswer}
use Rattle.seineflute.proofs.seineflute_write_file.Goals as goal

pub returns : goal.returns
returns c = ap (λ (a : SizeAnswer). sized_of a c.write_file.new.out) c.from.ensures ∙ c.write_file.ensures
