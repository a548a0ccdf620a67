-- `seineflute::seineflute_read_file` meets its contract. Assumes nothing.
use mathlib.Core.Path.{ap, ◌∙◌}
use Rattle.jobfile.specs.Answers.{read_of}
use Rattle.parsing.specs.Answers.{FileAnswer}
use Rattle.seineflute.proofs.seineflute_read_file.Goals as goal

pub returns : goal.returns
returns c =
    let file = c.args.file.now in
    ap (λ (a : FileAnswer). read_of a c.read_file.new.caps c.read_file.new.places file) c.from.ensures ∙ c.read_file.ensures
