-- `jobfile::step_at` meets its contract. Assumes nothing.
use mathlib.Core.Path.{refl, sym, ap, ◌∙◌}
use Rattle.std.specs.Prelude.{Result}
use Rattle.answers.specs.declared.Refusal as given
use Rattle.numerals.specs.Numeral.{got_of}
use Rattle.numerals.specs.declared.Numeral.{Numeral}
use Rattle.jobfile.specs.Reading.{at_after}
use Rattle.jobfile.proofs.step_at.Goals as goal

pub returns-in-Ok : goal.returns-in-Ok
unfolding at_after
returns-in-Ok c = record { got-is = sym (ap got_of c.in-Ok.is) ∙ c.next_numeral-numeral.ensures; at-is = refl }

pub returns-in-Err : goal.returns-in-Err
unfolding at_after
returns-in-Err c =
    record { got-is = c.next_numeral-numeral.ensures; at-is = sym (ap (λ (r : Result Numeral given.Refusal). at_after r c.args.at) c.in-Err.is) }
