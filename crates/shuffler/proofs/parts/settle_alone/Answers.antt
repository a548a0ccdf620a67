use mathlib.Core.Path.{refl, ap}
use Rattle.answers.specs.declared.Tally.{Tally}
use Rattle.factors.proofs.Sourced.{made_none}
use Rattle.shuffler.proofs.parts.settle_alone.Goals as goal

pub settle-requires : goal.settle-requires
settle-requires c =
    (c.requires.0, c.requires.1, made_none _ c.requires.0.small _ refl, c.requires.2, c.requires.3, ap (λ (t : Tally). t.copies) c.none-none.ensures)

pub returns : goal.returns
returns c = rw c.none-none.ensures at c.settle.ensures
