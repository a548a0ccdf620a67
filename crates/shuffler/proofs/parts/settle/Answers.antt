use Rattle.hands.proofs.Copying.{all-brought}
use mathlib.Core.Path.{◌∙◌}
use Rattle.shuffler.proofs.parts.settle.Goals as goal

pub settle_slots-requires : goal.settle_slots-requires
settle_slots-requires c =
    (c.requires.0, c.fill_sources.ensures, c.bring_factors-counted.ensures.size ∙ c.requires.4)

pub returns : goal.returns
returns c =
    let w = c.bring_factors-counted.ensures in
    record {
      count-is = w.count-is;
      settled = rw (all-brought c.args.b c.args.places.now c.args.cards.now _ c.args.tally _ c.requires.3 w) at c.settle_slots.ensures;
    }
