use Rattle.counting.specs.Lists.{join, tabulate}
use Rattle.texts.specs.Lines.{card_text}
use Rattle.texts.specs.parts.Writing.{Wrote}
use Rattle.texts.proofs.parts.lines.put_slots.Given as goal

abbrev pub invariant-loop-g : goal.invariant-loop-g
invariant-loop-g l =
    Wrote (join (tabulate l.g (card_text l.b l.cards))) l.initial.out l.at l.out l.next
