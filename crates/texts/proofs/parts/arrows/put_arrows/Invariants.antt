use lib.ListN.{drop}
use Rattle.counting.specs.Lists.{join, each}
use Rattle.carrying.specs.parts.Carrying.{unflat}
use Rattle.texts.specs.Lines.{arrow}
use Rattle.texts.proofs.Writing.{Left}
use Rattle.texts.proofs.parts.arrows.put_arrows.Given as goal

abbrev pub invariant-loop-i : goal.invariant-loop-i
invariant-loop-i l = Left (join (each arrow (drop l.i (unflat l.pairs)))) l.out l.next (join (each arrow (unflat l.pairs))) l.initial.out l.at
