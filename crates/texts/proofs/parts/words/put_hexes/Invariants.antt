use lib.ListN.{drop}
use Rattle.counting.specs.Lists.{join, each}
use Rattle.texts.specs.Text.{hex}
use Rattle.texts.proofs.Writing.{Left}
use Rattle.texts.proofs.parts.words.put_hexes.Given as goal

abbrev pub invariant-loop-x : goal.invariant-loop-x
invariant-loop-x l = Left (join (each hex (drop l.x-index l.bytes))) l.out l.next (join (each hex l.bytes)) l.initial.out l.at
