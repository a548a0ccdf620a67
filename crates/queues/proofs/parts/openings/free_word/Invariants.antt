use mathlib.Core.Path.{◌≡◌}
use lib.ListN.{length, take}
use Rattle.queues.specs.parts.Openings.{Word}
use Rattle.queues.proofs.parts.openings.free_word.Given as goal

abbrev pub invariant-loop-entry : goal.invariant-loop-entry
invariant-loop-entry l =
    (l.entry-iterator.iter.rest.now ≡ take (length l.entry-iterator.iter.rest.now) l.slots) × Word l.slots (length l.entry-iterator.iter.rest.now) (length l.slots) l.word
