use Rattle.copies.proofs.Progress.{Counting}
use Rattle.factors.specs.parts.Walks.{COUNTED}
use Rattle.copies.proofs.parts.lists.count_factors.Given as goal

abbrev pub invariant-loop-k : goal.invariant-loop-k
invariant-loop-k l = Counting l.places COUNTED l.k l.at l.initial.seen l.seen
