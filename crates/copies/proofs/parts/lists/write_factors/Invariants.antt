use Rattle.copies.proofs.Progress.{Listing}
use Rattle.factors.specs.parts.Walks.{LISTED}
use mathlib.Core.Path.{◌≡◌}
use lib.ListN.{length}
use Rattle.copies.proofs.parts.lists.write_factors.Given as goal

abbrev pub invariant-loop-k : goal.invariant-loop-k
invariant-loop-k l = (length l.list ≡ length l.initial.list) × Listing l.places LISTED l.k l.initial.seen l.seen l.initial.list l.list l.initial.sum l.sum
