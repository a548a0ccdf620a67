use Rattle.shuffler.proofs.Settling.{SettledTo}
use mathlib.Core.Path.{◌≡◌}
use lib.ListN.{length}
use Rattle.shuffler.proofs.parts.settle_table.Given as goal

abbrev pub invariant-loop-d : goal.invariant-loop-d
invariant-loop-d l = (length l.sources ≡ length l.initial.sources) × SettledTo l.initial.places l.d l.places l.sources l.n
