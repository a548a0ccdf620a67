use mathlib.Core.Path.{◌≡◌}
use lib.ListN.{length}
use Rattle.factors.specs.parts.Walks.{NoSources}
use Rattle.factors.proofs.parts.walks.clear_sources.Given as goal

abbrev pub invariant-loop-d : goal.invariant-loop-d
invariant-loop-d l = NoSources l.d l.sources × (length l.sources ≡ length l.initial.sources)
