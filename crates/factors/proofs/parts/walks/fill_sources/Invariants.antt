use mathlib.Core.Path.{◌≡◌}
use lib.ListN.{length}
use Rattle.factors.proofs.Sourced.{SourcesTo}
use Rattle.factors.proofs.parts.walks.fill_sources.Given as goal

abbrev pub invariant-loop-g : goal.invariant-loop-g
invariant-loop-g l = (length l.sources ≡ length l.initial.sources) × SourcesTo l.places l.g l.sources
