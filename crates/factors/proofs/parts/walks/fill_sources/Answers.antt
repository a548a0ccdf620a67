use mathlib.Core.Path.{refl, ◌∙◌}
use native.Mathlib.Omega.{arith}
use Rattle.racks.proofs.Table.{read-dest}
use Rattle.factors.proofs.Sourced.{sources-none, sources-more, sources-all, entry-low, source-place}
use Rattle.factors.proofs.parts.walks.fill_sources.Goals as goal

pub loop-g-init : goal.loop-g-init
loop-g-init c = (refl, sources-none _ _ c.requires.1)

pub put_source-requires : goal.put_source-requires
put_source-requires c =
    (c.loop-g.invariant.1.long, omega (arith, c.requires.0.small), source-place _ (λ q. omega (arith, entry-low c.requires.0 c.loop-g.g (omega arith) q, c.requires.0.small)))

pub loop-g-preserved : goal.loop-g-preserved
loop-g-preserved c =
    let p = c.put_source in
    (p.auto.sources ∙ c.loop-g.invariant.0, sources-more _ c.requires.0.small _ _ _ c.loop-g.invariant.1 (rw (read-dest c.args.places.now c.loop-g.g (omega arith)) at p.ensures))

pub returns : goal.returns
returns c = sources-all _ c.loop-g.g _ (omega arith) c.loop-g.invariant.1
