use Rattle.factors.proofs.Sourced.{made_none}
use mathlib.Core.Path.{refl}
use Rattle.copies.proofs.parts.list_copies.Goals as goal

pub fill_sources-requires : goal.fill_sources-requires
fill_sources-requires c = (c.requires.0, made_none _ c.requires.0.small _ refl)
