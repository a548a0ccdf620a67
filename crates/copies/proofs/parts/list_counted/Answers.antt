use Rattle.copies.proofs.Copied.{fits-room, here-short, here-done}
use Rattle.factors.proofs.Sourced.{made_none}
use Rattle.answers.specs.declared.Tally.{Tally}
use mathlib.Core.Path.{refl, sym, ap, ◌∙◌}
use Rattle.copies.proofs.parts.list_counted.Goals as goal

pub fill_sources-requires : goal.fill_sources-requires
fill_sources-requires c = (c.requires.0, made_none _ c.requires.0.small _ refl)

pub returns-then-not-has_room : goal.returns-then-not-has_room
returns-then-not-has_room c = here-short c.args.places.now c.args.lent.now (sym c.has_room.ensures.room ∙ c.if-not-has_room.true)

pub write_factors-requires : goal.write_factors-requires
write_factors-requires c =
    let r = c.has_room.ensures in (
      c.requires.0,
      c.fill_sources.ensures,
      r.marks,
      fits-room c.args.places.now c.args.lent.now (sym r.room ∙ c.if-not-has_room.false),
      ap (λ (t : Tally). t.copies) c.none-none.ensures,
    )

pub returns : goal.returns
returns c =
    here-done c.args.places.now c.args.lent.now (sym c.has_room.ensures.room ∙ c.if-not-has_room.false) _ _ _ _ _ c.none-none.ensures c.write_factors.ensures
