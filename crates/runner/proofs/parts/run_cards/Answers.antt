use Rattle.racks.specs.Job.{racks_of}
use Rattle.moves.specs.Moves.{held}
use Rattle.factors.proofs.Marks.{racking-counted}
use Rattle.gathering.proofs.Ending.{ends-chained, ends-long, ends-none, ends-ran}
use Rattle.runner.proofs.parts.run_cards.Goals as goal

pub settle-requires : goal.settle-requires
settle-requires c =
    let o = c.requires.0 in
    let h = held c.args.places.now c.args.cards.now in
    let m = c.make_phases-made in (
      ends-chained (racks_of c.args.job) c.args.b h o.legal c.requires.1 o.sound.small c.requires.2 (held _ _) _ _ m.ensures,
      racking-counted o _ m.auto.places,
      c.clear_sources.ensures,
      c.requires.3,
      ends-long (racks_of c.args.job) c.args.b h o.legal c.requires.1 o.sound.small c.requires.2 (held _ _) _ _ m.ensures,
      ends-none (racks_of c.args.job) c.args.b h o.legal c.requires.1 o.sound.small c.requires.2 (held _ _) _ _ m.ensures,
    )

pub returns : goal.returns
returns c =
    let o = c.requires.0 in
    ends-ran (racks_of c.args.job) c.args.b (held c.args.places.now c.args.cards.now) o.legal c.requires.1 o.sound.small c.requires.2 (held _ _) _ _ c.make_phases-made.ensures _ _ _ c.settle.ensures
