use Rattle.moves.specs.Moves.{held}
use Rattle.budgets.proofs.PhaseRuns.{made-slots, made_counted, made-notable, phase-run}
use Rattle.budgets.proofs.parts.run_phase.Goals as goal

pub carry-after-requires : goal.carry-after-requires
carry-after-requires c = let m = c.min-made.ensures in
    let p = c.plan_phase-planned.ensures in
    record {
      sized = c.requires.sized;
      slots = made-slots c.args.ends.now c.args.b c.args.k c.args.tally (held c.args.places.now c.args.cards.now) c.args.racking.now c.args.line.now c.args.bits.now c.args.log.now _ _ _ _ _ c.requires p m;
      counted = made_counted c.args.ends.now c.args.b c.args.k c.args.tally (held c.args.places.now c.args.cards.now) c.args.racking.now c.args.line.now c.args.bits.now c.args.log.now _ _ _ _ _ c.requires p m;
    }

pub note_moves-requires : goal.note_moves-requires
note_moves-requires c = let m = c.min-made.ensures in
    let p = c.plan_phase-planned.ensures in
    made-notable c.args.ends.now c.args.b c.args.k c.args.tally (held c.args.places.now c.args.cards.now) c.args.racking.now c.args.line.now c.args.bits.now c.args.log.now _ _ _ _ _ c.requires p m

pub returns : goal.returns
returns c = let m = c.min-made.ensures in
    let p = c.plan_phase-planned.ensures in
    phase-run c.args.ends.now c.args.b c.args.k c.args.tally (held c.args.places.now c.args.cards.now) c.args.racking.now c.args.line.now c.args.bits.now c.args.log.now _ _ _ _ _ c.requires p m c.carry-after.ensures c.note_moves.ensures
