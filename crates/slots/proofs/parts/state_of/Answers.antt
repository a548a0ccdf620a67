use native.Mathlib.Omega.{arith}
use Rattle.racks.specs.Job.{racks_of}
use Rattle.racks.proofs.Table.{read-dest}
use Rattle.slots.proofs.Slots.{state-free, state-settled, state-here, state-away}
use Rattle.slots.proofs.parts.state_of.Goals as goal

pub returns-then-x : goal.returns-then-x
returns-then-x c =
    state-free (racks_of c.args.job) c.args.places.now c.args.g _ (read-dest c.args.places.now c.args.g c.requires.1) c.if-x.true

pub overflow_cast-to : goal.overflow_cast-to
overflow_cast-to c = omega (arith, c.shared_slice_known-2-1.given c.args.g)

pub returns-then-to-g : goal.returns-then-to-g
returns-then-to-g c =
    state-settled (racks_of c.args.job) c.args.places.now c.args.g _ (read-dest c.args.places.now c.args.g c.requires.1) c.if-x.false c.if-to-g.true

pub rack_of-there-requires : goal.rack_of-there-requires
rack_of-there-requires c = c.requires.0

pub rack_of-requires : goal.rack_of-requires
rack_of-requires c = c.requires.0

pub returns-then-rack_of-there : goal.returns-then-rack_of-there
returns-then-rack_of-there c =
    state-here (racks_of c.args.job) c.args.places.now c.args.g _ (read-dest c.args.places.now c.args.g c.requires.1) c.if-x.false c.if-to-g.false _ _
    c.rack_of.ensures c.rack_of-there.ensures c.if-rack_of-there.true

pub returns : goal.returns
returns c =
    state-away (racks_of c.args.job) c.args.places.now c.args.g _ (read-dest c.args.places.now c.args.g c.requires.1) c.if-x.false c.if-to-g.false _ _
    c.rack_of.ensures c.rack_of-there.ensures c.if-rack_of-there.false
