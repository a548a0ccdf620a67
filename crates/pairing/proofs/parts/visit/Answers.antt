use native.Mathlib.Omega.{arith}
use Rattle.racks.specs.Job.{start_in}
use Rattle.queues.proofs.Opens.{open-few}
use Rattle.pairing.proofs.Pairing.{visit-made, visit-done}
use Rattle.pairing.proofs.parts.visit.Goals as goal

pub overflow_cast-room : goal.overflow_cast-room
overflow_cast-room c = omega (arith, c.requires.3.roomy, open-few c.args.bits.now (start_in c.args.ends.now c.args.p) 4096)

pub plan_rack-requires : goal.plan_rack-requires
plan_rack-requires c = let v = c.requires.3 in
    let m = c.min-made.ensures in
    let e = visit-made c.args.ends.now c.args.line.now c.args.bits.now c.args.p c.min-made.result m in
    let f = c.first_slot-low.ensures in
    record {
      head_le_end = (omega arith, omega (arith, v.queued, v.within), c.requires.0, omega (arith, f, v.low_in), c.requires.2);
      end_bound = (rw f (omega (arith, v.roomy)), omega (arith, c.requires.4));
    }

pub overflow_cast-line-2 : goal.overflow_cast-line-2
overflow_cast-line-2 c = omega (arith, c.requires.3.roomy, open-few c.args.bits.now (start_in c.args.ends.now c.args.p) 4096)

pub returns : goal.returns
returns c = visit-done c.args.ends.now c.args.line.now c.args.bits.now c.args.p _ c.min-made.ensures _ _ _ c.first_slot-low.ensures c.plan_rack.ensures
