-- `racks::parts::put` meets its contract. Assumes nothing.
use lib.ListN.{length-set}
use native.Mathlib.Omega.{arith}
use Rattle.racks.proofs.Puts.{sets-more}
use Rattle.racks.proofs.parts.put.Goals as goal

pub loop-i-preserved : goal.loop-i-preserved
loop-i-preserved g c =
    let l = c.loop-i in
    (simp length-set l.invariant.0, rw l.invariant.1 (sets-more c.args.out.now c.args.items.now c.args.at l.i c.index-items-i.result (omega arith) c.index-items-i.is))
