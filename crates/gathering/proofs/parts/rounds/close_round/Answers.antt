use native.Mathlib.Omega.{arith}
use Prim.Native.Nat.{◌*◌}
use Rattle.carrying.proofs.Flat.{pairs-part}
use Rattle.gathering.proofs.parts.rounds.close_round.Goals as goal

pub pay_moves-requires : goal.pay_moves-requires
pay_moves-requires c =
    let part = pairs-part c.args.log.now (2 * c.args.before.moves) (2 * c.args.made.moves) (omega (arith, c.requires.order)) in
    record {
      sized = (c.requires.owes-long, c.requires.awaits-long);
      payable = (rw part c.requires.owes-pay, rw part c.requires.awaits-pay);
    }

pub returns : goal.returns
returns c =
    let part = pairs-part c.args.log.now (2 * c.args.before.moves) (2 * c.args.made.moves) (omega (arith, c.requires.order)) in
    record {
      moves-paid = rw part at c.pay_moves.ensures;
      end-noted = c.note_end.ensures;
      counted = c.add_phase.ensures;
    }
