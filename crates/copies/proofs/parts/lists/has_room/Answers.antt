use Rattle.copies.proofs.Copied.{fits-long, fits-count}
use Rattle.copies.proofs.Progress.{few-copies}
use native.Mathlib.Omega.{arith}
use Rattle.copies.proofs.parts.lists.has_room.Goals as goal

pub returns-then-places-room : goal.returns-then-places-room
returns-then-places-room c =
    record {
      room = fits-long c.requires.0 c.args.room c.if-places-room.true;
      marks = c.requires.3;
    }

pub overflow_mul-result : goal.overflow_mul-result
overflow_mul-result c = omega (arith, c.count_factors.ensures.count, few-copies c.requires.0)

pub returns : goal.returns
returns c =
    let n = c.count_factors in
    record {
      room = fits-count c.args.places.now c.args.room n.result n.ensures.count;
      marks = n.ensures.marks;
    }
