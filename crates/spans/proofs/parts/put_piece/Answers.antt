use native.Mathlib.Omega.{arith}
use Rattle.spans.proofs.Spans.{lowest-within, piece-enough, piece-few, piece-many}
use Rattle.spans.proofs.parts.put_piece.Goals as goal
use Rattle.spans.proofs.parts.put_piece.Goals.{then-here-eq1, else-here-eq1}
use mathlib.Core.Bool.{Bool}
use mathlib.Core.Path.{◌≡◌}
use Prim.Native.Nat.{◌+◌, ◌*◌}
use lib.Dec.{eqb}
use lib.ListN.{get_or}
use borrow.Author.Tests.{eq-eqb, ne_eqb}
use Rattle.counting.specs.Tests.{pick}

pub overflow_cast-lent : goal.overflow_cast-lent
overflow_cast-lent c = omega (arith, c.requires.0.within, c.requires.0.small, lowest-within _ _ _ _ _ c.look-here.ensures)

pub returns-then-here-lt2 : goal.returns-then-here-lt2
returns-then-here-lt2 c =
    let one : Bool = eqb c.look-here.result.count 1 in
    let e : c.if-here-eq1.lent ≡ pick one (c.args.low + c.look-here.result.lowest) (get_or c.args.lent.now (2 * c.args.k) 0) = elim c.if-here-eq1.branch [
      | then-here-eq1 w ↦ rw (eq-eqb _ _ w.if-here-eq1.true) w.lent-is
      | else-here-eq1 w ↦ rw (ne_eqb _ _ w.if-here-eq1.false) w.lent-is
    ] in
    piece-few _ _ _ _ _ c.look-here.ensures _ _ _ c.requires.1 (omega arith) _ e

pub put_hits-requires : goal.put_hits-requires
put_hits-requires c =
    let w = lowest-within _ _ _ _ _ c.look-here.ensures in
    let m = c.min-end.ensures in record {
      low_in_bounds = (omega (arith, w, c.requires.0.within), omega (arith, c.requires.0.small), c.requires.0.fits, omega arith, omega (arith, m, c.requires.1), omega (arith, m, c.requires.0.room));
      k_in_bounds = piece-enough _ _ _ _ _ c.look-here.ensures c.requires.0.within _ (omega (arith, m));
    }

pub returns : goal.returns
returns c =
    piece-many _ _ _ _ _ c.look-here.ensures _ _ _ c.requires.1 _ c.min-end.ensures c.requires.0.within _ c.put_hits.ensures
