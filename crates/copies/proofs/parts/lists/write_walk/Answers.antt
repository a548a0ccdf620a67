use Rattle.factors.proofs.Walked.{count-shift, count-hand, inside-here}
use Rattle.factors.specs.parts.Walks.{walk_count}
use Rattle.copies.proofs.Tallied.{plus-count, plus-shift, plus-hand}
use Rattle.copies.proofs.Writing.{put-made, wrote-shift, wrote-hand, put-long}
use mathlib.Core.Path.{◌≡◌, refl}
use Prim.Native.Nat.{◌+◌}
use native.Mathlib.Omega.{arith}
use Rattle.copies.proofs.parts.lists.write_walk.Goals as goal
use Rattle.copies.proofs.parts.lists.write_walk.Goals.{After-make_chain-shifted}

pub make_chain-requires : goal.make_chain-requires
make_chain-requires c =
    let e = count-shift c.args.left c.args.end c.if-end-eq-FREE.true in
    (c.requires.0, c.requires.1, omega (arith, e), omega (arith, e))

pub returns-then-end-eq-FREE : goal.returns-then-end-eq-FREE
returns-then-end-eq-FREE c =
    let q = c.if-end-eq-FREE.true in
    let w = c.make_chain.ensures in
    record {
      counts = plus-shift _ c.args.left _ q _ w.counts;
      copies = wrote-shift _ _ c.args.left _ q _ _ _ (put-made _ _ _ _ w.copies);
    }

pub put_copy-requires : goal.put_copy-requires
put_copy-requires c =
    let e = count-hand c.args.left c.args.end c.if-end-eq-FREE.false in
    (omega (arith, e), omega (arith, e))

pub make_chain-shifted-requires : goal.make_chain-shifted-requires
make_chain-shifted-requires c =
    let e = count-hand c.args.left c.args.end c.if-end-eq-FREE.false in
    let n = plus-count _ _ 1 c.add_copy-held.ensures in
    (c.requires.0, c.requires.1, omega (arith, e, n, c.requires.2), omega (arith, e, n, c.requires.3, put-long _ _ _ _ c.put_copy.ensures))

-- the copy from the hand is the factor's last
last_one : (c : After-make_chain-shifted) → c.make_chain-shifted.result.copies + 1 ≡ c.args.tally.copies + walk_count c.args.left c.args.end
last_one c =
    omega (arith, count-hand c.args.left c.args.end c.if-end-eq-FREE.false, plus-count _ _ 1 c.add_copy-held.ensures, plus-count _ _ _ c.make_chain-shifted.ensures.counts)

pub overflow_cast-head : goal.overflow_cast-head
overflow_cast-head c = omega (arith, inside-here _ _ _ c.requires.0, c.requires.1)

pub put_copy-requires-2 : goal.put_copy-requires-2
put_copy-requires-2 c =
    let n = last_one (goal.at.put_copy-requires-2 c).After-make_chain-shifted in
    (omega (arith, n, c.requires.2), omega (arith, n, c.requires.3, put-long _ _ _ _ (put-made _ _ _ _ c.make_chain-shifted.ensures.copies), put-long _ _ _ _ c.put_copy.ensures))

pub add_copy-requires : goal.add_copy-requires
add_copy-requires c = omega (arith, last_one (goal.at.add_copy-requires c).After-make_chain-shifted, c.requires.2)

pub returns : goal.returns
returns c =
    let q = c.if-end-eq-FREE.false in
    let h = c.add_copy-held.ensures in
    let w = c.make_chain-shifted.ensures in record {
      counts = plus-hand _ c.args.left _ q _ _ _ h w.counts c.add_copy.ensures;
      copies = wrote-hand _ _ c.args.left _ q _ _ _ _ _ _ _ _ refl (plus-count _ _ 1 h) (plus-count _ _ _ w.counts) c.put_copy.ensures (put-made _ _ _ _ w.copies) c.put_copy-2.ensures;
    }
