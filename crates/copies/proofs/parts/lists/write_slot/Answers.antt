use Rattle.copies.proofs.Progress.{written_none, added-due, due-copies, due-count}
use Rattle.copies.specs.parts.Writes.{put_copies}
use Rattle.factors.specs.parts.Walks.{LISTED}
use mathlib.Core.Path.{sym, ap, ◌∙◌}
use native.Mathlib.Omega.{arith}
use Rattle.copies.proofs.parts.lists.write_slot.Goals as goal

pub returns-then-seen-k-eq-LISTED : goal.returns-then-seen-k-eq-LISTED
returns-then-seen-k-eq-LISTED c = written_none _ _ _ _ _ _ c.if-seen-k-eq-LISTED.true

pub write_walk-requires : goal.write_walk-requires
write_walk-requires c =
    let w = c.walk_factor-w in
    let n = due-count c.args.places.now c.args.seen.now LISTED c.args.k c.if-seen-k-eq-LISTED.false w.result.head w.result.left w.result.end _ w.ensures in
    (w.ensures.inside, c.requires.0.small, omega (arith, n, c.requires.4), omega (arith, n, c.requires.5))

pub returns : goal.returns
returns c =
    let w = c.walk_factor-w in
    let r = c.write_walk in
    let q = c.if-seen-k-eq-LISTED.false in
    record {
      added = added-due c.args.places.now c.args.seen.now LISTED c.args.k q w.result.head w.result.left w.result.end _ w.ensures c.args.tally _ r.ensures.counts;
      list-is = r.ensures.copies ∙ ap (put_copies c.args.list.now c.args.tally.copies) (sym (due-copies c.args.places.now c.args.seen.now LISTED c.args.k q w.result.head w.result.left w.result.end _ w.ensures));
    }
