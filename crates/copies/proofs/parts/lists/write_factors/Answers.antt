use Rattle.copies.proofs.Progress.{adding-room, listing_start, listing-more, listing-end, few-copies}
use Rattle.copies.proofs.Writing.{put-long}
use Rattle.factors.specs.parts.Walks.{LISTED}
use mathlib.Core.Path.{refl, ◌∙◌}
use native.Mathlib.Omega.{arith}
use Rattle.copies.proofs.parts.lists.write_factors.Goals as goal

pub loop-k-init : goal.loop-k-init
loop-k-init c = (refl, listing_start _ _ _ _ _)

pub write_slot-sum-requires : goal.write_slot-sum-requires
write_slot-sum-requires c =
    let l = c.loop-k in
    let r = adding-room c.args.places.now LISTED l.k c.args.seen.now l.seen _ _ l.sum l.invariant.1.adding c.requires.2 (omega arith) c.requires.4 in (
      c.requires.0,
      c.requires.1,
      omega arith,
      l.invariant.1.adding.progress.marks.long ∙ c.requires.2.long,
      omega (arith, r, few-copies c.requires.0),
      omega (arith, r, c.requires.3, l.invariant.0),
    )

pub loop-k-preserved : goal.loop-k-preserved
loop-k-preserved c =
    let l = c.loop-k in
    let w = c.write_slot-sum.ensures in
    (put-long _ _ _ _ w.list-is ∙ l.invariant.0, listing-more _ _ l.k _ _ _ _ _ _ l.invariant.1 c.requires.2 c.requires.4 (omega arith) _ _ _ w)

pub returns : goal.returns
returns c = listing-end _ c.loop-k.k _ _ _ _ _ _ c.loop-k.invariant.1 (omega arith)
