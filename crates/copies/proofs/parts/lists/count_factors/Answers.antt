use Rattle.copies.proofs.Progress.{counting-start, counting-room, counting_more, counting-end, few-copies}
use Rattle.factors.specs.parts.Walks.{COUNTED, LISTED}
use Rattle.factors.proofs.Marks.{unmarked-other}
use mathlib.Core.Path.{◌∙◌}
use native.Mathlib.Omega.{arith}
use Rattle.copies.proofs.parts.lists.count_factors.Goals as goal

pub loop-k-init : goal.loop-k-init
loop-k-init c = counting-start _ _ _

pub count_slot-at-requires : goal.count_slot-at-requires
count_slot-at-requires c =
    let l = c.loop-k in (
      c.requires.0,
      c.requires.1,
      omega arith,
      l.invariant.progress.marks.long ∙ c.requires.2.long,
      omega (arith, counting-room c.args.places.now COUNTED l.k l.at c.args.seen.now l.seen l.invariant c.requires.2 (omega arith), few-copies c.requires.0),
    )

pub loop-k-preserved : goal.loop-k-preserved
loop-k-preserved c =
    let l = c.loop-k in
    counting_more _ _ l.k _ _ _ l.invariant c.requires.2 (omega arith) _ _ c.count_slot-at.ensures

pub returns : goal.returns
returns c =
    let l = c.loop-k in
    record {
      count = counting-end _ _ l.k _ _ _ l.invariant (omega arith);
      marks = unmarked-other LISTED COUNTED (λ e. omega arith) _ _ _ c.requires.3 l.invariant.progress.marks;
    }
