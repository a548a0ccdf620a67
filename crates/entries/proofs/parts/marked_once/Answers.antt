use native.Mathlib.Omega.{arith}
use Prim.Native.Nat.{ℕ}
use mathlib.Core.Path.{ap, ◌∙◌}
use lib.ListN.{get_or}
use Rattle.counting.proofs.Tests.{and-code}
use Rattle.racks.specs.Job.{racks_of}
use Rattle.racks.proofs.Jobs.{slots-few, sound-slots}
use Rattle.racks.proofs.Table.{read-dest}
use Rattle.entries.specs.parts.Once.{mark_at}
use Rattle.entries.proofs.Once.{once-none, once_more, once-all, mark-at_in}
use Rattle.entries.proofs.parts.marked_once.Goals as goal

pub loop-g-init : goal.loop-g-init
loop-g-init c = once-none _ _ _ c.requires.2

pub mark_at-at-requires : goal.mark_at-at-requires
mark_at-at-requires c =
    let f = slots-few _ c.requires.0 in
    (f, omega arith)

pub take_mark-fits-requires : goal.take_mark-fits-requires
take_mark-fits-requires c =
    let f = slots-few _ c.requires.0 in
    (rw c.mark_at-at.ensures (mark-at_in _ _ _ f (omega arith)), c.loop-g.invariant.long)

pub loop-g-preserved : goal.loop-g-preserved
loop-g-preserved c =
    let at = c.mark_at-at in
    rw (and-code c.loop-g.all c.take_mark-fits.result)
    (once_more (racks_of c.args.job) c.requires.0.small c.args.places.now c.loop-g.marks c.loop-g.all c.loop-g.g c.loop-g.invariant _
    (at.ensures ∙ ap (λ (n : ℕ). mark_at n c.loop-g.g (get_or c.args.places.now c.loop-g.g 0)) (sound-slots _ c.requires.0) ∙ ap (mark_at _ _) (read-dest c.args.places.now c.loop-g.g (omega arith))) _ _ c.take_mark-fits.ensures)

pub returns : goal.returns
returns c = record {
  clear = once-all (racks_of c.args.job) c.args.places.now c.loop-g.marks c.loop-g.all c.loop-g.g (omega arith) c.loop-g.invariant;
  long = c.loop-g.invariant.long;
}
