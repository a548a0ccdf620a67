use native.Mathlib.Omega.{arith}
use mathlib.Core.Path.{refl, ◌∙◌}
use Rattle.std.proofs.lemmas.Result.{err_from_is_err_and}
use Rattle.racks.specs.Job.{racks_of}
use Rattle.racks.proofs.Table.{read-dest}
use Rattle.entries.proofs.Marks.{passed_none, passed-more, bad-5, entries-5, entries-passed, good-5}
use Rattle.entries.proofs.parts.check_marked.Goals as goal

pub loop-g-init : goal.loop-g-init
loop-g-init c = (refl, passed_none _ _ _ c.requires.2)

pub name_entry-requires : goal.name_entry-requires
name_entry-requires c = c.loop-g.invariant.1.long

pub returns-in_err-again : goal.returns-in_err-again
returns-in_err-again c =
    let p = err_from_is_err_and c.from_residual.result c.from_residual.ensures.1 in
    let r = racks_of c.args.job in
    let e = c.in_err-again.ensures in
    let h = c.loop-g.invariant.1 in
    rw (p.1, p.2, e.entry)
    (entries-5 r c.args.places.now c.loop-g.g (omega arith)
    (bad-5 r c.requires.0.small c.args.places.now c.loop-g.g c.loop-g.marks _ h _ _ (rw (read-dest c.args.places.now c.loop-g.g (omega arith)) at e.number) refl) h.clean)

pub loop-g-preserved : goal.loop-g-preserved
loop-g-preserved c =
    let r = racks_of c.args.job in
    let e = c.in_ok-again.ensures in (
      c.name_entry.auto.marks ∙ c.loop-g.invariant.0,
      rw c.first_twice-twice.ensures
          (passed-more r c.requires.0.small c.args.places.now c.loop-g.g c.loop-g.marks _ c.loop-g.invariant.1 _ _ (rw (read-dest c.args.places.now c.loop-g.g (omega arith)) at e.number) (good-5 c.in_ok-again.again)),
    )

pub returns : goal.returns
returns c =
    c.check_twice.ensures ∙ entries-passed (racks_of c.args.job) c.args.places.now c.loop-g.marks _ c.loop-g.g (omega (arith, c.requires.1)) c.loop-g.invariant.1
