use mathlib.Core.Path.{◌≡◌, ap}
use native.Mathlib.Omega.{arith}
use lib.ListN.{length}
use Rattle.answers.specs.declared.Tally.{Tally}
use Rattle.factors.specs.Copies.{copy_list}
use Rattle.copies.proofs.Progress.{few-copies}
use Rattle.runtexts.proofs.Texts.{copies-long, copies-read}
use Rattle.runtexts.proofs.parts.jobs.put_copy_list.Goals as goal
use Rattle.runtexts.proofs.parts.jobs.put_copy_list.Goals.{After-list_copies-tally}

-- the tally has the copies of the list
count : (c : After-list_copies-tally) → c.list_copies-tally.result.copies ≡ length (copy_list c.args.places.now)
count c = omega (arith, ap (λ (t : Tally). t.copies) c.list_copies-tally.ensures.counts, ap (λ (t : Tally). t.copies) c.none-none.ensures)

pub overflow_mul-tally : goal.overflow_mul-tally
overflow_mul-tally c = omega (arith, count (goal.at.overflow_mul-tally c).After-list_copies-tally, few-copies c.requires.0)

pub slice_bounds-put_copies-end : goal.slice_bounds-put_copies-end
slice_bounds-put_copies-end c = omega (arith, count (goal.at.slice_bounds-put_copies-end c).After-list_copies-tally, copies-long c.args.places.now _ _ c.requires.2 c.list_copies-tally.ensures.copies, c.requires.2)

pub put_copies-requires : goal.put_copies-requires
put_copies-requires c =
    rw (copies-read c.args.places.now _ _ c.requires.2 c.list_copies-tally.ensures.copies _ (count (goal.at.put_copies-requires c).After-list_copies-tally)) c.requires.3

pub returns : goal.returns
returns c =
    let e = c.list_copies-tally.ensures in
    record {
      text = rw (copies-read c.args.places.now _ _ c.requires.2 e.copies _ (count (goal.at.returns c).After-list_copies-tally)) at c.put_copies.ensures;
      marks = e.marks;
    }
