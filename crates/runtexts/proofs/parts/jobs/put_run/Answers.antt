use native.Mathlib.Omega.{arith}
use Rattle.moves.specs.Moves.{held}
use Rattle.factors.specs.parts.Walks.{COUNTED, LISTED}
use Rattle.factors.proofs.Marks.{racking-counted, racking-listed, unmarked-other}
use Rattle.runtexts.proofs.Texts.{Runs, runs-first, put_readable, read-room, put-chained, put-long, put-none, put-fits, copies-room, last-long, cards-room, end-room, run-wrote}
use Rattle.racks.specs.Job.{racks_of}
use Rattle.runtexts.proofs.parts.jobs.put_run.Goals as goal
use Rattle.runtexts.proofs.parts.jobs.put_run.Goals.{Start}

-- a legal job, and room for the text of its run
runs : (c : Start) → Runs (racks_of c.args.job) c.args.b (held c.args.places.now c.args.cards.now) c.args.out.now
runs c = runs-first c.requires.0 c.requires.1 c.requires.2 c.requires.4

pub put_phases-next-requires : goal.put_phases-next-requires
put_phases-next-requires c =
    let r = runs (goal.at.put_phases-next-requires c).Start in
    let p = c.make_phases-made.ensures in
    (put_readable r p (omega arith), read-room r p (omega arith))

pub put_copy_list-next-requires : goal.put_copy_list-next-requires
put_copy_list-next-requires c =
    let r = runs (goal.at.put_copy_list-next-requires c).Start in
    let m = c.make_phases-made in
    let p = m.ensures in
    (put-chained r p, racking-listed c.requires.0 _ m.auto.places, omega (arith, put-fits r p), copies-room r p (omega (arith, m.auto.log)) c.put_phases-next.ensures)

pub clear_sources-requires : goal.clear_sources-requires
clear_sources-requires c =
    let m = c.make_phases-made in
    ((put-chained (runs (goal.at.clear_sources-requires c).Start) m.ensures).small, omega (arith, m.auto.log, c.put_copy_list-next.auto.list))

pub settle-tally-requires : goal.settle-tally-requires
settle-tally-requires c =
    let r = runs (goal.at.settle-tally-requires c).Start in
    let m = c.make_phases-made in
    let p = m.ensures in (
      put-chained r p,
      unmarked-other COUNTED LISTED (λ e. omega arith) _ _ _ (racking-counted c.requires.0 _ m.auto.places) c.put_copy_list-next.ensures.marks.marked,
      c.clear_sources.ensures,
      c.requires.3,
      put-long r p,
      put-none r p,
    )

pub put_cards-next-requires : goal.put_cards-next-requires
put_cards-next-requires c =
    let r = runs (goal.at.put_cards-next-requires c).Start in
    let m = c.make_phases-made in
    let p = m.ensures in
    let w = c.put_phases-next.ensures in
    let v = c.put_copy_list-next.ensures.text in
    let e = c.settle-tally.ensures in
    (last-long r p (omega (arith, m.auto.log)) w v e, cards-room r p (omega (arith, m.auto.log)) w v e)

pub put_end-requires : goal.put_end-requires
put_end-requires c =
    let r = runs (goal.at.put_end-requires c).Start in
    let m = c.make_phases-made in
    end-room r m.ensures (omega (arith, m.auto.log)) c.put_phases-next.ensures c.put_copy_list-next.ensures.text c.settle-tally.ensures c.put_cards-next.ensures

pub returns : goal.returns
returns c =
    let r = runs (goal.at.returns c).Start in
    let m = c.make_phases-made in
    run-wrote r m.ensures (omega (arith, m.auto.log)) c.put_phases-next.ensures c.put_copy_list-next.ensures.text c.settle-tally.ensures c.put_cards-next.ensures c.put_end.ensures
