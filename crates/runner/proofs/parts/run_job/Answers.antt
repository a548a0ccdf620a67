use mathlib.Core.Path.{refl}
use Rattle.std.proofs.lemmas.Result.{err_from_is_err_and}
use Rattle.racks.specs.Job.{racks_of}
use Rattle.tables.specs.parts.Tables.{refusal_by, cards_number}
use Rattle.tables.proofs.Refusals.{none_by}
use Rattle.moves.specs.Moves.{held}
use Rattle.carrying.proofs.Outcomes.{outcome-refused, outcome-done}
use Rattle.shuffle.specs.Shuffle.{settled_held}
use Rattle.runs.specs.Run.{gathered, counts}
use Rattle.runner.specs.parts.Ran.{ran_by}
use Rattle.runner.proofs.parts.run_job.Goals as goal

pub check_cards-requires : goal.check_cards-requires
check_cards-requires c = (c.requires.0, refl)

pub returns-in_err-check_cards : goal.returns-in_err-check_cards
unfolding ran_by
returns-in_err-check_cards c =
    let s = c.args in
    let h = held s.places.now s.cards.now in
    let p = err_from_is_err_and c.from_residual.result c.from_residual.ensures.1 in
    rw (p.1, p.2) (outcome-refused _ _ _ h _ c.in_err-check_cards.ensures.refusal_is)

pub run_cards-requires : goal.run_cards-requires
run_cards-requires c =
    let o = c.in_ok-check_cards.ensures.opened refl in
    (o.table, c.requires.1, o.long, o.bytes)

pub returns : goal.returns
unfolding ran_by
returns c =
    let s = c.args in
    let h = held s.places.now s.cards.now in
    let m = c.run_cards.ensures in
    outcome-done (refusal_by s.job.now s.places.now (cards_number s.job.now s.b s.places.now s.cards.now)) (counts (racks_of s.job.now) s.b h) (settled_held (racks_of s.job.now) s.b (gathered (racks_of s.job.now) s.b h)) h _ (held _ _)
    m.tally-is m.held-is (none_by _ _ _ c.in_ok-check_cards.ensures.refusal_is refl)
