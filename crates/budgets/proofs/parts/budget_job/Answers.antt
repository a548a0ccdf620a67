use mathlib.Core.Path.{refl}
use Prim.Native.Nat.{min}
use Rattle.std.proofs.lemmas.Result.{err_from_is_err_and}
use Rattle.answers.specs.Answers.{moves_of}
use Rattle.racks.specs.Table.{aways}
use Rattle.racks.specs.Job.{racks_of}
use Rattle.tables.specs.parts.Tables.{refusal_by, cards_number}
use Rattle.tables.proofs.Refusals.{none_by}
use Rattle.moves.specs.Moves.{carried, held}
use Rattle.moves.specs.Phases.{budget}
use Rattle.carrying.proofs.Outcomes.{outcome-refused, outcome-done}
use Rattle.budgets.specs.parts.Budgeted.{budgeted_by}
use Rattle.budgets.proofs.parts.budget_job.Goals as goal

pub check_cards-requires : goal.check_cards-requires
check_cards-requires c = (c.requires.0, refl)

pub returns-in_err-check_cards : goal.returns-in_err-check_cards
unfolding budgeted_by
returns-in_err-check_cards c =
    let s = c.args in
    let h = held s.places.now s.cards.now in
    let p = err_from_is_err_and c.from_residual.result c.from_residual.ensures.1 in
    rw (p.1, p.2) (outcome-refused _ _ _ h _ c.in_err-check_cards.ensures.refusal_is)

pub move_cards-requires : goal.move_cards-requires
move_cards-requires c =
    let o = c.in_ok-check_cards.ensures.opened refl in
    (o.table, c.requires.1, o.long)

pub returns : goal.returns
unfolding budgeted_by
returns c =
    let s = c.args in
    let h = held s.places.now s.cards.now in
    let m = c.move_cards.ensures in
    outcome-done (refusal_by s.job.now s.places.now (cards_number s.job.now s.b s.places.now s.cards.now)) (moves_of (min s.k (aways (racks_of s.job.now) s.places.now))) (carried s.b (budget (racks_of s.job.now) s.k s.places.now) h) h _ (held _ _)
    m.tally-is m.held-is (none_by _ _ _ c.in_ok-check_cards.ensures.refusal_is refl)
