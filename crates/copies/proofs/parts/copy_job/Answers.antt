use mathlib.Core.Path.{◌≡◌, refl, sym, ◌∙◌}
use lib.ListN.{length}
use Rattle.counting.specs.Lists.{flat}
use Rattle.std.proofs.lemmas.Result.{err_from_is_err_and}
use Rattle.answers.specs.Answers.{copies_of}
use Rattle.answers.specs.declared.Refusal.TheVariants as case
use Rattle.answers.proofs.Answers.{refuses, listed-refused}
use Rattle.racks.specs.Numbers.{some_away}
use Rattle.racks.specs.Job.{racks_of}
use Rattle.tables.specs.parts.Tables.{Open, refusal_by, table_number}
use Rattle.tables.proofs.Tables.{checked-number}
use Rattle.tables.proofs.Refusals.{kept_by}
use Rattle.factors.specs.Copies.{copy_list}
use Rattle.factors.proofs.Marks.{racking-counted, racking-listed}
use Rattle.copies.specs.parts.Writes.{copy_number, copied_by}
use Rattle.copies.proofs.Accepted.{open-chained, open-away}
use Rattle.copies.proofs.Copied.{copied-away, copied-home}
use Rattle.copies.proofs.parts.copy_job.Goals as goal
use Rattle.copies.proofs.parts.copy_job.Goals.{After-some_away, In_ok-check_racked}

-- the table is accepted
module _ (c : In_ok-check_racked) where
  opened : Open c.args.job.now c.args.places.now c.check_racked.new.racking
  opened = c.in_ok-check_racked.ensures.opened refl

  none : table_number c.args.job.now c.args.places.now ≡ 0
  none = sym (checked-number c.in_ok-check_racked.ensures)

-- whether a card is away
away : (c : After-some_away) → c.some_away.result ≡ some_away (racks_of c.args.job.now) c.args.places.now
away c = c.some_away.ensures ∙ open-away (c.in_ok-check_racked.ensures.opened refl)

pub returns-in_err-check_racked : goal.returns-in_err-check_racked
unfolding copied_by copy_number
returns-in_err-check_racked c =
    let s = c.args in
    let q = err_from_is_err_and c.from_residual.result c.from_residual.ensures.1 in
    rw (q.1, q.2) (listed-refused _ (copies_of (length (copy_list s.places.now))) (flat (copy_list s.places.now)) s.lent.now _ (kept_by s.job.now s.places.now _ _ _ c.in_err-check_racked.ensures.refusal_is (refuses _)))

pub some_away-requires : goal.some_away-requires
some_away-requires c = open-chained (opened (goal.at.some_away-requires c).In_ok-check_racked)

pub returns-then-some_away : goal.returns-then-some_away
unfolding copied_by
returns-then-some_away c =
    let s = c.args in
    let p = s.places.now in
    listed-refused (refusal_by s.job.now s.places.now (copy_number s.job.now p s.lent.now)) (copies_of (length (copy_list p))) (flat (copy_list p)) s.lent.now case.SomeAway
    (copied-away s.job.now p s.lent.now (none (goal.at.returns-then-some_away c).In_ok-check_racked) (sym (away (goal.at.returns-then-some_away c).After-some_away) ∙ c.if-some_away.true))

pub list_counted-requires : goal.list_counted-requires
list_counted-requires c =
    let o = opened (goal.at.list_counted-requires c).In_ok-check_racked in
    (open-chained o, racking-counted o _ refl, racking-listed o _ refl)

pub returns : goal.returns
returns c =
    let s = c.args in
    c.list_counted.ensures
    ∙ copied-home s.job.now s.places.now s.lent.now (none (goal.at.returns c).In_ok-check_racked) (sym (away (goal.at.returns c).After-some_away) ∙ c.if-some_away.false)
