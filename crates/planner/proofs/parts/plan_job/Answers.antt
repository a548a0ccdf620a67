use mathlib.Core.Path.{◌≡◌, refl, ap, sym, ◌∙◌}
use native.Mathlib.Nat.{zero-add}
use native.Mathlib.Omega.{arith}
use lib.ListN.{length}
use Rattle.std.proofs.lemmas.Result.{err_from_is_err_and}
use Rattle.counting.specs.Lists.{flat}
use Rattle.answers.specs.Answers.{moves_of}
use Rattle.answers.specs.declared.Refusal.TheVariants as case
use Rattle.answers.proofs.Answers.{refuses, listed-refused, listed-done}
use Rattle.racks.specs.Job.{racks_of}
use Rattle.tables.specs.parts.Tables.{refusal_by, table_number}
use Rattle.tables.proofs.Tables.{judged-number}
use Rattle.tables.proofs.Refusals.{kept_by}
use Rattle.plans.specs.Plan.{plan}
use Rattle.planner.specs.parts.Planned.{plan_number, planned_by}
use Rattle.planner.proofs.Planned.{planned-short, planned-none}
use Rattle.planner.proofs.parts.plan_job.Goals as goal
use Rattle.planner.proofs.parts.plan_job.Goals.{In_ok-check_places}

-- the table is accepted
none : (c : In_ok-check_places) → table_number c.args.job.now c.args.places.now ≡ 0
none c = sym (judged-number c.in_ok-check_places.ensures)

pub returns-in_err-check_places : goal.returns-in_err-check_places
unfolding planned_by plan_number
returns-in_err-check_places c =
    let s = c.args in
    let p = err_from_is_err_and c.from_residual.result c.from_residual.ensures.1 in
    let pairs = plan (racks_of s.job.now) s.places.now in
    rw (p.1, p.2)
    (listed-refused (refusal_by s.job.now s.places.now (plan_number s.job.now s.places.now s.lent.now)) (moves_of (length pairs)) (flat pairs) s.lent.now _
    (kept_by s.job.now s.places.now _ _ _ c.in_err-check_places.ensures.refusal_is (refuses _)))

pub most_pairs-most-requires : goal.most_pairs-most-requires
most_pairs-most-requires c = (c.requires, c.in_ok-check_places.ensures.legal refl)

pub overflow_mul-most : goal.overflow_mul-most
overflow_mul-most c = omega (arith, c.most_pairs-most.ensures.few)

pub returns-then-lent-most : goal.returns-then-lent-most
unfolding planned_by
returns-then-lent-most c =
    let s = c.args in
    let pairs = plan (racks_of s.job.now) s.places.now in
    let m = c.most_pairs-most.ensures in
    listed-refused (refusal_by s.job.now s.places.now (plan_number s.job.now s.places.now s.lent.now)) (moves_of (length pairs)) (flat pairs) s.lent.now case.TooShort
    (planned-short s.job.now s.places.now s.lent.now (none (goal.at.returns-then-lent-most c).In_ok-check_places) (omega (arith, c.if-lent-most.true, m.exact c.if-lent-most.true)))

pub write_plan-written-requires : goal.write_plan-written-requires
write_plan-written-requires c = (c.requires, c.in_ok-check_places.ensures.legal refl, c.most_pairs-most.ensures.covers, c.if-lent-most.false)

pub returns : goal.returns
unfolding planned_by
returns c =
    let s = c.args in
    let pairs = plan (racks_of s.job.now) s.places.now in
    let w = c.write_plan-written.ensures in
    listed-done (refusal_by s.job.now s.places.now (plan_number s.job.now s.places.now s.lent.now)) (moves_of (length pairs)) (flat pairs) s.lent.now _ _
    (c.of_moves.ensures ∙ ap moves_of (w.next-is ∙ zero-add _)) w.list
    (planned-none s.job.now s.places.now s.lent.now (none (goal.at.returns c).In_ok-check_places) (omega (arith, c.if-lent-most.false, c.most_pairs-most.ensures.covers)))
