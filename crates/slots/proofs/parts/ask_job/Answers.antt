use mathlib.Core.Path.{◌≡◌, refl, sym}
use Rattle.std.proofs.lemmas.Result.{err_from_is_err_and}
use Rattle.racks.specs.Job.{racks_of}
use Rattle.racks.specs.parts.Legal.{Legal}
use Rattle.tables.specs.parts.Tables.{table_number}
use Rattle.tables.proofs.Tables.{judged-number}
use Rattle.slots.proofs.Slots.{asked-refused, asked-past, asked_is}
use Rattle.slots.proofs.parts.ask_job.Goals as goal
use Rattle.slots.proofs.parts.ask_job.Goals.{In_ok-check_places}

-- the table is accepted
module _ (c : In_ok-check_places) where
  legal : Legal (racks_of c.args.job.now) c.args.places.now
  legal = c.in_ok-check_places.ensures.legal refl

  none : table_number c.args.job.now c.args.places.now ≡ 0
  none = sym (judged-number c.in_ok-check_places.ensures)

pub returns-in_err-check_places : goal.returns-in_err-check_places
returns-in_err-check_places c =
    let p = err_from_is_err_and c.from_residual.result c.from_residual.ensures.1 in
    rw (p.1, p.2) (asked-refused c.args.job.now c.args.places.now c.args.g _ c.in_err-check_places.ensures.refusal_is)

pub returns-then-places-g : goal.returns-then-places-g
returns-then-places-g c =
    let s = c.args in
    let ok = (goal.at.returns-then-places-g c).In_ok-check_places in
    asked-past s.job.now s.places.now s.g (none ok) (legal ok).long c.if-places-g.true

pub kind_of-kind-requires : goal.kind_of-kind-requires
kind_of-kind-requires c = c.requires

pub state_of-state-requires : goal.state_of-state-requires
state_of-state-requires c = (c.requires, c.if-places-g.false)

pub returns : goal.returns
returns c =
    let s = c.args in
    let ok = (goal.at.returns c).In_ok-check_places in
    asked_is s.job.now s.places.now s.g (none ok) (legal ok).long c.if-places-g.false _ _ c.kind_of-kind.ensures c.state_of-state.ensures
