use Rattle.std.proofs.lemmas.Result.{err_from_is_err_and}
use Rattle.answers.proofs.Answers.{refuses}
use Rattle.tables.proofs.Tables.{checked_refused, checked-filled}
use Rattle.tables.proofs.parts.check_racked.Goals as goal

pub returns-in_err-check_places : goal.returns-in_err-check_places
returns-in_err-check_places c =
    let p = err_from_is_err_and c.from_residual.result c.from_residual.ensures.1 in
    rw (p.1, p.2) (checked_refused c.in_err-check_places.ensures _ (refuses _))

pub fill_racking-requires : goal.fill_racking-requires
fill_racking-requires c = c.requires

pub returns : goal.returns
returns c = checked-filled c.in_ok-check_places.ensures c.requires.0 _ c.fill_racking.ensures
