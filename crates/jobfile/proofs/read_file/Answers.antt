-- `jobfile::read_file` meets its contract. Assumes nothing.
use Rattle.std.proofs.lemmas.Result.{err_from_is_err_and}
use Rattle.jobfile.proofs.Files.{read-file-refused, read-17-caps, read-17-places, read_done}
use Rattle.jobfile.proofs.read_file.Goals as goal
use Rattle.jobfile.proofs.read_file.Goals.{then-caps-found-via-then-caps-found, then-caps-found-via-else-caps-found+then-places-found}

pub returns-in_err-found : goal.returns-in_err-found
returns-in_err-found c =
    let p = err_from_is_err_and c.from_residual.result c.from_residual.ensures.1 in
    rw (p.1, p.2) (read-file-refused c.args.file.now c.args.caps.now c.args.places.now _ _ _ c.in_err-found.ensures)

pub returns-then-caps-found : goal.returns-then-caps-found
returns-then-caps-found c = elim c.then-caps-found.branch [
  | then-caps-found-via-then-caps-found w ↦ read-17-caps c.args.file.now c.args.caps.now c.args.places.now _ _ _ c.in_ok-found.ensures w.if-caps-found.true
  | then-caps-found-via-else-caps-found+then-places-found w ↦
      read-17-places c.args.file.now c.args.caps.now c.args.places.now _ _ _ c.in_ok-found.ensures w.if-places-found.true
]

pub returns : goal.returns
returns c =
    read_done c.args.file.now c.args.caps.now c.args.places.now _ _ _ c.in_ok-found.ensures _ _ c.if-caps-found.false c.if-places-found.false c.put.ensures c.put-2.ensures
