-- `parsing::parts::read_head` meets its contract. Assumes nothing.
use Rattle.std.proofs.lemmas.Result.{err_from_is_err_and}
use Rattle.numerals.specs.Numeral.{got_of}
use Rattle.parsing.proofs.Fronts.{head_N, head-B, head-M_refused, head_M, N-small}
use Rattle.parsing.proofs.parts.read_head.Goals as goal

pub returns-in_err-racks : goal.returns-in_err-racks
unfolding got_of
returns-in_err-racks c =
    let p = err_from_is_err_and c.from_residual.result c.from_residual.ensures.1 in
    let e = c.in_err-racks.ensures in
    rw (p.1, p.2) (head_N c.args.file.now c.args.caps.now c.requires _ e.number e.place)

pub returns-in_err-bytes : goal.returns-in_err-bytes
unfolding got_of
returns-in_err-bytes c =
    let p = err_from_is_err_and c.from_residual-in_err-bytes.result c.from_residual-in_err-bytes.ensures.1 in
    let e = c.in_err-bytes.ensures in
    rw (p.1, p.2) (head-B c.args.file.now c.args.caps.now c.requires _ _ c.in_ok-racks.ensures.number _ e.number e.place)

pub read_caps-requires : goal.read_caps-requires
unfolding got_of
read_caps-requires c = ((N-small c.args.file.now c.args.caps.now c.requires _ _ c.in_ok-racks.ensures.number).1, c.requires)

pub returns-in_err-next : goal.returns-in_err-next
unfolding got_of
returns-in_err-next c =
    let p = err_from_is_err_and c.from_residual-in_err-next.result c.from_residual-in_err-next.ensures.1 in
    rw (p.1, p.2)
    (head-M_refused c.args.file.now c.args.caps.now c.requires _ _ c.in_ok-racks.ensures.number _ _ c.in_ok-bytes.ensures.number _ _ c.in_err-next.ensures)

pub returns : goal.returns
unfolding got_of
returns c =
    head_M c.args.file.now c.args.caps.now c.requires _ _ c.in_ok-racks.ensures.number _ _ c.in_ok-bytes.ensures.number _ _ c.in_ok-next.ensures
