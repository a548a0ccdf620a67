-- `numerals::parts::bounded_numeral` meets its contract. Assumes nothing.
use mathlib.Core.Path.{◌≡◌}
use Rattle.std.proofs.lemmas.Result.{err_from_is_err_and}
use Rattle.answers.specs.Answers.{refusal_of}
use Rattle.answers.proofs.Answers.{refuses}
use Rattle.numerals.specs.Numeral.{got_of}
use Rattle.numerals.specs.parts.Bounds.{ranged, outside}
use Rattle.numerals.proofs.Numerals.{checked-form, checked_value, checked-bad, outside_low, outside_high, outside-none, own-place, form-place}
use Rattle.numerals.proofs.parts.bounded_numeral.Goals as goal
use Rattle.numerals.proofs.parts.bounded_numeral.Goals.{then-got-low-via-then-got-low, then-got-low-via-else-got-low+then-high-got}

pub returns-in_err-got : goal.returns-in_err-got
unfolding got_of ranged
returns-in_err-got c =
    let p = err_from_is_err_and c.from_residual.result c.from_residual.ensures.1 in
    let a = c.args in
    let e = c.in_err-got.ensures in
    rw (p.1, p.2) (record {
      number = checked-form a.file.now a.at (outside a.low a.high (refusal_of a.refusal).number) _ e;
      place = form-place a.file.now a.at _ a.refusal e;
    })

pub returns-then-got-low : goal.returns-then-got-low
unfolding got_of ranged
returns-then-got-low c =
    let a = c.args in
    let n = (refusal_of a.refusal).number in
    let g = c.in_ok-got.got in
    let bad : outside a.low a.high n g.value ≡ n =
    elim c.then-got-low.branch [
      | then-got-low-via-then-got-low w ↦ outside_low a.low a.high n g.value w.if-got-low.true
      | then-got-low-via-else-got-low+then-high-got w ↦ outside_high a.low a.high n g.value w.if-high-got.true
    ] in
    record {
      number = checked-bad a.file.now a.at (outside a.low a.high n) g.value g.next n c.in_ok-got.ensures bad (refuses a.refusal);
      place = own-place (refusal_of a.refusal);
    }

pub returns : goal.returns
unfolding got_of ranged
returns c =
    let a = c.args in
    let n = (refusal_of a.refusal).number in
    let g = c.in_ok-got.got in
    record {
      number = checked_value a.file.now a.at (outside a.low a.high n) g.value g.next c.in_ok-got.ensures (outside-none a.low a.high n g.value c.if-got-low.false c.if-high-got.false);
      place = record {};
    }
