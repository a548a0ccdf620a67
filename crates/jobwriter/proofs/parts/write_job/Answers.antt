use mathlib.Core.Path.{◌≡◌, refl, sym}
use Prim.Native.Nat.{◌<◌}
use native.Mathlib.Omega.{arith}
use lib.ListN.{length}
use Rattle.std.proofs.lemmas.Result.{err_from_is_err_and}
use Rattle.answers.specs.declared.Refusal.TheVariants as case
use Rattle.answers.proofs.Answers.{refuses, sized-refused, sized-done}
use Rattle.racks.specs.Job.{racks_of}
use Rattle.tables.specs.parts.Tables.{OpenCards, refusal_by, cards_number}
use Rattle.tables.proofs.Tables.{cards-checked-number}
use Rattle.tables.proofs.Refusals.{kept_by}
use Rattle.jobwriter.specs.Writing.{file_for}
use Rattle.jobwriter.specs.parts.Puts.{write_number, filed_by}
use Rattle.jobwriter.proofs.Files.{writable, cards-below, passed-some, numbers-few, file-size, write-19, write-none}
use Rattle.jobwriter.proofs.parts.write_job.Goals as goal
use Rattle.jobwriter.proofs.parts.write_job.Goals.{In_ok-check_cards}

-- the table and its cards are accepted
module _ (c : In_ok-check_cards) where
  none : cards_number c.args.job.now c.args.b c.args.places.now c.args.cards.now ≡ 0
  none = sym (cards-checked-number c.in_ok-check_cards.ensures)

  opened : OpenCards c.args.job.now c.args.b c.args.places.now c.args.cards.now c.check_cards.new.racking
  opened = c.in_ok-check_cards.ensures.opened refl

  some : 0 < length c.args.cards.now
  some = passed-some opened c.requires.1 none

pub check_cards-requires : goal.check_cards-requires
check_cards-requires c = (c.requires.0, refl)

pub returns-in_err-check_cards : goal.returns-in_err-check_cards
unfolding filed_by write_number
returns-in_err-check_cards c =
    let s = c.args in
    let p = err_from_is_err_and c.from_residual.result c.from_residual.ensures.1 in
    rw (p.1, p.2)
    (sized-refused (refusal_by s.job.now s.places.now (write_number s.job.now s.b s.places.now s.cards.now s.out.now)) (file_for (racks_of s.job.now) s.b s.places.now s.cards.now) s.out.now _
    (kept_by s.job.now s.places.now _ _ _ c.in_err-check_cards.ensures.refusal_is (refuses _)))

pub numbers_size-requires : goal.numbers_size-requires
numbers_size-requires c = writable (opened (goal.at.numbers_size-requires c).In_ok-check_cards)

pub overflow_add-size : goal.overflow_add-size
overflow_add-size c = let o = opened (goal.at.overflow_add-size c).In_ok-check_cards in omega (arith, cards-below o, c.numbers_size.ensures, numbers-few (writable o))

pub returns-then-out-size : goal.returns-then-out-size
unfolding filed_by
returns-then-out-size c =
    let s = c.args in
    sized-refused (refusal_by s.job.now s.places.now (write_number s.job.now s.b s.places.now s.cards.now s.out.now)) (file_for (racks_of s.job.now) s.b s.places.now s.cards.now) s.out.now case.BufferShort
    (write-19 s.job.now s.b s.places.now s.cards.now s.out.now (none (goal.at.returns-then-out-size c).In_ok-check_cards) _ c.numbers_size.ensures c.if-out-size.true)

pub put_file-requires : goal.put_file-requires
put_file-requires c =
    let s = c.args in
    let ok = (goal.at.put_file-requires c).In_ok-check_cards in
    (writable (opened ok), some ok, omega (arith, file-size s.job.now s.b s.places.now s.cards.now s.out.now _ c.numbers_size.ensures, c.if-out-size.false))

pub returns : goal.returns
unfolding filed_by
returns c =
    let s = c.args in
    let e = none (goal.at.returns c).In_ok-check_cards in
    let n = c.numbers_size.ensures in
    sized-done (refusal_by s.job.now s.places.now (write_number s.job.now s.b s.places.now s.cards.now s.out.now)) (file_for (racks_of s.job.now) s.b s.places.now s.cards.now) s.out.now _ _
    (file-size s.job.now s.b s.places.now s.cards.now s.out.now _ n) c.put_file.ensures
    (write-none s.job.now s.b s.places.now s.cards.now s.out.now e _ n (omega (arith, c.if-out-size.false)))
