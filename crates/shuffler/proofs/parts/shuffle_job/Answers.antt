use mathlib.Core.Path.{◌≡◌, refl, sym, ap, ◌∙◌}
use Prim.Native.Nat.{ℕ, ◌*◌}
use native.Mathlib.Nat.{zero-add}
use lib.ListN.{length}
use Rattle.std.proofs.lemmas.Result.{err_from_is_err_and}
use Rattle.answers.specs.Answers.{copies_of}
use Rattle.answers.specs.declared.Refusal.TheVariants as case
use Rattle.answers.proofs.Answers.{refuses}
use Rattle.racks.specs.Numbers.{some_away}
use Rattle.racks.specs.Job.{racks_of}
use Rattle.tables.specs.parts.Tables.{OpenCards, refusal_by, cards_number}
use Rattle.tables.proofs.Tables.{cards-checked-number}
use Rattle.tables.proofs.Refusals.{kept_by}
use Rattle.moves.specs.Moves.{held}
use Rattle.carrying.proofs.Outcomes.{outcome-refused, outcome-done}
use Rattle.factors.specs.Copies.{copy_list}
use Rattle.factors.proofs.Marks.{racking-counted}
use Rattle.copies.proofs.Accepted.{open-chained, open-away}
use Rattle.shuffle.specs.Shuffle.{settled_held}
use Rattle.shuffler.specs.parts.Shuffled.{shuffle_number, shuffled_by}
use Rattle.shuffle.proofs.Settled.{settled-held}
use Rattle.shuffler.proofs.Shuffles.{shuffled-away, shuffled-none}
use Rattle.shuffler.proofs.parts.shuffle_job.Goals as goal
use Rattle.shuffler.proofs.parts.shuffle_job.Goals.{After-some_away, In_ok-check_cards}

-- the table and its cards are accepted
module _ (c : In_ok-check_cards) where
  opened : OpenCards c.args.job.now c.args.b c.args.places.now c.args.cards.now c.check_cards.new.racking
  opened = c.in_ok-check_cards.ensures.opened refl

  none : cards_number c.args.job.now c.args.b c.args.places.now c.args.cards.now ≡ 0
  none = sym (cards-checked-number c.in_ok-check_cards.ensures)

-- whether a card is away
away : (c : After-some_away) → c.some_away.result ≡ some_away (racks_of c.args.job.now) c.args.places.now
away c = c.some_away.ensures ∙ open-away (c.in_ok-check_cards.ensures.opened refl).table

pub returns-in_err-check_cards : goal.returns-in_err-check_cards
unfolding shuffled_by shuffle_number
returns-in_err-check_cards c =
    let s = c.args in
    let h = held s.places.now s.cards.now in
    let p = err_from_is_err_and c.from_residual.result c.from_residual.ensures.1 in
    rw (p.1, p.2) (outcome-refused _ _ _ h _ (kept_by s.job.now s.places.now _ _ _ c.in_err-check_cards.ensures.refusal_is (refuses _)))

pub some_away-requires : goal.some_away-requires
some_away-requires c = open-chained (opened (goal.at.some_away-requires c).In_ok-check_cards).table

pub returns-then-some_away : goal.returns-then-some_away
unfolding shuffled_by
returns-then-some_away c =
    let s = c.args in
    let h = held s.places.now s.cards.now in
    outcome-refused (refusal_by s.job.now s.places.now (shuffle_number s.job.now s.b h)) (copies_of (length (copy_list s.places.now))) (settled_held (racks_of s.job.now) s.b h) h case.SomeAway
    (shuffled-away s.job.now s.b h (none (goal.at.returns-then-some_away c).In_ok-check_cards) (sym (away (goal.at.returns-then-some_away c).After-some_away) ∙ c.if-some_away.true))

pub settle_alone-requires : goal.settle_alone-requires
settle_alone-requires c =
    let o = opened (goal.at.settle_alone-requires c).In_ok-check_cards in
    let b = c.args.b in
    (open-chained o.table, racking-counted o.table _ refl, o.bytes, o.long ∙ ap (λ (n : ℕ). n * b) (sym o.table.legal.long))

pub returns : goal.returns
unfolding shuffled_by
returns c =
    let s = c.args in
    let h = held s.places.now s.cards.now in
    let w = c.settle_alone.ensures in
    outcome-done (refusal_by s.job.now s.places.now (shuffle_number s.job.now s.b h)) (copies_of (length (copy_list s.places.now))) (settled_held (racks_of s.job.now) s.b h) h _ (held _ _)
    (w.count-is ∙ rw zero-add)
    (settled-held (racks_of s.job.now) s.b s.places.now s.cards.now _ _ _ _ (opened (goal.at.returns c).In_ok-check_cards).table.legal.long w)
    (shuffled-none s.job.now s.b h (none (goal.at.returns c).In_ok-check_cards) (sym (away (goal.at.returns c).After-some_away) ∙ c.if-some_away.false))
