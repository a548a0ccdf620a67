use native.Mathlib.Omega.{arith}
use mathlib.Core.Path.{◌≡◌, refl, ◌∙◌}
use mathlib.Core.List.{[], ◌∷◌}
use lib.ListN.{get_or}
use Rattle.carrying.specs.parts.Carrying.{unflat}
use Rattle.carrying.proofs.Flat.{unflat-more, unflat-few}
use Rattle.budgets.proofs.PhaseRuns.{noting-first, noting-room, noting-more, noting-done}
use Rattle.budgets.proofs.parts.note_moves.Goals as goal
use Rattle.budgets.proofs.parts.note_moves.Goals.{In-Some}

-- the pair taken is the first of those left
cut : (c : In-Some) → unflat c.loop-pair.pair-iterator.rest.now ≡ (get_or c.in-Some.pair.now 0 0, get_or c.in-Some.pair.now 1 0) ∷ unflat c.next.new.self.rest.now
cut c =
    let h = c.in-Some.ensures.steps in
    unflat-more _ _ _ h.1.0 (h.1.1 ∙ c.loop-pair.invariant.0)

pub loop-pair-init : goal.loop-pair-init
loop-pair-init c =
    let e = c.chunks_exact-pair-items.ensures in
    rw (c.into_iter-pair-iterator.ensures.into_iter_gives, e.rest) (e.size, record { notable = c.requires; line-ends = refl; bits-end = refl })

pub note_move-requires : goal.note_move-requires
note_move-requires c =
    let s = rw (cut (goal.at.note_move-requires c).In-Some) at c.loop-pair.invariant.1 in
    (noting-first s, s.notable.line-long, s.notable.bits-long, noting-room s)

pub loop-pair-preserved : goal.loop-pair-preserved
loop-pair-preserved c =
    let i = c.loop-pair.invariant in
    (c.in-Some.ensures.steps.0 ∙ i.0, noting-more (rw (cut (goal.at.loop-pair-preserved c).In-Some) at i.1) c.note_move.ensures)

pub returns : goal.returns
returns c =
    let i = c.loop-pair.invariant in
    let none : unflat c.loop-pair.pair-iterator.rest.now ≡ [] = unflat-few _ (omega (arith, c.in-None.ensures.steps.1.0, i.0)) in
    let done = noting-done (rw none at i.1) in
    record { line-is = done.0; bits_are = done.1 }
