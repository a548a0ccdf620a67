use native.Mathlib.Omega.{arith}
use mathlib.Core.Path.{◌≡◌, refl, ap, ◌∙◌}
use mathlib.Core.List.{[], ◌∷◌}
use Prim.Native.Nat.{◌+◌}
use lib.ListN.{length, get_or, length-append}
use Rattle.answers.specs.declared.Tally.{Tally}
use Rattle.carrying.specs.parts.Carrying.{unflat}
use Rattle.carrying.proofs.Flat.{unflat-more, unflat-few, slots-first, slots-rest}
use Rattle.carrying.proofs.Carries.{carrying-more, carrying-done}
use Rattle.carrying.proofs.parts.carry.Goals as goal
use Rattle.carrying.proofs.parts.carry.Goals.{In-Some}

-- the pair taken is the first of those left
cut : (c : In-Some) → unflat c.loop-pair.pair-iterator.rest.now ≡ (get_or c.in-Some.pair.now 0 0, get_or c.in-Some.pair.now 1 0) ∷ unflat c.next.new.self.rest.now
cut c =
    let h = c.in-Some.ensures.steps in
    unflat-more _ _ _ h.1.0 (h.1.1 ∙ c.loop-pair.invariant.0)

-- and is two numbers
two : (c : In-Some) → length c.loop-pair.pair-iterator.rest.now ≡ 2 + length c.next.new.self.rest.now
two c =
    let h = c.in-Some.ensures.steps in
    omega (arith, ap length h.1.0, length-append c.in-Some.pair.now c.next.new.self.rest.now, h.1.1, c.loop-pair.invariant.0)

pub loop-pair-init : goal.loop-pair-init
loop-pair-init c =
    let e = c.chunks_exact-pair-items.ensures in
    rw (c.into_iter-pair-iterator.ensures.into_iter_gives, e.rest) (e.size, omega arith, c.requires.slots, record { held-ends = refl; tally-ends = refl })

pub move_card-requires-clause-slots : goal.move_card-requires-clause-slots
move_card-requires-clause-slots c =
    let ends = slots-first (rw (cut (goal.at.move_card-requires-clause-slots c).In-Some) at c.loop-pair.invariant.2) in
    (omega arith, omega arith)

pub add_move-made-requires : goal.add_move-made-requires
add_move-made-requires c = omega (arith, c.loop-pair.invariant.1, two (goal.at.add_move-made-requires c).In-Some)

pub loop-pair-preserved : goal.loop-pair-preserved
loop-pair-preserved c =
    let i = c.loop-pair.invariant in
    let some = (goal.at.loop-pair-preserved c).In-Some in
    let e = cut some in (
      c.in-Some.ensures.steps.0 ∙ i.0,
      omega (arith, ap (λ (t : Tally). t.moves) c.add_move-made.ensures, i.1, two some),
      slots-rest (rw e at i.2),
      carrying-more (rw e at i.3) c.move_card.ensures c.add_move-made.ensures,
    )

pub returns : goal.returns
returns c =
    let i = c.loop-pair.invariant in
    let none : unflat c.loop-pair.pair-iterator.rest.now ≡ [] = unflat-few _ (omega (arith, c.in-None.ensures.steps.1.0, i.0)) in
    let done = carrying-done (rw none at i.3) in
    record { held-is = done.0; tally-is = done.1 }
