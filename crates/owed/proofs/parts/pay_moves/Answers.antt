use native.Mathlib.Omega.{arith}
use mathlib.Core.Path.{◌≡◌, refl, ◌∙◌}
use mathlib.Core.List.{[], ◌∷◌}
use Prim.Native.Nat.{◌<◌}
use lib.ListN.{get_or}
use Rattle.carrying.specs.parts.Carrying.{unflat}
use Rattle.carrying.proofs.Flat.{unflat-more, unflat-few}
use Rattle.owed.proofs.Paying.{paying-ends, paying-owed, paying-more, paying-done}
use Rattle.owed.proofs.parts.pay_moves.Goals as goal
use Rattle.owed.proofs.parts.pay_moves.Goals.{In-Some, After-cell_of-k}

-- the pair taken is the first of those left
cut : (c : In-Some) → unflat c.loop-pair.pair-iterator.rest.now ≡ (get_or c.in-Some.pair.now 0 0, get_or c.in-Some.pair.now 1 0) ∷ unflat c.next.new.self.rest.now
cut c =
    let h = c.in-Some.ensures.steps in
    unflat-more _ _ _ h.1.0 (h.1.1 ∙ c.loop-pair.invariant.0)

pub loop-pair-init : goal.loop-pair-init
loop-pair-init c =
    let e = c.chunks_exact-pair-items.ensures in
    let pay = c.requires.payable in
    rw (c.into_iter-pair-iterator.ensures.into_iter_gives, e.rest)
    (e.size, record { payable = pay.0; ends = refl; long = c.requires.sized.0 }, record { payable = pay.1; ends = refl; long = c.requires.sized.1 })

pub cell_of-k-requires : goal.cell_of-k-requires
cell_of-k-requires c = paying-ends (rw (cut (goal.at.cell_of-k-requires c).In-Some) at c.loop-pair.invariant.1)

-- both tables have a count there
owed : (c : After-cell_of-k) → (c.cell_of-k.result < 4096) × (0 < get_or c.loop-pair.owes c.cell_of-k.result 0) × (0 < get_or c.loop-pair.awaits c.cell_of-k.result 0)
owed c =
    let i = c.loop-pair.invariant in
    let d = c.cell_of-k in
    let h = c.in-Some.ensures.steps in
    let e = unflat-more _ _ _ h.1.0 (h.1.1 ∙ i.0) in
    let o = paying-owed (rw e at i.1) d.result d.ensures in
    (o.0, o.1, (paying-owed (rw e at i.2) d.result d.ensures).1)

pub bounds-owes-k : goal.bounds-owes-k
bounds-owes-k c = omega (arith, owed (goal.at.bounds-owes-k c).After-cell_of-k)

pub overflow_sub-owes : goal.overflow_sub-owes
overflow_sub-owes c = omega (arith, owed (goal.at.overflow_sub-owes c).After-cell_of-k)

pub bounds-owes-k-in-loop-pair : goal.bounds-owes-k-in-loop-pair
bounds-owes-k-in-loop-pair c = omega (arith, owed (goal.at.bounds-owes-k-in-loop-pair c).After-cell_of-k)

pub bounds-awaits-k : goal.bounds-awaits-k
bounds-awaits-k c = omega (arith, owed (goal.at.bounds-awaits-k c).After-cell_of-k)

pub overflow_sub-awaits : goal.overflow_sub-awaits
overflow_sub-awaits c = omega (arith, owed (goal.at.overflow_sub-awaits c).After-cell_of-k)

pub bounds-awaits-k-in-loop-pair : goal.bounds-awaits-k-in-loop-pair
bounds-awaits-k-in-loop-pair c = omega (arith, owed (goal.at.bounds-awaits-k-in-loop-pair c).After-cell_of-k)

pub loop-pair-preserved : goal.loop-pair-preserved
loop-pair-preserved c =
    let i = c.loop-pair.invariant in
    let d = c.cell_of-k in
    let e = cut (goal.at.loop-pair-preserved c).In-Some in
    (c.in-Some.ensures.steps.0 ∙ i.0, paying-more (rw e at i.1) d.result d.ensures, paying-more (rw e at i.2) d.result d.ensures)

pub returns : goal.returns
returns c =
    let i = c.loop-pair.invariant in
    let none : unflat c.loop-pair.pair-iterator.rest.now ≡ [] = unflat-few _ (omega (arith, c.in-None.ensures.steps.1.0, i.0)) in
    record { owes-are = paying-done (rw none at i.1); awaits-are = paying-done (rw none at i.2) }
