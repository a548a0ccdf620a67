use Rattle.factors.specs.parts.Walks.{COUNTED, walk_count}
use Rattle.factors.proofs.Walked.{walk-left}
use Rattle.copies.proofs.Progress.{counted_none, counted-due, due-count}
use mathlib.Core.Path.{ap}
use Prim.Native.Nat.{ℕ, ◌+◌, ◌≤◌}
use native.Mathlib.Omega.{arith}
use Rattle.copies.proofs.parts.lists.count_slot.Goals as goal
use Rattle.copies.proofs.parts.lists.count_slot.Goals.{After-walk_factor-w}

pub returns-then-seen-k-eq-COUNTED : goal.returns-then-seen-k-eq-COUNTED
returns-then-seen-k-eq-COUNTED c = counted_none _ _ _ _ _ c.if-seen-k-eq-COUNTED.true

-- there is room for the copies
room : (c : After-walk_factor-w) → c.args.at + walk_count c.walk_factor-w.result.left c.walk_factor-w.result.end ≤ 6144
room c =
    let w = c.walk_factor-w in
    omega (arith, c.requires.4, due-count c.args.places.now c.args.seen.now COUNTED c.args.k c.if-seen-k-eq-COUNTED.false w.result.head w.result.left w.result.end _ w.ensures)

pub count_walk-count-requires : goal.count_walk-count-requires
count_walk-count-requires c = omega (arith, room c, walk-left c.walk_factor-w.result.left c.walk_factor-w.result.end)

pub overflow_add-result : goal.overflow_add-result
overflow_add-result c = omega (arith, room (goal.at.overflow_add-result c).After-walk_factor-w, c.count_walk-count.ensures)

pub returns : goal.returns
returns c =
    let w = c.walk_factor-w in
    counted-due c.args.places.now c.args.seen.now COUNTED c.args.k c.if-seen-k-eq-COUNTED.false w.result.head w.result.left w.result.end _ w.ensures c.args.at _
    (ap (λ (n : ℕ). c.args.at + n) c.count_walk-count.ensures)
