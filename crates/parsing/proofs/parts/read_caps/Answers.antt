-- `parsing::parts::read_caps` meets its contract. Assumes nothing.
use mathlib.Core.Path.{◌≡◌, ap, ◌∙◌}
use Prim.Native.Nat.{ℕ, ◌+◌, ◌≤◌}
use native.Mathlib.Omega.{arith}
use Rattle.std.proofs.lemmas.Result.{err_from_is_err_and}
use Rattle.parsing.specs.parts.Parsing.{room_for}
use Rattle.numerals.specs.Numeral.{got_of}
use Rattle.numerals.specs.parts.Bounds.{ranged}
use Rattle.numerals.proofs.Numerals.{got}
use Rattle.parsing.proofs.Capacities.{size-total, room-min, capping-none, capping-more, capping-stop, capping-done, cap-small}
use Rattle.parsing.proofs.parts.read_caps.Goals as goal
use Rattle.parsing.proofs.parts.read_caps.Goals.{In_ok-m}

-- the capacity read
capacity : (c : In_ok-m) → got c.in_ok-m.m.value c.in_ok-m.m.next ≡ ranged 0 (room_for c.loop-p.total) 3 c.args.file.now c.loop-p.next
unfolding got_of
capacity c = c.in_ok-m.ensures.number ∙ ap (λ (h : ℕ). ranged 0 h 3 c.args.file.now c.loop-p.next) (c.min-high.ensures ∙ room-min c.loop-p.total)

small : (c : In_ok-m) → (c.in_ok-m.m.value ≤ 1023) × (c.loop-p.total + c.in_ok-m.m.value ≤ 4032)
small c =
    cap-small c.args.file.now c.args.at c.args.n c.loop-p.caps c.loop-p.p c.loop-p.next c.loop-p.total c.loop-p.invariant (omega arith) _ _ (capacity c)

pub loop-p-init : goal.loop-p-init
loop-p-init c = capping-none _ _ _ _ c.requires.1

pub overflow_sub-total : goal.overflow_sub-total
overflow_sub-total c = let l = c.loop-p in omega (arith, l.invariant.sum_is, size-total _ l.invariant.good)

pub returns-in_err-m : goal.returns-in_err-m
unfolding got_of
returns-in_err-m c =
    let p = err_from_is_err_and c.from_residual.result c.from_residual.ensures.1 in
    let e = c.in_err-m.ensures in
    rw (p.1, p.2)
    (capping-stop c.args.file.now c.args.at c.args.n c.loop-p.caps c.loop-p.p c.loop-p.next c.loop-p.total c.loop-p.invariant (omega arith) _
    (e.number ∙ ap (λ (h : ℕ). ranged 0 h 3 c.args.file.now c.loop-p.next) (c.min-high.ensures ∙ room-min c.loop-p.total)) e.place)

pub overflow_cast-caps : goal.overflow_cast-caps
overflow_cast-caps c = omega (arith, small (goal.at.overflow_cast-caps c).In_ok-m)

pub overflow_add-total : goal.overflow_add-total
overflow_add-total c = omega (arith, small (goal.at.overflow_add-total c).In_ok-m)

pub loop-p-preserved : goal.loop-p-preserved
loop-p-preserved c =
    capping-more c.args.file.now c.args.at c.args.n c.loop-p.caps c.loop-p.p c.loop-p.next c.loop-p.total c.loop-p.invariant (omega arith) _ _ (capacity (goal.at.loop-p-preserved c).In_ok-m) c.requires.0

pub returns : goal.returns
returns c =
    capping-done c.args.file.now c.args.at c.args.n c.loop-p.caps c.loop-p.p c.loop-p.next c.loop-p.total c.loop-p.invariant (omega arith)
