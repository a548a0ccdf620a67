use native.Mathlib.Omega.{arith}
use Prim.Native.Nat.{◌≤◌}
use mathlib.Core.Path.{◌≡◌, refl, sym}
use lib.ListN.{get_or}
use Rattle.counting.proofs.Select.{sum-zero, sum_more}
use Rattle.racks.specs.Racks.{of_caps, users}
use Rattle.racks.proofs.Caps.{length-caps, users-caps, size-rack, size-all, size-good, total-is}
use borrow.Author.Count.{below_more}
use Rattle.racks.proofs.parts.check_sizes.Goals as goal

pub loop-m-init : goal.loop-m-init
loop-m-init c = (sym (sum-zero _), omega arith, λ k l. absurd (omega arith))

pub returns-then-m-gt-MAX_USERS : goal.returns-then-m-gt-MAX_USERS
returns-then-m-gt-MAX_USERS c =
    let caps = c.args.caps.now in
    let racks = of_caps caps in
    let m = c.loop-m.m-index in
    let u : users racks m ≡ get_or caps m 0 = users-caps caps m (omega arith) in
    (size-rack racks m (omega (arith, length-caps caps)) (omega (arith, u)), refl)

pub loop-m-preserved : goal.loop-m-preserved
loop-m-preserved c =
    let caps = c.args.caps.now in
    let u : users (of_caps caps) c.loop-m.m-index ≡ get_or caps c.loop-m.m-index 0 = users-caps caps c.loop-m.m-index (omega arith) in
    (omega (arith, sum_more c.loop-m.m-index (users (of_caps caps)), c.loop-m.invariant.0), omega arith, below_more (λ k. users (of_caps caps) k ≤ 1023) c.loop-m.m-index c.loop-m.invariant.2 (omega arith))

pub returns-then-total-gt-MAX_TOTAL : goal.returns-then-total-gt-MAX_TOTAL
returns-then-total-gt-MAX_TOTAL c =
    let caps = c.args.caps.now in
    let racks = of_caps caps in
    (size-all racks (omega (arith, c.loop-m.invariant.0, total-is racks c.loop-m.m-index (omega (arith, length-caps caps)))), refl)

pub returns : goal.returns
returns c =
    let caps = c.args.caps.now in
    let racks = of_caps caps in
    size-good racks (λ k h. c.loop-m.invariant.2 k (omega (arith, length-caps caps))) (omega (arith, c.loop-m.invariant.0, total-is racks c.loop-m.m-index (omega (arith, length-caps caps))))
