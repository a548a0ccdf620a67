use native.Mathlib.Omega.{arith}
use Prim.Native.Nat.{◌*◌, ◌≤◌, ◌<◌}
use lib.ListN.{length}
use Rattle.spans.proofs.Spans.{spanned-none, spanned-up, spanned-long, spanned-more, spanned-all, spanned-full}
use Rattle.spans.proofs.parts.put_span.Goals as goal
use Rattle.spans.proofs.parts.put_span.Goals.{Else-next-stop}

pub loop-g-init : goal.loop-g-init
loop-g-init c = spanned-none _ _ _ _ _ _ (omega arith) (omega arith)

pub returns-then-next-stop : goal.returns-then-next-stop
returns-then-next-stop c = spanned-full _ _ _ _ _ _ _ _ _ c.loop-g.invariant (omega arith)

-- the slots and pairs that are left, and the list
within : (c : Else-next-stop) → c.loop-g.g ≤ 4096
within c = omega (arith, c.loop-g.invariant.within, c.requires.1.within, c.requires.1.small)

left : (c : Else-next-stop) → c.loop-g.next < c.args.stop
left c = omega (arith, spanned-up _ _ _ _ _ _ _ _ _ c.loop-g.invariant)

room : (c : Else-next-stop) → 2 * c.args.stop ≤ length c.loop-g.lent
room c = omega (arith, spanned-long _ _ _ _ _ _ _ _ _ c.loop-g.invariant, c.requires.1.room)

pub overflow_add-g : goal.overflow_add-g
overflow_add-g c = omega (arith, within c)

pub put_piece-requires : goal.put_piece-requires
put_piece-requires c =
    let l = c.loop-g in
    (record { within = omega (arith, c.requires.1.within, l.invariant.from); small = c.requires.1.small; fits = c.requires.1.fits; room = room (goal.at.put_piece-requires c).Else-next-stop }, left (goal.at.put_piece-requires c).Else-next-stop)

pub returns-then-high-g : goal.returns-then-high-g
returns-then-high-g c =
    let l = c.loop-g in
    spanned-all _ _ _ _ _ _ _ _ _ (spanned-more _ _ _ _ _ _ _ _ _ l.invariant _ (omega (arith, l.invariant.within)) _ _ c.put_piece.ensures) (omega (arith, l.invariant.within))

pub put_piece-next-requires : goal.put_piece-next-requires
put_piece-next-requires c =
    let l = c.loop-g in
    (record { within = omega (arith, c.requires.1.within, l.invariant.from); small = c.requires.1.small; fits = c.requires.1.fits; room = room (goal.at.put_piece-next-requires c).Else-next-stop }, left (goal.at.put_piece-next-requires c).Else-next-stop)

pub loop-g-preserved : goal.loop-g-preserved
loop-g-preserved c =
    let l = c.loop-g in
    spanned-more _ _ _ _ _ _ _ _ _ l.invariant 64 (omega arith) _ _ c.put_piece-next.ensures

pub returns-else-high-g : goal.returns-else-high-g
returns-else-high-g c =
    let l = c.loop-g in
    spanned-all _ _ _ _ _ _ _ _ _ (spanned-more _ _ _ _ _ _ _ _ _ l.invariant 64 (omega arith) _ _ c.put_piece-next.ensures) (omega arith)

pub returns : goal.returns
returns c = spanned-all _ _ _ _ _ _ _ _ _ c.loop-g.invariant (omega arith)
