use native.Mathlib.Omega.{arith}
use mathlib.Core.Path.{◌≡◌, sym, ap, ◌∙◌}
use Prim.Native.Nat.{◌+◌, ◌*◌, ◌<◌, min}
use lib.ListN.{length, length-drop}
use Rattle.queues.proofs.Openings.{word-part, pieces-more, free-set-none, free-set-more, free-set-all}
use Rattle.queues.proofs.parts.openings.find_free.Goals as goal
use Rattle.queues.proofs.parts.openings.find_free.Goals.{In-Some}

pub loop-w-init : goal.loop-w-init
loop-w-init c =
    let i = c.into_iter-w-iterator.ensures.into_iter_gives in
    let e = c.enumerate-w-items.ensures in
    rw (i, e.source, e.count) (c.chunks.ensures.size, c.chunks.ensures.rest, free-set-none _ c.requires.1)

-- a piece of slots is left
within : (c : In-Some) → c.loop-w.w-iterator.count * 64 < length c.args.places.now
within c =
    let l = c.loop-w in
    omega (arith, c.in-Some.ensures.steps.0.1.2, ap length l.invariant.1, length-drop (l.w-iterator.count * 64) c.args.places.now)

pub fill_word-requires : goal.fill_word-requires
fill_word-requires c = (c.loop-w.invariant.2.topped.long, omega (arith, within (goal.at.fill_word-requires c).In-Some, c.in-Some.ensures.steps.1))

pub loop-w-preserved : goal.loop-w-preserved
loop-w-preserved c =
    let places = c.args.places.now in
    let i = c.loop-w.invariant in
    let h = c.in-Some.ensures.steps in
    let long : length c.in-Some.slots.now ≡ min 64 (length c.loop-w.w-iterator.iter.rest.now) = rw i.0 at h.0.1.1 in
    let behind : c.loop-w.w-iterator.count * 64 + length c.in-Some.slots.now ≡ min (c.loop-w.w-iterator.count * 64 + 64) (length places) =
    omega (arith, ap length i.1, length-drop (c.loop-w.w-iterator.count * 64) places) in (
      h.0.0 ∙ i.0,
      rw h.2 (pieces-more places _ _ _ _ i.1 h.0.1.0 long),
      rw (h.2, c.fill_word.ensures, h.1)
          (free-set-more places c.requires.0 i.2 (within (goal.at.loop-w-preserved c).In-Some) behind (word-part places _ _ _ (sym i.1 ∙ h.0.1.0) _ c.free_word.ensures)),
    )

pub returns : goal.returns
returns c =
    let l = c.loop-w in
    free-set-all c.args.places.now l.invariant.2 (omega (arith, c.in-None.ensures.steps.0.1.0, ap length l.invariant.1, length-drop (l.w-iterator.count * 64) c.args.places.now))
