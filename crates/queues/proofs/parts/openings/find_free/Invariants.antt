use mathlib.Core.Path.{◌≡◌}
use Prim.Native.Nat.{◌*◌}
use lib.ListN.{drop}
use Rattle.queues.proofs.Openings.{FreeSetTo}
use Rattle.queues.proofs.parts.openings.find_free.Given as goal

abbrev pub invariant-loop-w : goal.invariant-loop-w
invariant-loop-w l =
    let left = l.w-iterator in
    (left.iter.size ≡ 64) × (left.iter.rest.now ≡ drop (left.count * 64) l.places) × FreeSetTo l.places left.count l.bits
