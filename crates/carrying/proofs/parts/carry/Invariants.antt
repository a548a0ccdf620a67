use mathlib.Core.Path.{◌≡◌}
use Prim.Native.Nat.{◌+◌, ◌<◌}
use lib.ListN.{length}
use Rattle.answers.specs.Answers.{plus_moves}
use Rattle.moves.specs.Moves.{carried, held}
use Rattle.carrying.specs.parts.Carrying.{unflat, AllSlots}
use Rattle.carrying.proofs.Carries.{Carrying}
use Rattle.carrying.proofs.parts.carry.Given as goal

abbrev pub invariant-loop-pair : goal.invariant-loop-pair
invariant-loop-pair l =
    let left = l.pair-iterator in
    let ms = unflat left.rest.now in
    (left.size ≡ 2) × (l.made.moves + length left.rest.now < 18446744073709551615) × AllSlots (length l.initial.places) ms
    × Carrying l.b ms (held l.places l.cards) (carried l.b (unflat l.pairs) (held l.initial.places l.initial.cards)) l.made (plus_moves (length (unflat l.pairs)) l.initial.made)
