use mathlib.Core.Path.{◌≡◌}
use Prim.Native.Nat.{◌*◌}
use lib.ListN.{take, drop}
use lib.Seq.{sets}
use Rattle.carrying.proofs.parts.copy_card.Given as goal

abbrev pub invariant-loop-i : goal.invariant-loop-i
invariant-loop-i l = l.cards ≡ sets l.initial.cards (l.to * l.b) (take l.i (drop (l.from * l.b) l.initial.cards))
