-- Moves made as single-move calls. Assumes nothing.
use mathlib.Core.Path.{◌≡◌, refl, ap, sym, subst, ◌∙◌}
use mathlib.Core.List.{List, [], ◌∷◌}
use Prim.Native.Nat.{ℕ}
use Rattle.counting.specs.Lists.{Pair, each}
use Rattle.racks.specs.Racks.{Rack}
use Rattle.moves.specs.Moves.{Held, Outcome, carried_places, carried_cards, carried, moved}
use Rattle.moves.specs.Turns.{InTurn}
use Rattle.moves.specs.Turns.InTurn.{stop, next}
use Rattle.conduct.specs.Calls.{called, held_after, singles, AllAccepted}
use Rattle.conduct.proofs.Calls.{Start, start-carried}
use Rattle.conduct.proofs.Points.{allowed-moved}

-- moves that are allowed in turn: as calls each is accepted, and they leave what the moves leave
pub singles-done : {racks : List Rack} {b : ℕ} {h : Held} {ms : List Pair} → Start racks b h → InTurn racks h.places ms
    → AllAccepted racks b h ms × (held_after racks b (singles ms) h ≡ carried b ms h)
unfolding AllAccepted singles each held_after called carried_places carried_cards
singles-done s stop = (tt, refl)
singles-done {racks} {b} {h} s (next {m = m} {ms = ms} a t) =
    let e = allowed-moved s m a in
    let held-is : (moved racks b h m).held ≡ carried b (m ∷ []) h = ap (λ (o : Outcome). o.held) e in
    let r = singles-done (start-carried s (next a stop)) t in (
      (ap (λ (o : Outcome). o.answer) e, subst (λ (x : Held). AllAccepted racks b x ms) (sym held-is) r.0),
      ap (held_after racks b (singles ms)) held-is ∙ r.1,
    )
