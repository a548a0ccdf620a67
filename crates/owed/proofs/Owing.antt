-- What racks owe and await, kept through moves: each move is paid for in the table of counts. Assumes nothing.
use mathlib.Core.Path.{◌≡◌, refl, ap, sym, ◌∙◌}
use mathlib.Core.Bool.{true, false}
use mathlib.Core.List.{List, ◌∷◌}
use Prim.Native.Nat.{ℕ, ◌-◌, ◌≤◌, ◌<◌}
use native.Mathlib.Omega.{arith}
use lib.ListN.{length, get_or, length-set}
use lib.Seq.{get_or-set_same, get_or-set_other}
use borrow.Author.Tests.{eqb-true, eq-eqb, ne_eqb}
use Rattle.counting.specs.Tests.{bit}
use Rattle.counting.specs.Lists.{Pair}
use Rattle.counting.proofs.Tests.{by-test, no_way, both, and_l, and_r, not-off, not-off-is}
use Rattle.racks.specs.Racks.{Rack, slots, rack_of}
use Rattle.racks.specs.Table.{owes}
use Rattle.racks.proofs.Geometry.{rack_lt}
use Rattle.racks.specs.parts.Legal.{Legal}
use Rattle.tables.specs.parts.Tables.{Filled}
use Rattle.plans.specs.Allowed.{Allowed}
use Rattle.owed.specs.parts.Owed.{cell, Owed}
use Rattle.moves.specs.Moves.{moved_places, carried_places, between}
use Rattle.moves.proofs.Moved.{legal-moved, allowed-free}
use Rattle.moves.specs.Turns.{InTurn}
use Rattle.moves.proofs.Carry.{owes-step, awaits-owes}
use Rattle.moves.specs.Turns.InTurn.{stop, next}
use Rattle.owed.specs.parts.Kept.{cell_of, pay, paid, Payable, Awaited, owing}
use Rattle.owed.specs.parts.Kept.Payable.{none, more}

module _ {racks : List Rack} (racking : List ℕ) (filled : Filled racks racking) (few : length racks ≤ 64) (small : slots racks ≤ 4096) where
  -- one move
  module _ {places : List ℕ} {m : Pair} {counts : List ℕ} (l : Legal racks places) (a : Allowed racks places m) (o : Owed racks places counts) where
    from_lt : rack_of racks m.0 < length racks
    from_lt = rack_lt racks m.0 a.from_lt

    to_lt : rack_of racks m.1 < length racks
    to_lt = rack_lt racks m.1 a.to_lt

    -- the racks of its ends say where it stands in the counts
    cell-is : cell_of racking m ≡ cell (rack_of racks m.0) (rack_of racks m.1)
    unfolding cell_of
    cell-is = rw (filled m.0 a.from_lt, filled m.1 a.to_lt)

    cell-owes : get_or counts (cell_of racking m) 0 ≡ owes racks places (rack_of racks m.0) (rack_of racks m.1)
    cell-owes = rw cell-is (o.counts _ _ (omega (arith, from_lt)) (omega (arith, to_lt)))

    -- it is owed
    owed-first : 0 < get_or counts (cell_of racking m) 0
    unfolding between
    owed-first =
        let i : ℕ = rack_of racks m.0 in
        let p : ℕ = rack_of racks m.1 in
        let e : between racks i p m ≡ true = both (eq-eqb i i refl) (eq-eqb p p refl) in
        omega (arith, ap bit e, cell-owes, owes-step l a i p)

    -- so it can be paid for, where those after it can
    payable-first : {ms : List Pair} → Payable racking ms (pay racking m counts) → Payable racking (m ∷ ms) counts
    payable-first r =
        let x : get_or racking m.0 0 < 64 = omega (arith, filled m.0 a.from_lt, from_lt) in
        let y : get_or racking m.1 0 < 64 = omega (arith, filled m.1 a.to_lt, to_lt) in
        more {m = m} {counts = counts} (omega (arith, a.from_lt)) (omega (arith, a.to_lt)) x y owed-first r

    -- the counts with the move paid for are those of the table after it
    owed-pay : Owed racks (moved_places m places) (pay racking m counts)
    unfolding pay between
    owed-pay = record {
      counts = λ i p li lp. by-test (between racks i p m)
          (λ e.
          let x : rack_of racks m.0 ≡ i = eqb-true _ _ (and_l _ e) in
          let y : rack_of racks m.1 ≡ p = eqb-true _ _ (and_r _ e) in
          let k : cell i p ≡ cell_of racking m = rw (← x, ← y) (sym cell-is) in
          rw (k, get_or-set_same counts (cell_of racking m) (get_or counts (cell_of racking m) 0 - 1) 0 (omega (arith, cell-is, from_lt, to_lt, o.long)))
          (omega (arith, ap bit e, owes-step l a i p, rw (x, y) at cell-owes)))
          (λ e.
          get_or-set_other counts (cell_of racking m) (cell i p) (get_or counts (cell_of racking m) 0 - 1) 0
          (λ k. no_way
          (both (eq-eqb (rack_of racks m.0) i (omega (arith, cell-is, from_lt, to_lt)))
          (eq-eqb (rack_of racks m.1) p (omega (arith, cell-is, from_lt, to_lt)))) e)
          ∙ (o.counts i p li lp ∙ omega (arith, ap bit e, owes-step l a i p)));
      long = simp length-set o.long;
    }

  -- counts of what racks owe, with moves paid for, are those of the table after the moves
  pub owed_paid : {places : List ℕ} {ms : List Pair} {counts : List ℕ} → Legal racks places → InTurn racks places ms → Owed racks places counts
      → Owed racks (carried_places ms places) (paid racking ms counts)
  unfolding carried_places paid
  owed_paid l stop o = o
  owed_paid l (next a t) o = owed_paid (legal-moved l (allowed-free a)) t (owed-pay l a o)

  -- and each move is owed when its turn comes
  pub owed-payable : {places : List ℕ} {ms : List Pair} {counts : List ℕ} → Legal racks places → InTurn racks places ms → Owed racks places counts
      → Payable racking ms counts
  owed-payable l stop o = none
  owed-payable l (next a t) o = payable-first l a o (owed-payable (legal-moved l (allowed-free a)) t (owed-pay l a o))

module _ {racks : List Rack} {start : List ℕ} {made : List Pair} (l : Legal racks start) (t : InTurn racks start made) where
  -- counts of what racks owe after the moves made are counts of what they await then
  pub awaited-is : {counts : List ℕ} → Owed racks (carried_places made start) counts → Awaited racks start made counts
  awaited-is o = record { counts = λ i p li lp. o.counts i p li lp ∙ sym (awaits-owes l t i p); long = o.long }

  -- and counts of what they await are counts of what they owe then
  pub awaited-owed : {counts : List ℕ} → Awaited racks start made counts → Owed racks (carried_places made start) counts
  awaited-owed a = record { counts = λ i p li lp. a.counts i p li lp ∙ awaits-owes l t i p; long = a.long }

-- a cell with no count, and one with a count
pub owing-none : (counts : List ℕ) (k : ℕ) → get_or counts k 0 ≡ 0 → owing counts k ≡ false
unfolding owing
owing-none counts k e = rw (eq-eqb (get_or counts k 0) 0 e)

pub owing-some : (counts : List ℕ) (k : ℕ) → (get_or counts k 0 ≡ 0 → ⊥) → owing counts k ≡ true
unfolding owing
owing-some counts k f = not-off (ne_eqb (get_or counts k 0) 0 f)

pub none-owing : (counts : List ℕ) (k : ℕ) → owing counts k ≡ false → get_or counts k 0 ≡ 0
unfolding owing
none-owing counts k e = eqb-true _ _ (not-off-is e)
