-- The free slots of each rack, after one move and after a list of moves. Assumes nothing.
use mathlib.Core.Path.{◌≡◌, refl, sym, ap, ◌∙◌}
use mathlib.Core.Bool.{Bool, false}
use mathlib.Core.Logic.{◌≢◌}
use mathlib.Core.List.{List}
use Prim.Native.Nat.{ℕ, suc, ◌+◌, ◌<◌}
use native.Mathlib.Omega.{arith}
use native.Mathlib.Decide.{ℕ_discrete}
use lib.Dec.{eqb}
use lib.ListN.{length}
use borrow.Author.Tests.{eqb-false, eq-eqb, ne_eqb}
use Rattle.counting.specs.Tests.{◌and◌, bit}
use Rattle.counting.specs.Count.{sum}
use Rattle.counting.specs.Lists.{Pair, matching}
use Rattle.counting.proofs.Tests.{and-off_l, and-off_r, and_true, both, not_on, and_r}
use Rattle.counting.proofs.Count.{count_cong, count_change}
use Rattle.counting.proofs.Sums.{sum-none, sum-add, sum_one}
use Rattle.racks.specs.Racks.{Rack, slots, rack_of}
use Rattle.racks.specs.Table.{free, on_rack, away, free_on}
use Rattle.racks.specs.parts.Legal.{Legal}
use Rattle.racks.proofs.Geometry.{rack_lt}
use Rattle.plans.specs.Plan.{room}
use Rattle.plans.specs.Allowed.{Allowed}
use Rattle.moves.specs.Moves.{moved_places, carried_places, between}
use Rattle.moves.specs.Turns.{InTurn}
use Rattle.moves.specs.Turns.InTurn.{stop, next}
use Rattle.moves.proofs.Moved.{legal-moved, allowed-free, free-from, same-free, taken-to}

-- a move lands on rack p
unfoldable pub lands : List Rack → ℕ → Pair → Bool
lands racks p m = eqb (rack_of racks m.1) p

module _ {racks : List Rack} {places : List ℕ} {m : Pair} (l : Legal racks places) (a : Allowed racks places m) where
  -- the two ends of an allowed move are on two racks
  ends-differ : rack_of racks m.0 ≢ rack_of racks m.1
  unfolding away on_rack
  ends-differ e = eqb-false _ _ (not_on (and_r _ a.is-away)) (e ∙ a.meets)

  -- a slot of another rack is no free slot of p
  other-rack : (places' : List ℕ) (p g : ℕ) → rack_of racks g ≢ p → free_on racks places' p g ≡ false
  unfolding free_on
  other-rack places' p g d = and-off_r (free places' g) (ne_eqb _ _ d)

  -- a slot that is no end is free on p as it was
  same-on : (p g : ℕ) → g ≢ m.0 → g ≢ m.1 → free_on racks (moved_places m places) p g ≡ free_on racks places p g
  unfolding free_on
  same-on p g d e = rw (same-free l (allowed-free a) g d e)

  -- the rack that a card leaves has one free slot more
  room-from : room racks (moved_places m places) (rack_of racks m.0) ≡ suc (room racks places (rack_of racks m.0))
  unfolding room free_on
  room-from = count_change (slots racks) _ _ m.0 a.from_lt
      (both (free-from l (allowed-free a)) (eq-eqb (rack_of racks m.0) _ refl))
      (and-off_l _ (allowed-free a).is_held)
      (λ j _ d. elim (ℕ_discrete j m.1) [
        | yes e ↦ rw e (other-rack (moved_places m places) (rack_of racks m.0) m.1 (λ q. ends-differ (sym q)) ∙ sym (other-rack places (rack_of racks m.0) m.1 (λ q. ends-differ (sym q))))
        | no e ↦ same-on (rack_of racks m.0) j d e
      ])

  -- the rack that it comes to has one less
  room-to : room racks places (rack_of racks m.1) ≡ suc (room racks (moved_places m places) (rack_of racks m.1))
  unfolding room free_on
  room-to = count_change (slots racks) _ _ m.1 a.to_lt
      (both a.is_free (eq-eqb (rack_of racks m.1) _ refl))
      (and-off_l _ (taken-to l (allowed-free a)))
      (λ j _ d. elim (ℕ_discrete j m.0) [
        | yes e ↦ rw e (other-rack places (rack_of racks m.1) m.0 ends-differ ∙ sym (other-rack (moved_places m places) (rack_of racks m.1) m.0 ends-differ))
        | no e ↦ sym (same-on (rack_of racks m.1) j e d)
      ])

  -- any other has as many
  room_else : (p : ℕ) → rack_of racks m.0 ≢ p → rack_of racks m.1 ≢ p → room racks (moved_places m places) p ≡ room racks places p
  unfolding room
  room_else p d e = count_cong (slots racks) _ _ (λ j _. elim (ℕ_discrete j m.0) [
    | yes i ↦ rw i (other-rack (moved_places m places) p m.0 d ∙ sym (other-rack places p m.0 d))
    | no i ↦ elim (ℕ_discrete j m.1) [
      | yes k ↦ rw k (other-rack (moved_places m places) p m.1 e ∙ sym (other-rack places p m.1 e))
      | no k ↦ same-on p j i k
    ]
  ])

  -- the room of each rack: one more where the move came from, one less where it went
  pub room_moved : (p : ℕ) → room racks places p + bit (eqb (rack_of racks m.0) p) ≡ room racks (moved_places m places) p + bit (lands racks p m)
  unfolding lands
  room_moved p = elim (ℕ_discrete (rack_of racks m.0) p) [
    | yes e ↦ rw (← e) (omega (arith, room-from, ap bit (eq-eqb (rack_of racks m.0) (rack_of racks m.0) refl), ap bit (ne_eqb (rack_of racks m.1) (rack_of racks m.0) (λ q. ends-differ (sym q)))))
    | no d ↦ elim (ℕ_discrete (rack_of racks m.1) p) [
      | yes e ↦ rw (← e) (omega (arith, room-to, ap bit (eq-eqb (rack_of racks m.1) (rack_of racks m.1) refl), ap bit (ne_eqb (rack_of racks m.0) (rack_of racks m.1) ends-differ)))
      | no f ↦ omega (arith, room_else p d f, ap bit (ne_eqb (rack_of racks m.0) p d), ap bit (ne_eqb (rack_of racks m.1) p f))
    ]
  ]

-- of all racks, one is where a move lands, and one where it comes from
module _ (racks : List Rack) (m : Pair) (p : ℕ) where
  -- the moves from any rack to p
  to-all : m.0 < slots racks → sum (length racks) (λ i. bit (between racks i p m)) ≡ bit (lands racks p m)
  unfolding between lands ◌and◌
  to-all l =
      let i : ℕ = rack_of racks m.0 in
      sum_one (length racks) (λ i. bit (between racks i p m)) i (rack_lt racks m.0 l) (λ j _ d. ap bit (and-off_l _ (ne_eqb i j (λ e. d (sym e)))))
      ∙ rw (eq-eqb i i refl)

  -- the moves from p to any rack
  from_all : m.1 < slots racks → sum (length racks) (λ i. bit (between racks p i m)) ≡ bit (eqb (rack_of racks m.0) p)
  unfolding between
  from_all l =
      let i : ℕ = rack_of racks m.1 in
      sum_one (length racks) (λ i. bit (between racks p i m)) i (rack_lt racks m.1 l) (λ j _ d. ap bit (and-off_r _ (ne_eqb i j (λ e. d (sym e)))))
      ∙ ap bit (and_true _ (eq-eqb i i refl))

-- a list of moves: each rack has more by what left it and less by what it received
pub room-carried : {racks : List Rack} {places : List ℕ} {ms : List Pair} → Legal racks places → InTurn racks places ms → (p : ℕ)
    → room racks places p + sum (length racks) (λ i. matching (between racks p i) ms)
    ≡ room racks (carried_places ms places) p + sum (length racks) (λ i. matching (between racks i p) ms)
unfolding carried_places matching
room-carried {racks} l stop p = omega (arith, sum-none (length racks) (λ _. 0) (λ _ _. refl))
room-carried {racks} l (next {m} {ms} a t) p =
    omega (
      arith,
      room_moved l a p,
      room-carried (legal-moved l (allowed-free a)) t p,
      to-all racks m p a.from_lt,
      from_all racks m p a.to_lt,
      sum-add (length racks) (λ i. bit (between racks p i m)) (λ i. matching (between racks p i) ms),
      sum-add (length racks) (λ i. bit (between racks i p m)) (λ i. matching (between racks i p) ms),
    )
