-- What racks owe in all, and the premise of theorem 2: a rack's free slots and what it is to send are more than what it is to receive. Assumes nothing.
use mathlib.Core.Path.{◌≡◌, refl, ap, sym, ◌∙◌}
use mathlib.Core.Bool.{Bool, true, false, not}
use mathlib.Core.List.{List}
use Prim.Native.Nat.{ℕ, zero, suc, ◌+◌, ◌<◌}
use native.Mathlib.Omega.{arith}
use lib.Dec.{eqb}
use lib.ListN.{length}
use borrow.Author.Tests.{eqb-true, eq-eqb}
use Rattle.counting.specs.Tests.{◌and◌, bit}
use Rattle.counting.specs.Count.{sum, count}
use Rattle.counting.proofs.Tests.{both, and_l, and_r, and-off_l, not_on}
use Rattle.counting.proofs.Count.{count_cong, count_strict, pigeonhole}
use Rattle.counting.proofs.Select.{sum_cong}
use Rattle.counting.proofs.Sums.{count_by}
use Rattle.racks.specs.Racks.{Rack, slots, rack_of, spare_of, is_user}
use Rattle.racks.specs.Table.{dest, free, rack_to, on_rack, away, aways, away_to, bound, owes, free_on}
use Rattle.racks.specs.parts.Legal.{Legal, Spared}
use Rattle.racks.proofs.Geometry.{rack_lt}
use Rattle.racks.proofs.LegalTable.{legal-dest, spare_lt, spare-rack, spare-none}
use Rattle.racks.proofs.Away.{away-held}
use Rattle.plans.specs.Plan.{room}
use Rattle.plans.proofs.Grants.{owes-all}

and_swap : (a b c : Bool) → ((a and b) and c) ≡ ((a and c) and b)
unfolding ◌and◌
and_swap false b c = refl
and_swap true false false = refl
and_swap true false true = refl
and_swap true true false = refl
and_swap true true true = refl

-- a slot that is free (f) or has a card that is on its rack (e) or away; it is on p (x); its card must end on p (y)
slot-bits : (f e x y : Bool) → (e ≡ true → x ≡ y)
    → bit x + bit ((not f and not e) and y) ≡ bit (f and x) + bit ((not f and not e) and x) + bit (not f and y)
unfolding ◌and◌
slot-bits true e x y h = omega arith
slot-bits false true x y h = omega (arith, ap bit (h refl))
slot-bits false false x y h = omega arith

module _ (racks : List Rack) (places : List ℕ) where
  -- slot g is on rack p and has a card that is away
  leaves : ℕ → ℕ → Bool
  leaves p g = away racks places g and eqb (rack_of racks g) p

  module _ (v : Legal racks places) where
    -- a card that is away must end on one of the racks
    to_some : (g : ℕ) → g < slots racks → away racks places g ≡ true → rack_to racks places g < length racks
    unfolding rack_to
    to_some g l a = rack_lt racks (dest places g) (legal-dest racks places v g l (away-held racks places g a))

    -- what rack p owes all racks is how many of its cards are away
    owed_by : (p : ℕ) → sum (length racks) (λ i. owes racks places p i) ≡ count (slots racks) (leaves p)
    unfolding owes bound away_to leaves
    owed_by p =
        sum_cong (length racks) _ _ (λ i _. count_cong (slots racks) (bound racks places p i) (λ g. leaves p g and eqb (rack_to racks places g) i) (λ g _. and_swap (away racks places g) _ _))
        ∙ sym (count_by (slots racks) (length racks) (leaves p) (rack_to racks places) (λ g l a. to_some g l (and_l _ a)))

    -- what all racks owe is how many cards are away
    pub owed-total : sum (length racks) (λ p. sum (length racks) (λ i. owes racks places p i)) ≡ aways racks places
    unfolding aways leaves
    owed-total =
        sum_cong (length racks) _ _ (λ p _. owed_by p)
        ∙ sym (count_by (slots racks) (length racks) (away racks places) (rack_of racks) (λ g l _. rack_lt racks g l))

    -- what all racks are owed too
    pub due-total : sum (length racks) (λ p. sum (length racks) (λ i. owes racks places i p)) ≡ aways racks places
    unfolding aways away_to
    due-total =
        sum_cong (length racks) _ _ (λ p _. owes-all racks places p)
        ∙ sym (count_by (slots racks) (length racks) (away racks places) (rack_to racks places) to_some)

  module _ (p : ℕ) where
    -- slot g is on p
    on_slot : ℕ → Bool
    on_slot g = eqb (rack_of racks g) p

    -- and is a user slot
    user_on : ℕ → Bool
    user_on g = is_user racks g and eqb (rack_of racks g) p

    -- slot g has a card that must end on p
    card_to : ℕ → Bool
    card_to g = not (free places g) and eqb (rack_to racks places g) p

    -- the slots of p and the cards away to p are its free slots, its cards that are away and all cards that must end on p
    slots_of : (n : ℕ) → count n on_slot + count n (away_to racks places p) ≡ count n (free_on racks places p) + count n (leaves p) + count n card_to
    unfolding count on_slot card_to leaves away_to away on_rack free_on
    slots_of zero = refl
    slots_of (suc n) =
        omega (
          arith,
          slots_of n,
          slot-bits (free places n) (eqb (rack_of racks n) (rack_to racks places n)) (eqb (rack_of racks n) p) (eqb (rack_to racks places n) p)
              (λ e. ap (λ (q : ℕ). eqb q p) (eqb-true _ _ e)),
        )

    module _ (v : Legal racks places) (s : Spared racks) (l : p < length racks) where
      -- the cards that must end on p are fewer than its slots: each has a user slot of p, and p has a spare
      cards_fewer : count (slots racks) card_to < count (slots racks) on_slot
      unfolding card_to user_on on_slot rack_to
      cards_fewer =
          let held : (g : ℕ) → card_to g ≡ true → free places g ≡ false = λ g c. not_on (and_l _ c) in
          let few = pigeonhole (slots racks) (slots racks) card_to user_on (dest places)
          (λ g m c. legal-dest racks places v g m (held g c))
          (λ g m c. both (v.named g m (held g c)) (and_r _ c))
          (λ g k m m' c c'. v.once g k m m' (held g c)) in
          let spare = count_strict (slots racks) user_on on_slot (spare_of racks p) (spare_lt racks s p l)
          (and-off_l _ (spare-none racks s p l)) (eq-eqb _ _ (spare-rack racks s p l)) (λ g _ u. and_r _ u) in
          omega arith

      -- theorem 2's premise
      pub extra-some : sum (length racks) (λ i. owes racks places i p) < room racks places p + sum (length racks) (λ i. owes racks places p i)
      unfolding room
      extra-some = omega (arith, owes-all racks places p, owed_by v p, slots_of (slots racks), cards_fewer)
