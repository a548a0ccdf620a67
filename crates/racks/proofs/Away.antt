-- What the tests of a slot say: away, away to a rack, bound from rack to rack, free on a rack. Assumes nothing.
use mathlib.Core.Path.{◌≡◌, sym, ◌∙◌}
use mathlib.Core.Bool.{true, false}
use mathlib.Core.Logic.{◌≢◌}
use mathlib.Core.List.{List}
use Prim.Native.Nat.{ℕ, ◌≤◌}
use borrow.Author.Tests.{eqb-true, eqb-false, eq-eqb, ne_eqb}
use Rattle.counting.proofs.Tests.{off, both, and_l, and_r, and_true, and-off_r, not_on, not-off}
use Rattle.counting.proofs.Count.{count_le}
use Rattle.racks.specs.Racks.{Rack, slots, rack_of}
use Rattle.racks.specs.Table.{free, rack_to, on_rack, away, aways, away_to, bound, free_on}

module _ (racks : List Rack) (places : List ℕ) where
  -- no more cards are away than there are slots
  pub aways-few : aways racks places ≤ slots racks
  unfolding aways
  aways-few = count_le (slots racks) (away racks places)

  -- where a card is away, the slot is not free
  pub away-held : (g : ℕ) → away racks places g ≡ true → free places g ≡ false
  unfolding away
  away-held g a = not_on (and_l _ a)

  -- and its rack is not the one where the card must end
  pub away-off : (g : ℕ) → away racks places g ≡ true → rack_of racks g ≢ rack_to racks places g
  unfolding away on_rack
  away-off g a = eqb-false _ _ (not_on (and_r _ a))

  -- a card that must end on another rack is away
  pub away-is : (g : ℕ) → free places g ≡ false → rack_of racks g ≢ rack_to racks places g → away racks places g ≡ true
  unfolding away on_rack
  away-is g f d = both (not-off f) (not-off (ne_eqb _ _ d))

  module _ (p g : ℕ) where
    -- a card that is away to p is away
    pub to-away : away_to racks places p g ≡ true → away racks places g ≡ true
    unfolding away_to
    to-away a = and_l _ a

    -- and must end on p
    pub to-rack : away_to racks places p g ≡ true → rack_to racks places g ≡ p
    unfolding away_to
    to-rack a = eqb-true _ _ (and_r _ a)

    -- no slot of p has a card away to p
    pub to-own : rack_of racks g ≡ p → away_to racks places p g ≡ false
    to-own e = off (λ a. away-off g (to-away a) (e ∙ sym (to-rack a)))

    -- a card that is away and must end on p is away to p
    pub to_is : away racks places g ≡ true → rack_to racks places g ≡ p → away_to racks places p g ≡ true
    unfolding away_to
    to_is a e = both a (eq-eqb _ _ e)

    -- a free slot of p is free
    pub on-free : free_on racks places p g ≡ true → free places g ≡ true
    unfolding free_on
    on-free f = and_l _ f

    -- and on p
    pub on-rack : free_on racks places p g ≡ true → rack_of racks g ≡ p
    unfolding free_on
    on-rack f = eqb-true _ _ (and_r _ f)

    -- a slot that is free and on p is a free slot of p
    pub on-is : free places g ≡ true → rack_of racks g ≡ p → free_on racks places p g ≡ true
    unfolding free_on
    on-is f e = both f (eq-eqb _ _ e)

    -- in a slot of p, a free slot is one of p
    pub free_on_lem : rack_of racks g ≡ p → free_on racks places p g ≡ free places g
    unfolding free_on
    free_on_lem e = and_true _ (eq-eqb _ _ e)

    -- in a slot of another rack none is
    pub free_off : rack_of racks g ≢ p → free_on racks places p g ≡ false
    unfolding free_on
    free_off d = and-off_r _ (ne_eqb _ _ d)

    -- in a slot of rack i: bound from i for p is away to p
    pub bound-on : (i : ℕ) → rack_of racks g ≡ i → bound racks places i p g ≡ away_to racks places p g
    unfolding bound
    bound-on i e = and_true _ (eq-eqb _ _ e)

    -- in a slot of another rack nothing is bound from i
    pub bound-off : (i : ℕ) → rack_of racks g ≢ i → bound racks places i p g ≡ false
    unfolding bound
    bound-off i d = and-off_r _ (ne_eqb _ _ d)
