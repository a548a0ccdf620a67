-- The grants of a rack, source by source, are first fit over the slots. Assumes nothing.
use mathlib.Core.Path.{◌≡◌, ap, sym, ◌∙◌}
use mathlib.Core.Bool.{false}
use mathlib.Core.Logic.{◌≢◌}
use mathlib.Core.List.{List, [], ◌∷◌, ◌++◌}
use Prim.Native.Nat.{ℕ, zero, suc, ◌-◌, ◌≤◌, ◌<◌, min}
use native.Mathlib.Omega.{arith}
use native.Mathlib.Decide.{ℕ_discrete}
use lib.ListN.{length, take, length-take}
use lib.Seq.{take-nil}
use borrow.Author.Tests.{eqb-true}
use Rattle.counting.specs.Count.{sum, count, select}
use Rattle.counting.specs.Lists.{tabulate, join, each, pair_up}
use Rattle.counting.proofs.Tests.{not-off-is}
use Rattle.counting.specs.Every.{All, Pairwise}
use Rattle.counting.proofs.Every.{all_take, pairwise_take, pairwise_map}
use Rattle.counting.proofs.Select.{Hit, select-none, length-select, all-select, select_ascends, select-split, select_short, sum_cong}
use Rattle.counting.proofs.Lists.{take-append, take_min, join_more, length-join, join-select}
use Rattle.counting.proofs.Pairs.{length-pair_up, pair_up-take}
use Rattle.racks.specs.Racks.{Rack, base, slots, rack_of}
use Rattle.racks.specs.Table.{away_to, bound, owes, free_on}
use Rattle.racks.proofs.Geometry.{base-zero, base_mono, end_le, slots-is, rack-is, rack_in}
use Rattle.racks.proofs.Away.{to-own, bound-on, bound-off}
use Rattle.plans.specs.Plan.{other, sources, lowest, granted, open_slots, room, arrivals, plan_for}

-- the cards in rack i bound for rack p, by slot
unfoldable pub cards_for : List Rack → List ℕ → ℕ → ℕ → List ℕ
cards_for racks places p i = select (slots racks) (bound racks places i p)

module _ (racks : List Rack) (places : List ℕ) (p : ℕ) where
  -- what rack i owes p is how many they are
  cards-owed : (i : ℕ) → owes racks places i p ≡ length (cards_for racks places p i)
  unfolding owes cards_for
  cards-owed i = sym (length-select (slots racks) (bound racks places i p))

  -- any sources, in any order: of their cards bound for p, source after source, the first r are granted
  pub granted-are : (r : ℕ) (is : List ℕ) → granted racks places p r is ≡ take r (join (each (cards_for racks places p) is))
  unfolding granted lowest cards_for join each
  granted-are r [] = rw take-nil
  granted-are r (i ∷ is) =
      let left : r - min r (owes racks places i p) ≡ r - length (cards_for racks places p i) = omega (arith, cards-owed i) in
      rw (
        left,
        granted-are (r - length (cards_for racks places p i)) is,
        cards-owed i,
        take_min r (cards_for racks places p i),
        take-append r (cards_for racks places p i),
      )

  -- no card of p itself is bound for p
  own-none : cards_for racks places p p ≡ []
  unfolding cards_for
  own-none = select-none (slots racks) (bound racks places p p) (λ k l. elim (ℕ_discrete (rack_of racks k) p) [
    | yes e ↦ bound-on racks places p k p e ∙ to-own racks places p k e
    | no d ↦ bound-off racks places p k p d
  ])

  -- in a slot outside rack i's no card is bound from i
  outside : (i k : ℕ) → k < slots racks → (base racks i ≤ k → k < base racks (suc i) → ⊥) → bound racks places i p k ≡ false
  outside i k l f = bound-off racks places p k i (λ e. let b = rack_in racks i k l e in f b.0 b.1)

  -- one rack more: to the cards away to p below rack i come those of i bound for p
  rack-more : (i : ℕ) → i < length racks → select (base racks (suc i)) (away_to racks places p) ≡ select (base racks i) (away_to racks places p) ++ cards_for racks places p i
  unfolding cards_for
  rack-more i l =
      let up : base racks i ≤ base racks (suc i) = base_mono racks i (suc i) (omega arith) in
      let fits : base racks (suc i) ≤ slots racks = end_le racks i l in
      rw (select_short (base racks (suc i)) (slots racks) (bound racks places i p) fits (λ k m m'. outside i k m' (λ _ h. omega arith)))
      (select-split (base racks i) (base racks (suc i)) (away_to racks places p) (bound racks places i p) up
      (λ k m. outside i k (omega arith) (λ h _. omega arith)) (λ k m m'. sym (bound-on racks places p k i (rack-is racks i k l m m'))))

  -- so rack by rack: the cards bound for p of the first n racks
  racks-below : (n : ℕ) → n ≤ length racks → join (tabulate n (cards_for racks places p)) ≡ select (base racks n) (away_to racks places p)
  racks-below zero l = unfold tabulate join select in rw (base-zero racks)
  racks-below (suc n) l = rw (join_more n (cards_for racks places p), racks-below n (omega arith), rack-more n l)

  -- of all racks: those of all slots
  pub racks-all : join (tabulate (length racks) (cards_for racks places p)) ≡ select (slots racks) (away_to racks places p)
  racks-all = racks-below (length racks) (omega arith) ∙ rw (slots-is racks)

  -- the sources in ascending order: all cards away to p, by slot
  pub sources-all : join (each (cards_for racks places p) (sources racks p)) ≡ select (slots racks) (away_to racks places p)
  unfolding sources other
  sources-all =
      join-select (length racks) (other p) (cards_for racks places p)
      (λ k l h. let e : k ≡ p = eqb-true k p (not-off-is h) in rw e own-none)
      ∙ racks-all

  -- rack p owes itself nothing
  pub own-owes : owes racks places p p ≡ 0
  own-owes = cards-owed p ∙ rw own-none

  -- what all racks owe p is how many cards are away to p
  pub owes-all : sum (length racks) (λ i. owes racks places i p) ≡ count (slots racks) (away_to racks places p)
  owes-all =
      sum_cong (length racks) (λ i. owes racks places i p) (λ i. length (cards_for racks places p i)) (λ i _. cards-owed i)
      ∙ sym (length-join (length racks) (cards_for racks places p))
      ∙ ap length racks-all
      ∙ length-select (slots racks) (away_to racks places p)

  -- the cards that arrive at p are, of those away to p, as many in the lowest slots as p has free slots
  pub arrivals-are : arrivals racks places p ≡ take (room racks places p) (select (slots racks) (away_to racks places p))
  unfolding arrivals
  arrivals-are = granted-are (room racks places p) (sources racks p) ∙ rw sources-all

  -- each is a slot with a card away to p
  pub arrivals-all : All (Hit (slots racks) (away_to racks places p)) (arrivals racks places p)
  arrivals-all = rw arrivals-are (all_take (room racks places p) (all-select (slots racks) (away_to racks places p)))

  -- no two are the same slot
  pub arrivals-apart : Pairwise ◌≢◌ (arrivals racks places p)
  arrivals-apart = rw arrivals-are (pairwise_take (room racks places p) (pairwise_map (λ j k l e. omega arith) (select_ascends (slots racks) (away_to racks places p))))

  -- they are as many as p has free slots, or all that are away to p
  pub length-arrivals : length (arrivals racks places p) ≡ min (room racks places p) (count (slots racks) (away_to racks places p))
  length-arrivals = rw (arrivals-are, length-take, length-select (slots racks) (away_to racks places p))

  -- r is how many free slots p has
  pub length_open : length (open_slots racks places p) ≡ room racks places p
  unfolding open_slots room
  length_open = length-select (slots racks) (free_on racks places p)

  -- the pairs of target p are as many as it has free slots, or as cards are away to it
  pub length-plan_for : length (plan_for racks places p) ≡ min (room racks places p) (count (slots racks) (away_to racks places p))
  unfolding plan_for
  length-plan_for = omega (arith, length-pair_up (arrivals racks places p) (open_slots racks places p), length-arrivals, length_open)

  -- the pairs of target p: the cards away to it, by slot, with its free slots, from the lowest up, as far as both go
  pub plan_for-is : plan_for racks places p ≡ pair_up (select (slots racks) (away_to racks places p)) (open_slots racks places p)
  unfolding plan_for
  plan_for-is = rw (arrivals-are, ← length_open) (pair_up-take _ (open_slots racks places p))
