-- Who waits after moves: the cards away to a rack are those before, without the cards carried. Assumes nothing.
use mathlib.Core.Path.{◌≡◌, refl, ap, sym, ◌∙◌}
use mathlib.Core.Bool.{Bool, true, false}
use mathlib.Core.Logic.{◌≢◌}
use mathlib.Core.List.{List, [], ◌∷◌, ◌++◌}
use Prim.Native.Nat.{ℕ, zero, suc, ◌≤◌, ◌<◌}
use native.Mathlib.Omega.{arith}
use native.Mathlib.Decide.{ℕ_discrete}
use lib.ListN.{length, take, drop}
use Rattle.counting.specs.Count.{select}
use Rattle.counting.specs.Lists.{Pair, tabulate, join, pair_up, among}
use Rattle.counting.specs.Tests.{◌or◌}
use Rattle.counting.proofs.Tests.{by-test, or-none, or_false}
use Rattle.counting.specs.Every.{All}
use Rattle.counting.proofs.Every.{all_map}
use Rattle.counting.specs.Every.All.{more, none}
use Rattle.counting.proofs.Select.{select_cong}
use Rattle.counting.proofs.Lists.{join_more}
use Rattle.counting.proofs.Members.{among_none, among-append, besides, besides-out, besides-off, besides_cong, besides-more, select-drop}
use Rattle.racks.specs.Racks.{Rack, slots}
use Rattle.racks.specs.Table.{away_to, rack_to}
use Rattle.racks.specs.parts.Legal.{Legal}
use Rattle.racks.proofs.Away.{to-rack}
use Rattle.plans.specs.Plan.{plan, plan_for, open_slots}
use Rattle.plans.proofs.Grants.{plan_for-is}
use Rattle.plans.proofs.Plans.{plan_for_serves}
use Rattle.moves.specs.Moves.{carried_places, moved_places}
use Rattle.moves.proofs.Moved.{to-moved, legal-moved, allowed-free}
use Rattle.moves.specs.Turns.{InTurn}
use Rattle.moves.specs.Turns.InTurn.{stop, next}

-- the sources of pairs
unfoldable pub froms : List Pair → List ℕ
froms [] = []
froms (m ∷ ms) = m.0 ∷ froms ms

froms-append : (a b : List Pair) → froms (a ++ b) ≡ froms a ++ froms b
unfolding froms
froms-append [] b = refl
froms-append (m ∷ a) b = rw (froms-append a b)

-- the sources of a pairing are the first of those paired
froms-pairs : (a b : List ℕ) → froms (pair_up a b) ≡ take (length (pair_up a b)) a
unfolding froms pair_up
froms-pairs [] b = refl
froms-pairs (x ∷ a) [] = refl
froms-pairs (x ∷ a) (y ∷ b) = rw (froms-pairs a b)

-- away to rack p after moves are those that were, but for the cards moved
pub to-carried : {racks : List Rack} {places : List ℕ} {ms : List Pair} → Legal racks places → InTurn racks places ms → (p g : ℕ)
    → away_to racks (carried_places ms places) p g ≡ besides (froms ms) (away_to racks places p) g
unfolding carried_places froms
to-carried {racks} {places} l stop p g = sym (besides-out [] (away_to racks places p) g (among_none none))
to-carried {racks} {places} l (next {m} {ms} a t) p g =
    to-carried (legal-moved l (allowed-free a)) t p g
    ∙ besides_cong (froms ms) (away_to racks (moved_places m places) p) (besides (m.0 ∷ []) (away_to racks places p)) g (to-moved l a p g)
    ∙ besides-more m.0 (froms ms) (away_to racks places p) g

-- what every source meets
all-froms : {P : ℕ → Type 0} {ms : List Pair} → All (λ m. P m.0) ms → All P (froms ms)
unfolding froms
all-froms none = none
all-froms (more h r) = more h (all-froms r)

module _ (racks : List Rack) (places : List ℕ) (p g : ℕ) (h : away_to racks places p g ≡ true) where
  -- a card away to p is a source of no other target's pairs
  not-from : (q : ℕ) → q ≢ p → among g (froms (plan_for racks places q)) ≡ false
  not-from q n =
      among_none
      (all-froms (all_map (λ m s e. n (sym (to-rack racks places q m.0 s.0.1) ∙ ap (rack_to racks places) (sym e) ∙ to-rack racks places p g h)) (plan_for_serves racks places q)))

  from_more : (n : ℕ) → among g (froms (join (tabulate (suc n) (plan_for racks places)))) ≡ (among g (froms (join (tabulate n (plan_for racks places)))) or among g (froms (plan_for racks places n)))
  from_more n = rw (join_more n (plan_for racks places), froms-append (join (tabulate n (plan_for racks places))) (plan_for racks places n)) (among-append g _ _)

  from-none : (n : ℕ) → n ≤ p → among g (froms (join (tabulate n (plan_for racks places)))) ≡ false
  from-none zero l = unfold tabulate join froms in among_none none
  from-none (suc n) l = from_more n ∙ or-none (from-none n (omega arith)) (not-from n (λ e. omega arith))

  -- so it is a source of the plan where it is one of p's pairs
  from-plans : (n : ℕ) → p < n → among g (froms (join (tabulate n (plan_for racks places)))) ≡ among g (froms (plan_for racks places p))
  unfolding ◌or◌
  from-plans zero l = absurd (omega arith)
  from-plans (suc n) l = elim (ℕ_discrete n p) [
    | yes e ↦ from_more n ∙ rw (from-none n (omega arith), e)
    | no e ↦ from_more n ∙ or_false _ (not-from n e) ∙ from-plans n (omega arith)
  ]

-- after a phase the queue of rack p begins behind the cards that it sent
pub waits-carried : (racks : List Rack) (places : List ℕ) → Legal racks places → InTurn racks places (plan racks places) → (p : ℕ) → p < length racks
    → select (slots racks) (away_to racks (carried_places (plan racks places) places) p) ≡ drop (length (plan_for racks places p)) (select (slots racks) (away_to racks places p))
unfolding plan besides
waits-carried racks places l t p b =
    select_cong (slots racks) _ (besides (take k all) f) (λ g _. to-carried l t p g ∙ same g) ∙ select-drop k (slots racks) f
  where
    f : ℕ → Bool
    f = away_to racks places p

    all : List ℕ
    all = select (slots racks) (away_to racks places p)

    k : ℕ
    k = length (plan_for racks places p)

    sent : froms (plan_for racks places p) ≡ take k all
    sent = rw (plan_for-is racks places p) (froms-pairs all (open_slots racks places p))

    same : (g : ℕ) → besides (froms (plan racks places)) f g ≡ besides (take k all) f g
    same g = by-test (away_to racks places p g)
        (λ h.
        let e : among g (froms (plan racks places)) ≡ among g (take k all) = from-plans racks places p g h (length racks) b ∙ ap (among g) sent in
        rw e)
        (λ h. besides-off (froms (plan racks places)) f g h ∙ sym (besides-off (take k all) f g h))
