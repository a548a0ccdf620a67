-- The three facts of a plan: its pairs are allowed moves, no two share an end, and it has a pair where a rack with a free slot awaits a card. Assumes nothing.
use mathlib.Core.Path.{refl, sym, ◌∙◌}
use mathlib.Core.Logic.{◌≢◌}
use mathlib.Core.List.{List}
use Prim.Native.Nat.{ℕ, suc, ◌≤◌, ◌<◌}
use native.Mathlib.Omega.{arith}
use lib.ListN.{length}
use Rattle.counting.specs.Count.{count}
use Rattle.counting.specs.Lists.{Pair}
use Rattle.counting.proofs.Count.{count-pos, count_le}
use Rattle.counting.specs.Every.{All, Pairwise}
use Rattle.counting.proofs.Every.{all_map, pairwise_map}
use Rattle.counting.proofs.Select.{Hit, all-select, select_ascends, sum_mono, sum-suc, apart-few}
use Rattle.counting.proofs.Lists.{length-join, all_join, pairwise-join}
use Rattle.counting.proofs.Pairs.{all-pair_up, pairwise-pair_up}
use Rattle.racks.specs.Racks.{Rack, slots}
use Rattle.racks.specs.Table.{free, rack_to, away, aways, away_to, free_on}
use Rattle.racks.proofs.Geometry.{rack_lt}
use Rattle.racks.proofs.Away.{to-away, to-rack, to_is, on-free, on-rack, on-is}
use Rattle.plans.specs.Plan.{open_slots, room, plan_for, plan}
use Rattle.plans.specs.Allowed.{Allowed, Apart}
use Rattle.plans.proofs.Grants.{arrivals-all, arrivals-apart, length-plan_for}

-- the pair takes a card that is away to rack p to a free slot of p
abbrev pub Serves : List Rack → List ℕ → ℕ → Pair → Type 0
Serves racks places p m = Hit (slots racks) (away_to racks places p) m.0 × Hit (slots racks) (free_on racks places p) m.1

module _ (racks : List Rack) (places : List ℕ) where
  -- every pair of target p goes to a free slot of p, and its card is away to p
  pub plan_for_serves : (p : ℕ) → All (Serves racks places p) (plan_for racks places p)
  unfolding plan_for open_slots
  plan_for_serves p = all-pair_up (arrivals-all racks places p) (all-select (slots racks) (free_on racks places p))

  -- no two pairs of target p share an end
  pub plan_for-apart : (p : ℕ) → Pairwise Apart (plan_for racks places p)
  unfolding plan_for open_slots
  plan_for-apart p = pairwise-pair_up (arrivals-apart racks places p) (pairwise_map (λ j k l e. omega arith) (select_ascends (slots racks) (free_on racks places p)))

  -- a pair that serves a rack is an allowed move
  pub serves-allowed : (p : ℕ) (m : Pair) → Serves racks places p m → Allowed racks places m
  serves-allowed p m s =
      record {
        from_lt = s.0.0;
        to_lt = s.1.0;
        is-away = to-away racks places p m.0 s.0.1;
        is_free = on-free racks places p m.1 s.1.1;
        meets = on-rack racks places p m.1 s.1.1 ∙ sym (to-rack racks places p m.0 s.0.1);
      }

  -- and every allowed move serves the rack where its card must end
  pub allowed_serves : (m : Pair) → Allowed racks places m → Serves racks places (rack_to racks places m.0) m
  allowed_serves m o =
      let p : ℕ = rack_to racks places m.0 in
      ((o.from_lt, to_is racks places p m.0 o.is-away refl), (o.to_lt, on-is racks places p m.1 o.is_free o.meets))

  -- pairs of two targets share no end
  serves-apart : (p q : ℕ) (m n : Pair) → p ≢ q → Serves racks places p m → Serves racks places q n → Apart m n
  serves-apart p q m n d s t = (
    λ e. d (sym (to-rack racks places p m.0 s.0.1) ∙ rw e (to-rack racks places q n.0 t.0.1)),
    λ e. d (sym (on-rack racks places p m.1 s.1.1) ∙ rw e (on-rack racks places q n.1 t.1.1)),
  )

  -- each pair of a plan is an allowed move
  pub plan-allowed : All (Allowed racks places) (plan racks places)
  unfolding plan
  plan-allowed = all_join (length racks) (plan_for racks places) (λ p _. all_map (serves-allowed p) (plan_for_serves p))

  -- no two pairs of a plan share an end
  pub plan-apart : Pairwise Apart (plan racks places)
  unfolding plan
  plan-apart = pairwise-join (length racks) (plan_for racks places) (λ p _. plan_for-apart p)
      (λ p q l _. all_map (λ m s. all_map (λ n t. serves-apart p q m n (λ e. omega arith) s t) (plan_for_serves q)) (plan_for_serves p))

  -- a plan has no more pairs than cards are away
  pub plan-aways : length (plan racks places) ≤ aways racks places
  unfolding aways
  plan-aways =
      apart-few (λ (m : Pair). m.0) (slots racks) (away racks places) (all_map (λ m o. (o.from_lt, o.is-away)) plan-allowed)
      (pairwise_map (λ m n a. a.0) plan-apart)

  -- nor than there are free slots
  pub plan-free : length (plan racks places) ≤ count (slots racks) (free places)
  plan-free =
      apart-few (λ (m : Pair). m.1) (slots racks) (free places) (all_map (λ m o. (o.to_lt, o.is_free)) plan-allowed)
      (pairwise_map (λ m n a. a.1) plan-apart)

  -- so no more than there are slots
  pub plan-few : length (plan racks places) ≤ slots racks
  unfolding aways
  plan-few = omega (arith, plan-aways, count_le (slots racks) (away racks places))

  -- where a card is away to a rack that has a free slot, the plan has a pair
  pub plan-meets : (p : ℕ) (m : Pair) → Serves racks places p m → 0 < length (plan racks places)
  unfolding plan_for room plan
  plan-meets p m s =
      let few : p < length racks = rw (on-rack racks places p m.1 s.1.1) at (rack_lt racks m.1 s.1.0) in
      let sized : ℕ → ℕ = λ q. length (plan_for racks places q) in
      omega (
        arith,
        length-join (length racks) (plan_for racks places),
        sum_mono (suc p) (length racks) sized few,
        sum-suc p sized,
        length-plan_for racks places p,
        count-pos (slots racks) (away_to racks places p) m.0 s.0.0 s.0.1,
        count-pos (slots racks) (free_on racks places p) m.1 s.1.0 s.1.1,
      )
