-- Each target's share of the plan: where it begins, and its cards, one slot more at a time. Assumes nothing.
use mathlib.Core.Path.{◌≡◌, ap, sym, ◌∙◌}
use mathlib.Core.Bool.{true, false}
use mathlib.Core.List.{List, [], ◌∷◌, ◌++◌}
use Prim.Native.Nat.{ℕ, ◌+◌, ◌-◌, ◌≤◌, ◌<◌}
use native.Mathlib.Omega.{arith}
use native.Mathlib.Decide.{ℕ_discrete}
use lib.ListN.{length, get_or, take, set, length-set, length-take}
use lib.Seq.{get_or-set_same, get_or-set_other, take_all, take-nil, take-append-le}
use Rattle.counting.specs.Count.{select, select_from}
use Rattle.counting.proofs.Select.{sum-zero, sum_more, sum_mono, select-on, select-off}
use Rattle.counting.proofs.SelectFrom.{select-from}
use Rattle.counting.proofs.Lists.{length-join, take-append}
use Rattle.racks.specs.Racks.{Rack}
use Rattle.racks.specs.Table.{away_to}
use Rattle.racks.specs.Job.{racks_of, Sound}
use Rattle.racks.specs.declared.Job.{Job}
use Rattle.racks.specs.parts.Legal.{Legal}
use Rattle.racks.proofs.Jobs.{sound-racks}
use Rattle.racks.proofs.Passing.{At, at_bounds}
use Rattle.plans.specs.Plan.{plan_for, plan}
use Rattle.plans.proofs.Plans.{plan-few}
use Rattle.shares.specs.parts.Targets.{share_to, TargetIn}
use Rattle.shares.specs.parts.Shares.{share_of, start_of, cards_to, Stopped, Shared}
use Rattle.shares.proofs.Targets.{share-is}

module _ (racks : List Rack) (places : List ℕ) where
  -- the first target's begins at the list's front
  pub start-zero : start_of racks places 0 ≡ 0
  unfolding start_of
  start-zero = sum-zero (share_of racks places)

  -- the next one behind it
  pub start-more : (p : ℕ) → start_of racks places (p + 1) ≡ start_of racks places p + share_of racks places p
  unfolding start_of
  start-more p = sum_more p (share_of racks places)

  -- a later one behind it or later
  pub start_up : (p q : ℕ) → p < q → start_of racks places p + share_of racks places p ≤ start_of racks places q
  unfolding start_of
  start_up p q l = omega (arith, sum_more p (share_of racks places), sum_mono (p + 1) q (share_of racks places) (omega arith))

  -- all are the plan's
  pub start-all : start_of racks places (length racks) ≡ length (plan racks places)
  unfolding start_of share_of plan
  start-all = sym (length-join (length racks) (plan_for racks places))

  -- no share goes behind them
  pub start-few : (p : ℕ) → p ≤ length racks → start_of racks places p ≤ length (plan racks places)
  unfolding start_of
  start-few p l = omega (arith, start-all, sum_mono p (length racks) (share_of racks places) l)

  -- where its share stops, by a list that says so
  module _ (stops : List ℕ) (s : Stopped racks places stops) (p : ℕ) (l : p < length racks) where
    pub stop_is : get_or stops p 0 ≡ start_of racks places p + share_of racks places p
    stop_is = s.stops-are p l ∙ start-more p

    -- within the plan
    pub stop-few : get_or stops p 0 ≤ length (plan racks places)
    stop-few = omega (arith, s.stops-are p l, start-few (p + 1) (omega arith))

  -- target p and the first g slots
  module _ (g p : ℕ) where
    -- it takes no more than its share
    pub cards-few : length (cards_to racks places g p) ≤ share_of racks places p
    unfolding cards_to
    cards-few = omega (arith, length-take (share_of racks places p) (select g (away_to racks places p)))

    -- once its share is used up it takes no further card
    pub cards-full : length (cards_to racks places g p) ≡ share_of racks places p → (m : ℕ) → g ≤ m → cards_to racks places m p ≡ cards_to racks places g p
    unfolding cards_to
    cards-full e m l =
        let cards : List ℕ = select g (away_to racks places p) in
        let rest : List ℕ = select_from g (m - g) (away_to racks places p) in
        let n : ℕ = share_of racks places p in
        let whole : select m (away_to racks places p) ≡ cards ++ rest = let x : g + (m - g) ≡ m = omega arith in rw x at (select-from g (m - g) (away_to racks places p)) in
        rw whole (take-append-le n cards rest (omega (arith, length-take n cards)))

    -- a slot with no card away to it
    pub cards-off : away_to racks places p g ≡ false → cards_to racks places (g + 1) p ≡ cards_to racks places g p
    unfolding cards_to
    cards-off a = rw (select-off g (away_to racks places p) a)

    -- a slot with one, where its share is not used up
    pub cards-on : away_to racks places p g ≡ true → length (cards_to racks places g p) < share_of racks places p → cards_to racks places (g + 1) p ≡ cards_to racks places g p ++ g ∷ []
    unfolding cards_to
    cards-on a l =
        let cards : List ℕ = select g (away_to racks places p) in
        let n : ℕ = share_of racks places p in
        let few : length cards < n = omega (arith, length-take n cards) in
        rw (select-on g (away_to racks places p) a, take-append n cards (g ∷ [])) (ap (λ (l : List ℕ). take n cards ++ l) (take_all (n - length cards) (g ∷ []) (omega arith)))

  -- before the first slot it has taken none
  pub cards-none : (p : ℕ) → cards_to racks places 0 p ≡ []
  unfolding cards_to select
  cards-none p = take-nil (share_of racks places p)

-- the first n targets have their shares
pub record Sharing (racks : List Rack) (places : List ℕ) (n : ℕ) (nexts stops : List ℕ) (pairs : ℕ) : Type 0 where
  pub starts-are : (p : ℕ) → p < n → get_or nexts p 0 ≡ start_of racks places p
  pub stops-are : (p : ℕ) → p < n → get_or stops p 0 ≡ start_of racks places (p + 1)
  pub nexts-long : length nexts ≡ 64
  pub stops-long : length stops ≡ 64
  pub pairs-are : pairs ≡ start_of racks places n

module _ (racks : List Rack) (places : List ℕ) where
  -- none
  pub sharing-none : (nexts stops : List ℕ) → length nexts ≡ 64 → length stops ≡ 64 → Sharing racks places 0 nexts stops 0
  sharing-none nexts stops l m =
      record { starts-are = λ p h. absurd (omega arith); stops-are = λ p h. absurd (omega arith); nexts-long = l; stops-long = m; pairs-are = sym (start-zero racks places) }

  module _ {n : ℕ} {nexts stops : List ℕ} {pairs : ℕ} (w : Sharing racks places n nexts stops pairs) where
    -- one target more
    pub sharing-more : (more : ℕ) → more ≡ share_of racks places n → n < 64 → Sharing racks places (n + 1) (set nexts n pairs) (set stops n (pairs + more)) (pairs + more)
    sharing-more more e l =
        let next : pairs + more ≡ start_of racks places (n + 1) = omega (arith, e, w.pairs-are, start-more racks places n) in
        record {
          starts-are = λ p h. elim (ℕ_discrete p n) [
            | yes q ↦ rw q (get_or-set_same nexts n pairs 0 (omega (arith, w.nexts-long)) ∙ w.pairs-are)
            | no d ↦ get_or-set_other nexts n p pairs 0 d ∙ w.starts-are p (omega arith)
          ];
          stops-are = λ p h. elim (ℕ_discrete p n) [
            | yes q ↦ rw q (get_or-set_same stops n (pairs + more) 0 (omega (arith, w.stops-long)) ∙ next)
            | no d ↦ get_or-set_other stops n p (pairs + more) 0 d ∙ w.stops-are p (omega arith)
          ];
          nexts-long = length-set nexts n pairs ∙ w.nexts-long;
          stops-long = length-set stops n (pairs + more) ∙ w.stops-long;
          pairs-are = next;
        }

    -- all
    pub sharing-all : n ≡ length racks → Shared racks places nexts stops pairs
    sharing-all e =
        record {
          starts-are = λ p h. w.starts-are p (omega arith);
          long = w.nexts-long;
          stopped = record { stops-are = λ p h. w.stops-are p (omega arith); long = w.stops-long };
          all = w.pairs-are ∙ ap (start_of racks places) e ∙ start-all racks places;
        }

-- a pass over the racks of a legal table: rack p begins at slot low
module _ (job : Job) (s : Sound job) (places : List ℕ) (v : Legal (racks_of job) places) (p low : ℕ) (a : At job p low) (l : p < job.racks) where
  -- it lies in the table
  pub target_in : TargetIn places low (get_or job.ends p 0)
  target_in =
      let n = at_bounds s a l in
      record { up = n.up; within = omega (arith, n.within, v.long); small = omega (arith, v.long, s.small) }

  -- what is counted for it is its share
  pub share-at : share_to places low (get_or job.ends p 0) ≡ share_of (racks_of job) places p
  share-at =
      let n = at_bounds s a l in
      rw (a.low-is, n.ends) (share-is (racks_of job) places v s.small p n.one)

  -- and with those before it no more than slots
  pub shares-small : start_of (racks_of job) places (p + 1) ≤ 4096
  shares-small = omega (arith, start-few (racks_of job) places (p + 1) (omega (arith, sound-racks job s)), plan-few (racks_of job) places, s.small)
