-- The pairs of the plan, target after target, as the code counts and puts them. Assumes nothing.
use mathlib.Core.Path.{◌≡◌, refl, ap, sym, ◌∙◌}
use mathlib.Core.List.{List, [], ◌++◌}
use Prim.Native.Nat.{ℕ, ◌+◌, ◌*◌, ◌≤◌, ◌<◌}
use native.Mathlib.Omega.{arith}
use native.Mathlib.Nat.{zero-add}
use native.Mathlib.Numerals.{add-one}
use lib.ListN.{length, get_or, length-append}
use lib.Seq.{sets, length-sets}
use Rattle.counting.specs.Count.{count}
use Rattle.counting.specs.Lists.{Pair, tabulate, join, flat}
use Rattle.counting.proofs.Count.{count_cong, count_le}
use Rattle.counting.proofs.Select.{sum_mono}
use Rattle.counting.proofs.Lists.{join_more, length-join}
use Rattle.counting.proofs.Stores.{sets-flat-none, sets-flat-append}
use Rattle.racks.specs.Racks.{Rack, slots}
use Rattle.racks.specs.Table.{free}
use Rattle.racks.specs.parts.Legal.{Legal}
use Rattle.racks.specs.Job.{racks_of, Sound}
use Rattle.racks.specs.declared.Job.{Job}
use Rattle.racks.proofs.Passing.{At, at_bounds}
use Rattle.plans.specs.Plan.{plan_for, plan}
use Rattle.plans.proofs.Plans.{plan-free}
use Rattle.spans.specs.declared.parts.Range.{Range}
use Rattle.spans.specs.declared.parts.Hits.{Hits}
use Rattle.spans.specs.parts.Spans.{free_range, entry_in, hits_in}
use Rattle.planner.specs.parts.Targets.{pairs_to, TargetIn, PairsPut}
use Rattle.spans.proofs.Found.{free-lies}
use Rattle.planner.proofs.Targets.{target_is}

-- the pairs of the first n targets
unfoldable pub pairs_up_to : List Rack → List ℕ → ℕ → List Pair
pairs_up_to racks places n = join (tabulate n (plan_for racks places))

-- a list keeps its length where pairs are put
pub pairs-put-long : {before : List ℕ} {k : ℕ} {pairs : List Pair} {next : ℕ} {after : List ℕ} → PairsPut before k pairs next after → length after ≡ length before
pairs-put-long {before} {k} {pairs} p = ap length p.list ∙ length-sets before (2 * k) (flat pairs)

module _ (racks : List Rack) (places : List ℕ) where
  -- of none
  pub up-to-none : pairs_up_to racks places 0 ≡ []
  unfolding pairs_up_to tabulate join
  up-to-none = refl

  -- of one more
  pub up-to-more : (p : ℕ) → pairs_up_to racks places (p + 1) ≡ pairs_up_to racks places p ++ plan_for racks places p
  unfolding pairs_up_to
  up-to-more p = rw (add-one p) (join_more p (plan_for racks places))

  -- of all: the plan
  pub up-to-all : pairs_up_to racks places (length racks) ≡ plan racks places
  unfolding pairs_up_to plan
  up-to-all = refl

  -- they are no more than those of the plan
  pub up-to-few : (n : ℕ) → n ≤ length racks → length (pairs_up_to racks places n) ≤ length (plan racks places)
  unfolding pairs_up_to plan
  up-to-few n l =
      omega (
        arith,
        length-join n (plan_for racks places),
        length-join (length racks) (plan_for racks places),
        sum_mono n (length racks) (λ k. length (plan_for racks places k)) l,
      )

  -- with those of one more
  pub up-to-long : (p : ℕ) → length (pairs_up_to racks places (p + 1)) ≡ length (pairs_up_to racks places p) + length (plan_for racks places p)
  up-to-long p = ap length (up-to-more p) ∙ length-append (pairs_up_to racks places p) (plan_for racks places p)

  -- none put
  pub pairs-put-none : (lent : List ℕ) → PairsPut lent 0 (pairs_up_to racks places 0) 0 lent
  pairs-put-none lent = rw up-to-none (record { list = sym (sets-flat-none lent (2 * 0)); next-is = refl })

  -- one target more
  pub pairs-put-more : (before mid after : List ℕ) (p k next : ℕ) → PairsPut before 0 (pairs_up_to racks places p) k mid → PairsPut mid k (plan_for racks places p) next after
      → PairsPut before 0 (pairs_up_to racks places (p + 1)) next after
  pairs-put-more before mid after p k next a b =
      let done : List Pair = pairs_up_to racks places p in
      let more : List Pair = plan_for racks places p in
      record {
        list =
            b.list
            ∙ ap (λ (l : List ℕ). sets l (2 * k) (flat more)) a.list
            ∙ ap (λ (i : ℕ). sets (sets before 0 (flat done)) (2 * i) (flat more)) (a.next-is ∙ zero-add (length done))
            ∙ sym (sets-flat-append before done more)
            ∙ ap (λ (ms : List Pair). sets before 0 (flat ms)) (sym (up-to-more p));
        next-is = omega (arith, a.next-is, b.next-is, up-to-long p);
      }

  -- the free slots that the code counts: no fewer than pairs, and no more than slots
  module _ (mark : Range) (em : mark ≡ free_range) (n : ℕ) (en : n ≡ slots racks) (here : Hits) (e : here ≡ hits_in places mark 0 n) where
    here-is : here.count ≡ count (slots racks) (λ j. entry_in places free_range (0 + j))
    here-is = ap (λ (x : Hits). x.count) e ∙ rw (em, en)

    pub free-covers : length (plan racks places) ≤ here.count
    free-covers =
        omega (
          arith,
          here-is,
          plan-free racks places,
          count_cong (slots racks) (free places) (λ j. entry_in places free_range (0 + j)) (λ j _. free-lies places j ∙ rw zero-add),
        )

    pub free-few : here.count ≤ slots racks
    free-few = omega (arith, here-is, count_le (slots racks) (λ j. entry_in places free_range (0 + j)))

-- a pass over the racks of a legal table: rack p begins at slot low
module _ (job : Job) (s : Sound job) (places : List ℕ) (v : Legal (racks_of job) places) (p low : ℕ) (a : At job p low) (l : p < job.racks) where
  pub target-bounded : TargetIn places low (get_or job.ends p 0)
  target-bounded =
      let n = at_bounds s a l in
      record { up = n.up; within = omega (arith, n.within, v.long); small = omega (arith, v.long, s.small) }

  -- its pairs are those of target p
  pub target_at : pairs_to places low (get_or job.ends p 0) ≡ plan_for (racks_of job) places p
  target_at =
      let n = at_bounds s a l in
      rw (a.low-is, n.ends) (target_is (racks_of job) places v s.small p n.one)
