-- The free slots of a target, and those of all targets. Assumes nothing.
use mathlib.Core.Path.{◌≡◌, ap, sym, ◌∙◌}
use mathlib.Core.List.{List}
use Prim.Native.Nat.{ℕ, ◌+◌, ◌-◌, ◌≤◌, ◌<◌}
use native.Mathlib.Omega.{arith}
use native.Mathlib.Numerals.{add-one}
use lib.ListN.{length, get_or, take}
use Rattle.counting.specs.Count.{select_from}
use Rattle.counting.proofs.SelectFrom.{from_cong, from_mono, from_front}
use Rattle.racks.specs.Racks.{Rack}
use Rattle.racks.specs.Table.{free}
use Rattle.racks.specs.Job.{racks_of, Sound}
use Rattle.racks.specs.declared.Job.{Job}
use Rattle.racks.specs.parts.Legal.{Legal}
use Rattle.racks.proofs.Passing.{At, at_bounds}
use Rattle.plans.specs.Plan.{open_slots}
use Rattle.plans.proofs.Grants.{length_open, length-plan_for}
use Rattle.counting.specs.Lists.{column}
use Rattle.shares.specs.parts.Columns.{columns}
use Rattle.shares.specs.parts.Shares.{share_of, start_of, opens_to, Stopped}
use Rattle.shares.proofs.Targets.{opens-from}
use Rattle.spans.specs.declared.parts.Range.{Range}
use Rattle.spans.specs.parts.Spans.{free_range, entry_in}
use Rattle.spans.proofs.Found.{free-lies}
use Rattle.shares.proofs.Columns.{columns-zero, columns-suc, columns-long}
use Rattle.shares.proofs.Shares.{start-zero, stop_is}

-- the slots whose entries are the mark are the free ones
pub marked : (places : List ℕ) (mark : Range) → mark ≡ free_range → (low n : ℕ) → select_from low n (entry_in places mark) ≡ select_from low n (free places)
marked places mark e low n = rw e (from_cong low n (entry_in places free_range) (free places) (λ g _ _. sym (free-lies places g)))

-- the free slots of the first n targets are put
pub record OpeningsPut (racks : List Rack) (places before : List ℕ) (n k : ℕ) (lent : List ℕ) : Type 0 where
  pub k-is : k ≡ start_of racks places n
  pub list : lent ≡ columns 1 n (start_of racks places) (opens_to racks places) before

-- none
pub openings-none : (racks : List Rack) (places before : List ℕ) → OpeningsPut racks places before 0 0 before
openings-none racks places before = record { k-is = sym (start-zero racks places); list = sym (columns-zero 1 (start_of racks places) (opens_to racks places) before) }

-- the list keeps its length
pub openings-long : {racks : List Rack} {places before : List ℕ} {n k : ℕ} {lent : List ℕ} → OpeningsPut racks places before n k lent → length lent ≡ length before
openings-long {racks} {places} {before} {n} w = ap length w.list ∙ columns-long 1 n (start_of racks places) (opens_to racks places) before

-- a pass over the racks of a legal table: rack p begins at slot low, its share at pair k
module _ (job : Job) (s : Sound job) (places : List ℕ) (v : Legal (racks_of job) places) (p low : ℕ) (a : At job p low) (l : p < job.racks)
    (stops : List ℕ) (t : Stopped (racks_of job) places stops) (before lent : List ℕ) (k : ℕ) (w : OpeningsPut (racks_of job) places before p k lent) where
  -- p is a rack, and its share is this long
  one : p < length (racks_of job)
  one = (at_bounds s a l).one

  share-here : get_or stops p 0 ≡ k + share_of (racks_of job) places p
  share-here = omega (arith, stop_is (racks_of job) places stops t p one, w.k-is)

  -- it begins where it stops, or before
  pub stop-up : k ≤ get_or stops p 0
  stop-up = omega (arith, share-here)

  -- p has as many free slots
  few_open : share_of (racks_of job) places p ≤ length (select_from low (get_or job.ends p 0 - low) (free places))
  unfolding share_of
  few_open =
      let n = at_bounds s a l in
      rw (a.low-is, n.ends) (omega (arith, length-plan_for (racks_of job) places p, length_open (racks_of job) places p, ap length (opens-from (racks_of job) places v s.small p n.one)))

  -- and so has the table from its first slot on
  pub open-enough : get_or stops p 0 - k ≤ length (select_from low (length places - low) (free places))
  open-enough =
      omega (arith, share-here, few_open, from_mono low (get_or job.ends p 0 - low) (length places - low) (free places) (omega (arith, (at_bounds s a l).within, v.long)))

  -- those that are put are those that its cards take
  taken-are : take (get_or stops p 0 - k) (select_from low (length places - low) (free places)) ≡ opens_to (racks_of job) places p
  unfolding opens_to
  taken-are =
      let n = at_bounds s a l in
      let e : get_or stops p 0 - k ≡ share_of (racks_of job) places p = omega (arith, share-here) in
      let here : open_slots (racks_of job) places p ≡ select_from low (get_or job.ends p 0 - low) (free places) = rw (a.low-is, n.ends) (opens-from (racks_of job) places v s.small p n.one) in
      rw (e, here) (from_front low (get_or job.ends p 0 - low) (length places - low) (share_of (racks_of job) places p) (free places) (omega (arith, n.within, v.long)) few_open)

  -- one target more
  pub openings-more : (lent' : List ℕ) → lent' ≡ column 1 lent k (take (get_or stops p 0 - k) (select_from low (length places - low) (free places)))
      → OpeningsPut (racks_of job) places before (p + 1) (get_or stops p 0) lent'
  openings-more lent' e =
      record {
        k-is = t.stops-are p one;
        list = e ∙ rw (taken-are, w.k-is, w.list, add-one p) (sym (columns-suc 1 p (start_of (racks_of job) places) (opens_to (racks_of job) places) before));
      }
