-- The cards of all targets and their free slots, each in its column: the plan. Assumes nothing.
use mathlib.Core.Path.{◌≡◌, sym, ◌∙◌}
use mathlib.Core.List.{List}
use Prim.Native.Nat.{ℕ}
use native.Mathlib.Omega.{arith}
use lib.ListN.{length}
use lib.Seq.{sets, length-take-le}
use Rattle.counting.specs.Count.{select}
use Rattle.counting.specs.Lists.{pair_up, flat}
use Rattle.counting.proofs.Select.{length-select}
use Rattle.counting.proofs.Lists.{length-join}
use Rattle.counting.proofs.Pairs.{pair_up-both}
use Rattle.racks.specs.Racks.{Rack, slots}
use Rattle.racks.specs.Table.{away_to}
use Rattle.plans.specs.Plan.{open_slots, plan_for, plan}
use Rattle.plans.proofs.Grants.{length_open, length-plan_for, plan_for-is}
use Rattle.shares.specs.parts.Columns.{columns}
use Rattle.shares.specs.parts.Shares.{share_of, start_of, cards_to, opens_to}
use Rattle.shares.proofs.Columns.{columns-pairs}
use Rattle.shares.proofs.Shares.{start_up}

module _ (racks : List Rack) (places : List ℕ) where
  -- target p has as many cards as its share, and as many free slots
  length-granted : (p : ℕ) → length (cards_to racks places (slots racks) p) ≡ share_of racks places p
  unfolding cards_to share_of
  length-granted p = length-take-le (share_of racks places p) (select (slots racks) (away_to racks places p)) (omega (arith, length-plan_for racks places p, length-select (slots racks) (away_to racks places p)))

  length-opens : (p : ℕ) → length (opens_to racks places p) ≡ share_of racks places p
  unfolding opens_to share_of
  length-opens p = length-take-le (share_of racks places p) (open_slots racks places p) (omega (arith, length-plan_for racks places p, length_open racks places p))

  -- they are its pairs
  pairs-are : (p : ℕ) → pair_up (cards_to racks places (slots racks) p) (opens_to racks places p) ≡ plan_for racks places p
  unfolding cards_to opens_to share_of
  pairs-are p =
      pair_up-both (share_of racks places p) (select (slots racks) (away_to racks places p)) (open_slots racks places p)
      (omega (arith, length-plan_for racks places p, length-select (slots racks) (away_to racks places p), length_open racks places p))
      ∙ sym (plan_for-is racks places p)

  -- both columns: the plan, from the front of the list
  pub plan-columns : (l : List ℕ) → columns 1 (length racks) (start_of racks places) (opens_to racks places) (columns 0 (length racks) (start_of racks places) (cards_to racks places (slots racks)) l) ≡ sets l 0 (flat (plan racks places))
  unfolding plan start_of share_of
  plan-columns l =
      columns-pairs (start_of racks places) (cards_to racks places (slots racks)) (opens_to racks places) (plan_for racks places) pairs-are (λ p. length-granted p ∙ sym (length-opens p))
      (λ p q h. omega (arith, start_up racks places p q h, length-opens p)) (λ p. sym (length-join p (plan_for racks places))) l (length racks)
