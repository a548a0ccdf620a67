-- The plan is figure 1's, and by slots alone it is the same. Assumes nothing.
use mathlib.Core.Path.{◌≡◌, refl, ap, sym, ◌∙◌, fun_ext}
use mathlib.Core.List.{List, []}
use Prim.Native.Nat.{ℕ, zero, suc, ◌-◌, ◌<◌}
use native.Mathlib.Omega.{arith}
use lib.ListN.{length, take, length-append}
use lib.Seq.{take-nil}
use Rattle.counting.specs.Count.{select}
use Rattle.counting.specs.Lists.{tabulate, join}
use Rattle.counting.proofs.Select.{length-select}
use Rattle.counting.proofs.Lists.{length_none, take-append, take_min, join_more}
use Rattle.racks.specs.Racks.{Rack, slots}
use Rattle.racks.specs.Table.{bound, owes}
use Rattle.plans.specs.Plan.{room, arrivals, plan_for, plan}
use Rattle.plans.proofs.Grants.{cards_for, own-owes, racks-all, arrivals-are, plan_for-is}
use Rattle.conduct.specs.Figure1Loop.{left, recv}
use Rattle.conduct.specs.Figure1.{due_to, received, figure1_for, figure1, by_slot_for, by_slot}

-- the same lists, the same table of them
tabulate_cong : {A : Type 0} (n : ℕ) (f g : ℕ → A) → ((k : ℕ) → k < n → f k ≡ g k) → tabulate n f ≡ tabulate n g
unfolding tabulate
tabulate_cong zero f g h = refl
tabulate_cong (suc n) f g h = rw (tabulate_cong n f g (λ k l. h k (omega arith)), h n (omega arith))

-- figure 1's loop over any lists: turn by turn it takes what are, of all together, the first
module _ {A : Type 0} (free : ℕ) (f : ℕ → List A) where
  due : ℕ → ℕ
  due i = length (f i)

  -- what is left of free behind those before
  left_is : (n : ℕ) → left free due n ≡ free - length (join (tabulate n f))
  unfolding left due
  left_is zero = unfold tabulate join in omega arith
  left_is (suc n) = omega (arith, left_is n, ap length (join_more n f), length-append (join (tabulate n f)) (f n))

  pub loop-takes : (n : ℕ) → join (tabulate n (λ i. take (recv free (λ i. length (f i)) i) (f i))) ≡ take free (join (tabulate n f))
  unfolding recv due
  loop-takes zero = unfold tabulate join in sym (take-nil {A = A} free)
  loop-takes (suc n) =
      join_more n (λ i. take (recv free (λ i. length (f i)) i) (f i))
      ∙ rw (loop-takes n, take_min (left free (λ i. length (f i)) n) (f n), left_is n, join_more n f)
      (sym (take-append free (join (tabulate n f)) (f n)))

module _ (racks : List Rack) (places : List ℕ) where
  module _ (p : ℕ) where
    -- rack p has no card bound for itself
    own-none : cards_for racks places p p ≡ []
    unfolding cards_for owes
    own-none = length_none (select (slots racks) (bound racks places p p)) (length-select (slots racks) (bound racks places p p) ∙ own-owes racks places p)

    -- in[i] is how many cards rack i has for p
    same : (i : ℕ) → received racks places p i ≡ take (recv (room racks places p) (λ i. length (cards_for racks places p i)) i) (cards_for racks places p i)
    unfolding received due_to owes cards_for
    same i =
        ap (λ (d : ℕ → ℕ). take (recv (room racks places p) d i) (select (slots racks) (bound racks places i p)))
        (fun_ext (λ j. sym (length-select (slots racks) (bound racks places j p))))

    -- what figure 1 has rack p receive are the arrivals
    pub received-are : join (tabulate (length racks) (received racks places p)) ≡ arrivals racks places p
    received-are =
        ap join (tabulate_cong (length racks) (received racks places p) _ (λ i _. same i))
        ∙ loop-takes (room racks places p) (cards_for racks places p) (length racks)
        ∙ ap (take (room racks places p)) (racks-all racks places p)
        ∙ sym (arrivals-are racks places p)

    figure1_for_lem : figure1_for racks places p ≡ plan_for racks places p
    unfolding figure1_for plan_for
    figure1_for_lem = rw received-are

  -- the plan is figure 1's
  pub plan-figure1 : plan racks places ≡ figure1 racks places
  unfolding plan figure1
  plan-figure1 = ap join (tabulate_cong (length racks) (plan_for racks places) (figure1_for racks places) (λ p _. sym (figure1_for_lem p)))

  -- and the same by slots alone
  pub plan_by-slot : plan racks places ≡ by_slot racks places
  unfolding plan by_slot by_slot_for
  plan_by-slot = ap join (tabulate_cong (length racks) (plan_for racks places) (by_slot_for racks places) (λ p _. plan_for-is racks places p))
