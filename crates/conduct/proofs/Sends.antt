-- A plan has as many pairs from rack i to rack p as figure 1's recv[i] on p. Assumes nothing.
use mathlib.Core.Path.{◌≡◌, refl, ap, sym, ◌∙◌}
use mathlib.Core.Bool.{Bool, true, false}
use mathlib.Core.Logic.{◌≢◌}
use mathlib.Core.List.{List, [], ◌∷◌}
use Prim.Native.Nat.{ℕ, zero, suc, ◌+◌, ◌≤◌, ◌<◌}
use native.Mathlib.Omega.{arith}
use native.Mathlib.Decide.{ℕ_discrete}
use lib.Dec.{eqb}
use lib.ListN.{length, length-take}
use borrow.Author.Tests.{eqb-true, eq-eqb, ne_eqb}
use Rattle.counting.specs.Tests.{bit}
use Rattle.counting.specs.Count.{select}
use Rattle.counting.specs.Lists.{tabulate, join, pair_up, matching}
use Rattle.counting.proofs.Tests.{and_r, and_true, and-off_r}
use Rattle.counting.specs.Every.{All}
use Rattle.counting.proofs.Every.{all_map, all_take}
use Rattle.counting.specs.Every.All.{more, none}
use Rattle.counting.proofs.Select.{all-select, length-select}
use Rattle.counting.proofs.Lists.{join_more, matching-append}
use Rattle.racks.specs.Racks.{Rack, slots, rack_of}
use Rattle.racks.specs.Table.{away_to, bound, owes, free_on}
use Rattle.racks.proofs.Away.{on-rack}
use Rattle.plans.specs.Plan.{open_slots, room, arrivals, plan_for, plan}
use Rattle.plans.proofs.Grants.{length-arrivals, length_open}
use Rattle.plans.proofs.Plans.{plan_for_serves}
use Rattle.moves.specs.Moves.{between}
use Rattle.conduct.specs.Figure1Loop.{recv}
use Rattle.conduct.specs.Figure1.{due_to, received}
use Rattle.conduct.proofs.Figure1.{received-are}

module _ {A : Type 0} (f : A → Bool) where
  -- none of a list passes
  matching-none : {l : List A} → All (λ x. f x ≡ false) l → matching f l ≡ 0
  unfolding matching
  matching-none none = refl
  matching-none (more e r) = omega (arith, ap bit e, matching-none r)

  -- all of it do
  matching-all : {l : List A} → All (λ x. f x ≡ true) l → matching f l ≡ length l
  unfolding matching
  matching-all none = refl
  matching-all (more e r) = omega (arith, ap bit e, matching-all r)

  module _ (g : ℕ → List A) where
    one_more_lem : (n : ℕ) → matching f (join (tabulate (suc n) g)) ≡ matching f (join (tabulate n g)) + matching f (g n)
    one_more_lem n = ap (matching f) (join_more n g) ∙ matching-append f (join (tabulate n g)) (g n)

    joined-none : (n : ℕ) → ((j : ℕ) → j < n → matching f (g j) ≡ 0) → matching f (join (tabulate n g)) ≡ 0
    joined-none zero h = unfold tabulate join matching in refl
    joined-none (suc n) h = omega (arith, one_more_lem n, joined-none n (λ j l. h j (omega arith)), h n (omega arith))

    -- of lists one after another, only one has members that pass
    joined-one : (k n : ℕ) → k < n → ((j : ℕ) → j < n → j ≢ k → matching f (g j) ≡ 0) → matching f (join (tabulate n g)) ≡ matching f (g k)
    joined-one k zero l h = absurd (omega arith)
    joined-one k (suc n) l h = elim (ℕ_discrete n k) [
      | yes e ↦ one_more_lem n ∙ rw (← e) (omega (arith, joined-none n (λ j m. h j (omega arith) (λ q. omega arith))))
      | no u ↦ omega (arith, one_more_lem n, joined-one k n (omega arith) (λ j m. h j (omega arith)), h n (omega arith) u)
    ]

module _ (racks : List Rack) (places : List ℕ) (i p : ℕ) where
  -- slot g is on rack i
  on_rack : ℕ → Bool
  on_rack g = eqb (rack_of racks g) i

  -- arrivals with free slots of p: pairs from rack i are arrivals from there
  paired : (xs ys : List ℕ) → length xs ≤ length ys → All (λ y. rack_of racks y ≡ p) ys → matching (between racks i p) (pair_up xs ys) ≡ matching on_rack xs
  unfolding pair_up matching between on_rack
  paired [] ys l h = refl
  paired (x ∷ xs) [] l h = absurd (omega arith)
  paired (x ∷ xs) (y ∷ ys) l (more e r) = rw (and_true (eqb (rack_of racks x) i) (eq-eqb (rack_of racks y) p e), paired xs ys (omega arith) r)

  -- the pairs of another target end elsewhere
  elsewhere : (q : ℕ) → q ≢ p → matching (between racks i p) (plan_for racks places q) ≡ 0
  unfolding between
  elsewhere q u =
      matching-none (between racks i p)
      (all_map (λ m s. and-off_r _ (ne_eqb (rack_of racks m.1) p (λ e. u (sym (on-rack racks places q m.1 s.1.1) ∙ e)))) (plan_for_serves racks places q))

  -- what p receives from rack j is on rack j
  from-rack : (j : ℕ) → All (λ g. rack_of racks g ≡ j) (received racks places p j)
  unfolding received bound
  from-rack j = all_take (recv (room racks places p) (due_to racks places p) j) (all_map (λ g h. eqb-true (rack_of racks g) j (and_r (away_to racks places p g) h.1)) (all-select (slots racks) (bound racks places j p)))

  -- and is recv[j] cards
  length-received : (j : ℕ) → length (received racks places p j) ≡ recv (room racks places p) (due_to racks places p) j
  unfolding received recv due_to owes
  length-received j = omega (arith, length-take (recv (room racks places p) (due_to racks places p) j) (select (slots racks) (bound racks places j p)), length-select (slots racks) (bound racks places j p))

  all_open : All (λ y. rack_of racks y ≡ p) (open_slots racks places p)
  unfolding open_slots
  all_open = all_map (λ g h. on-rack racks places p g h.1) (all-select (slots racks) (free_on racks places p))

  -- the pairs from rack i to rack p
  pub plan-sends : i < length racks → p < length racks → matching (between racks i p) (plan racks places) ≡ recv (room racks places p) (due_to racks places p) i
  unfolding plan plan_for on_rack
  plan-sends li lp =
      joined-one (between racks i p) (plan_for racks places) p (length racks) lp (λ q _ u. elsewhere q u)
      ∙ paired (arrivals racks places p) (open_slots racks places p) (omega (arith, length-arrivals racks places p, length_open racks places p)) all_open
      ∙ ap (matching on_rack) (sym (received-are racks places p))
      ∙ joined-one on_rack (received racks places p) i (length racks) li
      (λ j _ u. matching-none on_rack (all_map (λ g e. ne_eqb (rack_of racks g) i (λ q. u (sym e ∙ q))) (from-rack j)))
      ∙ matching-all on_rack (all_map (λ g e. eq-eqb (rack_of racks g) i e) (from-rack i))
      ∙ length-received i
