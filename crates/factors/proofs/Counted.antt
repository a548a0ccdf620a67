-- The copy list has one copy for every card that is not settled, and one more for every cycle. Assumes nothing.
use mathlib.Core.Path.{◌≡◌, refl, sym, ap, subst, ◌∙◌}
use mathlib.Core.Logic.{◌≢◌, inl, inr}
use mathlib.Core.Bool.{Bool, true, false, not}
use mathlib.Core.List.{List, [], ◌∷◌}
use Prim.Native.Nat.{ℕ, ◌+◌, ◌<◌}
use native.Mathlib.Omega.{arith}
use native.Mathlib.Decide.{ℕ_discrete}
use lib.ListN.{length, length-append}
use borrow.Author.Tests.{eq-eqb, ne_eqb}
use Rattle.counting.specs.Tests.{◌and◌, bit}
use Rattle.counting.specs.Count.{count}
use Rattle.counting.specs.Lists.{matching, among, last, join, each}
use Rattle.counting.proofs.Tests.{by-test, both, and-off_l, and-off_r, not-off}
use Rattle.counting.proofs.Lists.{matching-append}
use Rattle.counting.proofs.Count.{count-zero, count_cong, count_change}
use Rattle.racks.specs.Limits.{FREE}
use Rattle.racks.specs.Table.{dest, free, settled}
use Rattle.factors.specs.Copies.{onward, head, factor, copies, factors, copy_list}
use Rattle.factors.specs.parts.Chains.{Chained}
use Rattle.counting.specs.Every.{In, Distinct}
use Rattle.factors.proofs.Members.{in-among, among-off, among_none, among-other, last_in}
use Rattle.factors.proofs.Walks.{Path, Ends}
use Rattle.factors.proofs.Chains.{head-low, onward_distinct, onward_path, onward-ends}
use Rattle.factors.proofs.Factors.{Factored, factors-are, factors-once, factors-all, factors-slots}
use Rattle.factors.proofs.Factors.Factored.{ended, began}
use Rattle.factors.proofs.Costs.{length_shift, length-cycle, copies-shift, copies-cycle, cost-settled}
use Rattle.factors.specs.Factors.{unsettled, turning}

-- the members of a list without repeats that pass are as many as the numbers that are among it and pass
matching-among : (f : ℕ → Bool) (n : ℕ) (l : List ℕ) → Distinct l → ((x : ℕ) → In x l → x < n) → matching f l ≡ count n (λ k. among k l and f k)
unfolding matching
matching-among f n [] d b = sym (count-zero n (λ k. among k [] and f k) (λ k _. and-off_l (f k) (among_none k)))
matching-among f n (x ∷ l) d b = by-test (f x)
    (λ t. omega (
      arith,
      ap bit t,
      matching-among f n l d.1 (λ y m. b y (inr m)),
      count_change n (λ k. among k (x ∷ l) and f k) (λ k. among k l and f k) x (b x (inl refl)) (both (in-among x (x ∷ l) (inl refl)) t) (and-off_l (f x) (among-off x l d.0))
          (λ j _ e. ap (λ (c : Bool). c and f j) (among-other j x l e)),
    ))
    (λ t. omega (arith, ap bit t, matching-among f n l d.1 (λ y m. b y (inr m)), count_cong n (λ k. among k (x ∷ l) and f k) (λ k. among k l and f k) (same t)))
  where
    same : f x ≡ false → (k : ℕ) → k < n → (among k (x ∷ l) and f k) ≡ (among k l and f k)
    same t k _ = elim (ℕ_discrete k x) [
      | yes e ↦ rw e (and-off_r (among x (x ∷ l)) t ∙ sym (and-off_r (among x l) t))
      | no e ↦ ap (λ (c : Bool). c and f k) (among-other k x l e)
    ]

-- a list that has each number below n once
matching-count : (f : ℕ → Bool) (n : ℕ) (l : List ℕ) → Distinct l → ((x : ℕ) → In x l → x < n) → ((x : ℕ) → x < n → In x l) → matching f l ≡ count n f
unfolding ◌and◌
matching-count f n l d b a = matching-among f n l d b ∙ count_cong n (λ k. among k l and f k) f (λ k h. rw (in-among k l (a k h)))

module _ {places : List ℕ} (ok : Chained places) where
  no-free : (v : ℕ) → v < length places → v ≢ FREE
  no-free v l = omega (arith, ok.small)

  module _ (g : ℕ) where
    moves-on : dest places g ≢ FREE → dest places g ≢ g → unsettled places g ≡ true
    unfolding unsettled free settled
    moves-on p q = both (not-off (ne_eqb (dest places g) FREE p)) (not-off (ne_eqb (dest places g) g q))

    is_free : dest places g ≡ FREE → unsettled places g ≡ false
    unfolding unsettled free
    is_free p = and-off_l _ (ap not (eq-eqb (dest places g) FREE p))

    stays_put : dest places g ≡ g → unsettled places g ≡ false
    unfolding unsettled settled
    stays_put p = and-off_r (not (free places g)) (ap not (eq-eqb (dest places g) g p))

  -- every card of a chain but the last is not settled
  chain-unsettled : (s x : ℕ) (l : List ℕ) → Path (dest places) s x l → Distinct (x ∷ l)
      → matching (unsettled places) (x ∷ l) ≡ length l + bit (unsettled places (last x l))
  unfolding matching last
  chain-unsettled s x [] p d = omega arith
  chain-unsettled s x (y ∷ l) p d =
      let t = moves-on x (rw p.0 p.1) (rw p.0 (λ e. d.0 (inl (sym e)))) in
      omega (arith, ap bit t, chain-unsettled s y l p.3 d.1)

  -- a chain costs a copy for each card that is not settled, and one more if it is a cycle
  chain-cost : (x : ℕ) (l : List ℕ) → Path (dest places) x x l → Distinct (x ∷ l) → x < length places → Ends x (dest places (last x l))
      → length (copies places (x ∷ l)) ≡ matching (unsettled places) (x ∷ l) + bit (turning places (x ∷ l))
  unfolding turning last
  chain-cost x [] p d b (inl e) =
      omega (arith, ap length (copies-shift places x [] e), length_shift x [], chain-unsettled x x [] p d, ap bit (is_free x e))
  chain-cost x [] p d b (inr e) =
      omega (arith, ap length (cost-settled places x (rw e (no-free x b))), chain-unsettled x x [] p d, ap bit (stays_put x e))
  chain-cost x (y ∷ l) p d b (inl e) =
      omega (
        arith,
        ap length (copies-shift places x (y ∷ l) e),
        length_shift x (y ∷ l),
        chain-unsettled x x (y ∷ l) p d,
        ap bit (is_free (last y l) e),
        ap bit (ap not (eq-eqb (dest places (last y l)) FREE e)),
      )
  chain-cost x (y ∷ l) p d b (inr e) =
      let q : dest places (last y l) ≢ FREE = rw e (no-free x b) in
      let r : dest places (last y l) ≢ last y l = λ u. d.0 (subst (λ (n : ℕ). In n (y ∷ l)) (sym u ∙ e) (last_in y l)) in
      omega (
        arith,
        ap length (copies-cycle places x (y ∷ l) q),
        length-cycle x y l,
        chain-unsettled x x (y ∷ l) p d,
        ap bit (moves-on (last y l) q r),
        ap bit (ap not (ne_eqb (dest places (last y l)) FREE q)),
      )

  all-cost : {j : ℕ} {seen : List ℕ} {rest : List (List ℕ)} → Factored ok j seen rest
      → length (join (each (copies places) rest)) ≡ matching (unsettled places) (join rest) + matching (turning places) rest
  unfolding join each matching factor
  all-cost (ended h) = refl
  all-cost (began {k = k} {slots = slots} {rest = rest} m low e f a r) =
      let h : ℕ = head places k in
      let b : h < length places = head-low ok k low in
      let c : length (copies places slots) ≡ matching (unsettled places) slots + bit (turning places slots) =
      rw e (chain-cost h (onward places h) (onward_path ok h b) (onward_distinct ok h b) b (onward-ends ok h b)) in
      omega (arith, c, all-cost r, length-append (copies places slots) (join (each (copies places) rest)), matching-append (unsettled places) slots (join rest))

  -- the length of the copy list: the cards that are not settled, and the cycles
  pub list_count : length (copy_list places) ≡ count (length places) (unsettled places) + matching (turning places) (factors places)
  unfolding copy_list
  list_count =
      all-cost (factors-are ok)
      ∙ ap (λ (n : ℕ). n + matching (turning places) (factors places))
      (matching-count (unsettled places) (length places) (join (factors places)) (factors-once ok) (factors-slots ok) (factors-all ok))
