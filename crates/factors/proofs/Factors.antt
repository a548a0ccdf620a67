-- The factors of a table: every slot is in one, once; they come by their lowest slot. Assumes nothing.
use mathlib.Core.Path.{◌≡◌, refl, sym, ap, ◌∙◌, subst}
use mathlib.Core.Logic.{◌≢◌, ◌⊎◌, inl, inr}
use mathlib.Core.List.{List, [], ◌∷◌, ◌++◌}
use Prim.Native.Nat.{ℕ, zero, suc, ◌+◌, ◌≤◌, ◌<◌}
use native.Mathlib.Omega.{arith}
use native.Mathlib.Decide.{ℕ_discrete, dec_lt}
use lib.ListN.{length}
use Rattle.counting.specs.Lists.{last, join}
use Rattle.counting.specs.Every.{All, Pairwise, In, Distinct}
use Rattle.counting.specs.Every.All.{more, none}
use Rattle.counting.specs.Every.Pairwise.{end, link}
use Rattle.racks.specs.Limits.{FREE}
use Rattle.racks.specs.Table.{dest}
use Rattle.racks.proofs.Table.{dest-has}
use Rattle.factors.specs.Copies.{source, onward, back, head, factor, factors_from, factors}
use Rattle.factors.specs.parts.Chains.{Chained}
use Rattle.factors.proofs.Members.{in?, in-among, among-off, in_left, in_right, in-cases, last_in, distinct_append}
use Rattle.factors.proofs.Walks.{Ends, Path, comes-from, goes_to}
use Rattle.factors.proofs.Chains.{source-dest, dest-source, onward-low, onward_distinct, onward_path, onward-ends, back_path, head-cases, head-low}
use Rattle.factors.specs.Factors.{Lowest, Before}

module _ {places : List ℕ} (ok : Chained places) where
  -- a chain has where its cards go
  pub closed-dest : (h : ℕ) → h < length places → (g : ℕ) → dest places g ≢ FREE → In g (h ∷ onward places h) → In (dest places g) (h ∷ onward places h)
  closed-dest h low g q m = go (goes_to (dest places) h h g (onward places h) (onward_path ok h low) m) (onward-ends ok h low)
    where
      go : In (dest places g) (onward places h) ⊎ (g ≡ last h (onward places h)) → Ends h (dest places (last h (onward places h))) → In (dest places g) (h ∷ onward places h)
      go (inl u) e = inr u
      go (inr u) (inl e) = absurd (q (rw u e))
      go (inr u) (inr e) = inl (rw u e)

  -- what has the end of the way back, and where its cards go, has the beginning
  back_in : (D : ℕ → Type 0) → ((g : ℕ) → dest places g ≢ FREE → D g → D (dest places g)) → (s x : ℕ) (l : List ℕ) → x ≢ FREE → Path (source places) s x l → D (last x l) → D x
  unfolding last
  back_in D cl s x [] q w m = m
  back_in D cl s x (y ∷ l) q w m =
      let e : dest places y ≡ x = ap (dest places) (sym w.0) ∙ dest-source ok x (rw w.0 w.1) in
      rw e at (cl y (rw e q) (back_in D cl s y l w.1 w.3 m))

  module _ (k : ℕ) (low : k < length places) where
    -- a slot is in its factor
    pub self_in : In k (factor places k)
    unfolding factor
    self_in = elim (head-cases ok k low) [
      | inl e ↦ inl (sym e.0)
      | inr e ↦ back_in (λ x. In x (head places k ∷ onward places (head places k))) (closed-dest (head places k) (head-low ok k low)) k k (back places k)
          (omega (arith, ok.small)) (back_path ok k low) (inl (sym e.0))
    ]

    -- a factor has where its cards go
    pub factor-dest : (g : ℕ) → dest places g ≢ FREE → In g (factor places k) → In (dest places g) (factor places k)
    unfolding factor
    factor-dest = closed-dest (head places k) (head-low ok k low)

    -- and whose cards come
    pub factor-source : (g : ℕ) → dest places g ≢ FREE → In (dest places g) (factor places k) → In g (factor places k)
    unfolding factor
    factor-source g q (inr m) =
        let t = comes-from (dest places) (head places k) (head places k) (dest places g) (onward places (head places k)) (onward_path ok (head places k) (head-low ok k low)) m in
        subst (λ (n : ℕ). In n (head places k ∷ onward places (head places k))) (sym (ok.once g t.0 (sym t.2) q)) t.1
    factor-source g q (inl e) = elim (head-cases ok k low) [
      | inl u ↦
          let w : dest places (last (head places k) (onward places (head places k))) ≡ head places k = rw u.0 u.1 in
          let s : g ≡ last (head places k) (onward places (head places k)) = ok.once g (last (head places k) (onward places (head places k))) (e ∙ sym w) q in
          subst (λ (n : ℕ). In n (head places k ∷ onward places (head places k))) (sym s) (last_in (head places k) (onward places (head places k)))
      | inr u ↦
          let z : g ≡ FREE = sym (source-dest ok g q) ∙ ap (source places) e ∙ u.1 in
          absurd (omega (arith, dest-has places g q, ok.small))
    ]

    -- a factor has slots of the table only
    pub factor-low : (v : ℕ) → In v (factor places k) → v < length places
    unfolding factor
    factor-low v m = onward-low ok (head places k) (head-low ok k low) v m

    -- a factor's slots are distinct
    pub factor_distinct : Distinct (factor places k)
    unfolding factor
    factor_distinct = onward_distinct ok (head places k) (head-low ok k low)

    -- from its first slot on, each slot is where the card of the one before goes
    pub factor_path : Path (dest places) (head places k) (head places k) (onward places (head places k))
    factor_path = onward_path ok (head places k) (head-low ok k low)

  -- a set of slots that has whole factors
  abbrev Whole : List ℕ → Type 0
  Whole seen = (g : ℕ) → dest places g ≢ FREE → (In g seen → In (dest places g) seen) × (In (dest places g) seen → In g seen)

  head_in : (seen : List ℕ) → Whole seen → (s x v : ℕ) (l : List ℕ) → Path (dest places) s x l → In v (x ∷ l) → In v seen → In x seen
  head_in seen cl s x v [] w (inr u) m = elim u [ ]
  head_in seen cl s x v [] w (inl e) m = rw e at m
  head_in seen cl s x v (y ∷ l) w (inl e) m = rw e at m
  head_in seen cl s x v (y ∷ l) w (inr u) m = (cl x (rw w.0 w.1)).1 (rw w.0 (head_in seen cl s y v l w.3 u m))

  all_in : (seen : List ℕ) → Whole seen → (s x v : ℕ) (l : List ℕ) → Path (dest places) s x l → In v (x ∷ l) → In x seen → In v seen
  all_in seen cl s x v [] w (inr u) m = elim u [ ]
  all_in seen cl s x v [] w (inl e) m = rw e m
  all_in seen cl s x v (y ∷ l) w (inl e) m = rw e m
  all_in seen cl s x v (y ∷ l) w (inr u) m = all_in seen cl s y v l w.3 u (rw w.0 at ((cl x (rw w.0 w.1)).0 m))

  whole-add : (k : ℕ) → k < length places → (seen : List ℕ) → Whole seen → Whole (factor places k ++ seen)
  whole-add k low seen cl g q = (ahead, behind)
    where
      ahead : In g (factor places k ++ seen) → In (dest places g) (factor places k ++ seen)
      ahead m = elim (in-cases g (factor places k) seen m) [
        | inl u ↦ in_left (dest places g) (factor places k) seen (factor-dest k low g q u)
        | inr u ↦ in_right (dest places g) (factor places k) seen ((cl g q).0 u)
      ]

      behind : In (dest places g) (factor places k ++ seen) → In g (factor places k ++ seen)
      behind m = elim (in-cases (dest places g) (factor places k) seen m) [
        | inl u ↦ in_left g (factor places k) seen (factor-source k low g q u)
        | inr u ↦ in_right g (factor places k) seen ((cl g q).1 u)
      ]

  -- k's factor has no slot in a set of whole factors that lacks k
  apart : (k : ℕ) → k < length places → (seen : List ℕ) → Whole seen → ¬ In k seen → (v : ℕ) → In v (factor places k) → ¬ In v seen
  unfolding factor
  apart k low seen cl q v m u =
      let h : ℕ = head places k in
      q (all_in seen cl h h k (onward places h) (factor_path k low) (self_in k low) (head_in seen cl h h v (onward places h) (factor_path k low) m u))

  -- two factors with a slot in common have the same slots
  pub same_or-apart : (j k v : ℕ) → j < length places → k < length places → In v (factor places j) → In v (factor places k) → (w : ℕ) → In w (factor places j) → In w (factor places k)
  unfolding factor
  same_or-apart j k v lj lk a b w m =
      let h : ℕ = head places j in
      let cl : Whole (factor places k) = λ g q. (factor-dest k lk g q, factor-source k lk g q) in
      all_in (factor places k) cl h h w (onward places h) (factor_path j lj) m (head_in (factor places k) cl h h v (onward places h) (factor_path j lj) a b)

  -- from slot k on: each list is the factor of a slot that is in none before, its lowest; at the end every slot is in one
  pub data Factored : ℕ → List ℕ → List (List ℕ) → Type 0 where
    ended : {k : ℕ} {seen : List ℕ} → ((x : ℕ) → x < length places → In x seen) → Factored k seen []
    began : {j k : ℕ} {seen slots : List ℕ} {rest : List (List ℕ)} → j ≤ k → k < length places → slots ≡ factor places k → Lowest k slots
        → ((v : ℕ) → In v slots → ¬ In v seen) → Factored (suc k) (slots ++ seen) rest → Factored j seen (slots ∷ rest)

  -- a list that begins at a later slot begins at an earlier one
  sooner : {j k : ℕ} {seen : List ℕ} {rest : List (List ℕ)} → j ≤ k → Factored k seen rest → Factored j seen rest
  sooner l (ended h) = ended h
  sooner {j} l (began {k = i} m b e f a r) = began {j = j} {k = i} (omega arith) b e f a r

  factored : (n k : ℕ) (seen : List ℕ) → n + k ≡ length places → Whole seen → ((x : ℕ) → x < k → In x seen) → Factored k seen (factors_from places n k seen)
  unfolding factors_from
  factored zero k seen e cl b = ended (λ x l. b x (omega arith))
  factored (suc n) k seen e cl b = elim (in? k seen) [
    | yes i ↦ rw (in-among k seen i) (sooner (omega arith) (factored n (suc k) seen (omega arith) cl (up seen i b)))
    | no i ↦ rw (among-off k seen i)
        (began {j = k} {k = k} (omega arith) low refl (record { member = self_in k low; least = least i }) (apart k low seen cl i)
        (factored n (suc k) (factor places k ++ seen) (omega arith) (whole-add k low seen cl)
        (up (factor places k ++ seen) (in_left k (factor places k) seen (self_in k low)) (λ x l. in_right x (factor places k) seen (b x l)))))
  ]
    where
      low : k < length places
      low = omega arith

      up : (d : List ℕ) → In k d → ((x : ℕ) → x < k → In x d) → (x : ℕ) → x < suc k → In x d
      up d i r x l = elim (ℕ_discrete x k) [ yes u ↦ rw u i | no u ↦ r x (omega arith) ]

      least : ¬ In k seen → (v : ℕ) → In v (factor places k) → k ≤ v
      least i v m = elim (dec_lt v k) [ yes l ↦ absurd (apart k low seen cl i v m (b v l)) | no l ↦ omega arith ]

  -- so the factors are, from slot 0 on
  pub factors-are : Factored 0 [] (factors places)
  unfolding factors
  factors-are = factored (length places) 0 [] (omega arith) (λ g q. (λ m. absurd m, λ m. absurd m)) (λ x l. absurd (omega arith))

  with-lowest : {j : ℕ} {seen : List ℕ} {rest : List (List ℕ)} → Factored j seen rest → All (λ slots. (k : ℕ) × (k < length places) × (slots ≡ factor places k) × Lowest k slots) rest
  with-lowest (ended h) = none
  with-lowest (began {k = k} m b e f a r) = more (k, b, e, f) (with-lowest r)

  -- each is the factor of its lowest slot
  pub factors-lowest : All (λ slots. (k : ℕ) × (k < length places) × (slots ≡ factor places k) × Lowest k slots) (factors places)
  factors-lowest = with-lowest factors-are

  later : {j : ℕ} (i : ℕ) {seen slots : List ℕ} {rest : List (List ℕ)} → i < j → Lowest i slots → Factored j seen rest → All (Before slots) rest
  later i l f (ended h) = none
  later i {slots = slots} l f (began {k = k} m b e g a r) =
      more (λ x y p q. between x y p (q.least k g.member) (g.least y q.member)) (later i (omega arith) f r)
    where
      between : (x y : ℕ) → Lowest x slots → y ≤ k → k ≤ y → x < y
      between x y p u v = omega (arith, p.least i f.member)

  by-lowest : {j : ℕ} {seen : List ℕ} {rest : List (List ℕ)} → Factored j seen rest → Pairwise Before rest
  by-lowest (ended h) = end
  by-lowest (began {k = k} m b e f a r) = link (later k (omega arith) f r) (by-lowest r)

  -- factors come by their lowest slot, a shift's free end among them
  pub factors_ascend : Pairwise Before (factors places)
  factors_ascend = by-lowest factors-are

  off_seen : {j : ℕ} {seen : List ℕ} {rest : List (List ℕ)} → Factored j seen rest → (x : ℕ) → In x (join rest) → ¬ In x seen
  unfolding join
  off_seen (ended h) x i m = i
  off_seen (began {seen = seen} {slots} {rest} _ _ _ _ a r) x i m =
      elim (in-cases x slots (join rest) i) [ inl u ↦ a x u m | inr u ↦ off_seen r x u (in_right x slots seen m) ]

  all_distinct : {j : ℕ} {seen : List ℕ} {rest : List (List ℕ)} → Factored j seen rest → Distinct (join rest)
  unfolding join
  all_distinct (ended h) = tt
  all_distinct (began {k = k} {seen} {slots} {rest} _ b e _ a r) =
      distinct_append slots (join rest) (rw e (factor_distinct k b)) (all_distinct r) (λ x i j. off_seen r x j (in_left x slots seen i))

  all_there : {j : ℕ} {seen : List ℕ} {rest : List (List ℕ)} → Factored j seen rest → (x : ℕ) → x < length places → In x seen ⊎ In x (join rest)
  unfolding join
  all_there (ended h) x l = inl (h x l)
  all_there (began {seen = seen} {slots} {rest} _ _ _ _ _ r) x l = elim (all_there r x l) [
    | inr m ↦ inr (in_right x slots (join rest) m)
    | inl m ↦ elim (in-cases x slots seen m) [ inl u ↦ inr (in_left x slots (join rest) u) | inr u ↦ inl u ]
  ]

  all-low : {j : ℕ} {seen : List ℕ} {rest : List (List ℕ)} → Factored j seen rest → (x : ℕ) → In x (join rest) → x < length places
  unfolding join
  all-low (ended h) x m = absurd m
  all-low (began {k = k} {seen} {slots} {rest} _ b e _ _ r) x m =
      elim (in-cases x slots (join rest) m) [ inl u ↦ factor-low k b x (rw e at u) | inr u ↦ all-low r x u ]

  -- no slot is in two factors, nor twice in one
  pub factors-once : Distinct (join (factors places))
  factors-once = all_distinct factors-are

  -- every slot is in a factor
  pub factors-all : (x : ℕ) → x < length places → In x (join (factors places))
  factors-all x l = elim (all_there factors-are x l) [ inl u ↦ absurd u | inr u ↦ u ]

  -- and nothing else is
  pub factors-slots : (x : ℕ) → In x (join (factors places)) → x < length places
  factors-slots = all-low factors-are
