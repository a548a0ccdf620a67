-- A walk along a partial one-to-one function of the slots, where 65,535 is no slot, and the walk back along its inverse. Assumes nothing.
use mathlib.Core.Path.{◌≡◌, refl, sym, ap, subst, ◌∙◌}
use mathlib.Core.Logic.{◌≢◌, ◌⊎◌, inl, inr}
use mathlib.Core.List.{List, [], ◌∷◌}
use Prim.Native.Nat.{ℕ, zero, suc, ◌≤◌, ◌<◌}
use native.Mathlib.Omega.{arith}
use native.Mathlib.Decide.{ℕ_discrete}
use lib.Dec.{eqb}
use lib.ListN.{length}
use borrow.Author.Tests.{eq-eqb, ne_eqb}
use Rattle.counting.specs.Lists.{last}
use Rattle.counting.proofs.Tests.{or_l, or_r, or-none}
use Rattle.racks.specs.Limits.{FREE}
use Rattle.factors.specs.Copies.{following}
use Rattle.counting.specs.Every.{In, Distinct}
use Rattle.factors.proofs.Members.{pigeon, last_in}

-- the walk from s ends before y
abbrev pub Ends : ℕ → ℕ → Type 0
Ends s y = (y ≡ FREE) ⊎ (y ≡ s)

-- the walk ends before y or not
pub ends? : (s y : ℕ) → Dec (Ends s y)
ends? s y = elim (ℕ_discrete y FREE) [
  | yes e ↦ yes (inl e)
  | no p ↦ elim (ℕ_discrete y s) [ yes e ↦ yes (inr e) | no q ↦ no (λ u. elim u [ inl e ↦ p e | inr e ↦ q e ]) ]
]

-- each slot of the list is f of the one before, and neither 65,535 nor s
abbrev pub Path : (ℕ → ℕ) → ℕ → ℕ → List ℕ → Type 0
Path f s x [] = Unit {0}
Path f s x (y ∷ l) = (f x ≡ y) × (y ≢ FREE) × (y ≢ s) × Path f s y l

module _ (f : ℕ → ℕ) (s : ℕ) where
  -- where it ends, no slot follows
  pub after_stop : (n x : ℕ) → Ends s (f x) → following f s n x ≡ []
  unfolding following
  after_stop zero x h = refl
  after_stop (suc n) x h = elim h [ inl e ↦ rw (or_l (eqb (f x) s) (eq-eqb (f x) FREE e)) | inr e ↦ rw (or_r (eqb (f x) FREE) (eq-eqb (f x) s e)) ]

  -- where it does not, f x follows
  pub after-go : (n x : ℕ) → ¬ Ends s (f x) → following f s (suc n) x ≡ f x ∷ following f s n (f x)
  unfolding following
  after-go n x h = rw (or-none (ne_eqb (f x) FREE (λ e. h (inl e))) (ne_eqb (f x) s (λ e. h (inr e))))

  after_none : (x : ℕ) → following f s 0 x ≡ []
  unfolding following
  after_none x = refl

  -- each slot that follows is f of the one before
  pub after_path : (n x : ℕ) → Path f s x (following f s n x)
  after_path zero x = rw (after_none x) tt
  after_path (suc n) x = elim (ends? s (f x)) [
    | yes e ↦ rw (after_stop (suc n) x e) tt
    | no q ↦ rw (after-go n x q) (refl, (λ e. q (inl e)), (λ e. q (inr e)), after_path n (f x))
  ]

  -- it ends, or all steps are made
  after-ends : (n x : ℕ) → Ends s (f (last x (following f s n x))) ⊎ (length (following f s n x) ≡ n)
  unfolding last
  after-ends zero x = inr (rw (after_none x))
  after-ends (suc n) x = elim (ends? s (f x)) [
    | yes e ↦ inl (rw (after_stop (suc n) x e) e)
    | no q ↦ elim (after-ends n (f x)) [ inl e ↦ inl (rw (after-go n x q) e) | inr e ↦ inr (rw (after-go n x q) (ap suc e)) ]
  ]

  not_start : (x : ℕ) (l : List ℕ) → Path f s x l → ¬ In s l
  not_start x [] p x4 = elim x4 [ ]
  not_start x (y ∷ l) p (inl e) = p.2 (sym e)
  not_start x (y ∷ l) p (inr m) = not_start y l p.3 m

  -- a slot of the list is f of a slot before it
  pub comes-from : (x v : ℕ) (l : List ℕ) → Path f s x l → In v l → (z : ℕ) × In z (x ∷ l) × (f z ≡ v) × (v ≢ FREE)
  comes-from x v [] p x4 = elim x4 [ ]
  comes-from x v (y ∷ l) p (inl e) = (x, inl refl, p.0 ∙ sym e, rw (← e) at p.1)
  comes-from x v (y ∷ l) p (inr m) = let t = comes-from y v l p.3 m in (t.0, inr t.1, t.2, t.3)

  -- f of a slot of the list is in the list, or the slot is the last
  pub goes_to : (x g : ℕ) (l : List ℕ) → Path f s x l → In g (x ∷ l) → In (f g) l ⊎ (g ≡ last x l)
  unfolding last
  goes_to x g [] p (inr m) = elim m [ ]
  goes_to x g [] p (inl e) = inr e
  goes_to x g (y ∷ l) p (inl e) = inl (inl (ap f e ∙ p.0))
  goes_to x g (y ∷ l) p (inr m) = elim (goes_to y g l p.3 m) [ inl u ↦ inl (inr u) | inr u ↦ inr u ]

  -- a set that f does not leave has the whole walk
  stays_in : (D : ℕ → Type 0) → ((g : ℕ) → D g → f g ≢ FREE → D (f g)) → (x : ℕ) (l : List ℕ) → Path f s x l → D x → D (last x l)
  unfolding last
  stays_in D h x [] p m = m
  stays_in D h x (y ∷ l) p m = stays_in D h y l p.3 (rw p.0 at (h x m (rw p.0 p.1)))

-- g takes every step of f back
abbrev pub Undoes : (ℕ → ℕ) → (ℕ → ℕ) → Type 0
Undoes g f = (x : ℕ) → f x ≢ FREE → g (f x) ≡ x

module _ (f g : ℕ → ℕ) (undo : Undoes g f) (s : ℕ) where
  distinct_by : (x : ℕ) (l : List ℕ) → Path f s x l → ¬ In x l → Distinct (x ∷ l)
  distinct_by x [] p h = (h, tt)
  distinct_by x (y ∷ l) p h = (h, distinct_by y l p.3 back)
    where
      back : ¬ In y l
      back m =
          let t = comes-from f s y y l p.3 m in
          let e : x ≡ t.0 = sym (undo x (rw p.0 p.1)) ∙ ap g (p.0 ∙ sym t.2) ∙ undo t.0 (rw t.2 t.3) in
          h (subst (λ (n : ℕ). In n (y ∷ l)) (sym e) t.1)

module _ (f g : ℕ → ℕ) (undo : Undoes g f) (x : ℕ) where
  -- the slots of a walk are distinct
  pub walk_distinct : (n : ℕ) → Distinct (x ∷ following f x n x)
  walk_distinct n = distinct_by f g undo x x (following f x n x) (after_path f x n x) (not_start f x x (following f x n x) (after_path f x n x))

  module _ (S : ℕ) (low : (a : ℕ) → f a ≢ FREE → f a < S) (small : x < S) where
    -- the slots of a walk are below S
    pub walk-low : (v : ℕ) → In v (x ∷ following f x S x) → v < S
    walk-low v (inl e) = rw e small
    walk-low v (inr m) =
        let t = comes-from f x x v (following f x S x) (after_path f x S x) m in
        rw (← t.2) (low t.0 (rw t.2 t.3))

    -- S steps are enough
    pub walk_ends : Ends x (f (last x (following f x S x)))
    walk_ends = go (after-ends f x S x)
      where
        go : Ends x (f (last x (following f x S x))) ⊎ (length (following f x S x) ≡ S) → Ends x (f (last x (following f x S x)))
        go (inl e) = e
        go (inr e) = let z : ◌≡◌ {A = ℕ} 0 1 = omega (arith, e, pigeon S (x ∷ following f x S x) (walk_distinct S) walk-low) in absurd (omega arith)

-- where the walk on comes to x again, so does the walk back
module _ (f g : ℕ → ℕ) (undo : Undoes g f) (redo : Undoes f g) (x S : ℕ) (few : S ≤ FREE) (low : (a : ℕ) → f a ≢ FREE → f a < S) (low' : (a : ℕ) → g a ≢ FREE → g a < S) (small : x < S) where
  turned : f (last x (following f x S x)) ≡ x → (v : ℕ) → In v (x ∷ following f x S x) → In (g v) (x ∷ following f x S x)
  turned e v (inl i) =
      let l : ℕ = last x (following f x S x) in
      let q : f l ≢ FREE = rw e (omega arith) in
      let s : g v ≡ l = ap g (i ∙ sym e) ∙ undo l q in
      subst (λ (n : ℕ). In n (x ∷ following f x S x)) (sym s) (last_in x (following f x S x))
  turned e v (inr m) =
      let t = comes-from f x x v (following f x S x) (after_path f x S x) m in
      let s : t.0 ≡ g v = sym (undo t.0 (rw t.2 t.3)) ∙ ap g t.2 in
      subst (λ (n : ℕ). In n (x ∷ following f x S x)) s t.1

  -- so it comes to x again
  pub turns-back : f (last x (following f x S x)) ≡ x → g (last x (following g x S x)) ≡ x
  turns-back e = go (walk_ends g f redo x S low' small)
    where
      end : In (g (last x (following g x S x))) (x ∷ following f x S x)
      end = turned e (last x (following g x S x)) (stays_in g x (λ v. In v (x ∷ following f x S x)) (λ v m _. turned e v m) x (following g x S x) (after_path g x S x) (inl refl))

      go : Ends x (g (last x (following g x S x))) → g (last x (following g x S x)) ≡ x
      go (inl u) = absurd (omega (arith, walk-low f g undo x S low small (g (last x (following g x S x))) end))
      go (inr u) = u

-- where f and g agree on the slots, so do the walks along them
pub after_same : (f g : ℕ → ℕ) (s S : ℕ) → ((x : ℕ) → x < S → f x ≡ g x) → ((x : ℕ) → g x ≢ FREE → g x < S) → (n x : ℕ) → x < S → following f s n x ≡ following g s n x
unfolding following
after_same f g s S same below zero x l = refl
after_same f g s S same below (suc n) x l = elim (ends? s (g x)) [
  | yes e ↦ after_stop f s (suc n) x (rw (same x l) e) ∙ sym (after_stop g s (suc n) x e)
  | no q ↦ after-go f s n x (rw (same x l) q) ∙ rw (same x l, after_same f g s S same below n (g x) (below x (λ e. q (inl e)))) (sym (after-go g s n x q))
]
