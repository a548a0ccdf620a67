-- What copies do to the contents of slots and of the hand, whatever these are: a shift, and a cycle. Assumes nothing.
use mathlib.Core.Path.{◌≡◌, refl, sym, ap, ◌∙◌, subst}
use mathlib.Core.Logic.{◌≢◌, ◌⊎◌, inl, inr}
use mathlib.Core.List.{List, [], ◌∷◌, ◌++◌}
use Prim.Native.Nat.{ℕ}
use lib.Dec.{eqb}
use borrow.Author.Tests.{eq-eqb, ne_eqb}
use Rattle.counting.specs.Tests.{pick}
use Rattle.counting.specs.Lists.{Pair, last}
use Rattle.racks.specs.Limits.{HAND}
use Rattle.factors.specs.Copies.{shift, cycle}
use Rattle.counting.specs.Every.{In, Distinct}
use Rattle.factors.proofs.Walks.{Path}

module _ {A : Type 0} where
  -- contents after one copy
  unfoldable pub put : (ℕ → A) → ℕ → ℕ → ℕ → A
  put c a b z = pick (eqb z b) (c a) (c z)

  -- contents after each copy of a list
  unfoldable pub run : List Pair → (ℕ → A) → ℕ → A
  run [] c = c
  run (k ∷ l) c = run l (put c k.0 k.1)

  put_same : (c : ℕ → A) (a b z : ℕ) → z ≡ b → put c a b z ≡ c a
  unfolding put
  put_same c a b z e = rw (eq-eqb z b e)

  put_other : (c : ℕ → A) (a b z : ℕ) → z ≢ b → put c a b z ≡ c z
  unfolding put
  put_other c a b z e = rw (ne_eqb z b e)

  -- copies, and then others
  pub run-append : (a b : List Pair) (c : ℕ → A) → run (a ++ b) c ≡ run b (run a c)
  unfolding run
  run-append [] b c = refl
  run-append (k ∷ a) b c = run-append a b (put c k.0 k.1)

  run_snoc : (l : List Pair) (a b : ℕ) (c : ℕ → A) → run (l ++ (a, b) ∷ []) c ≡ put (run l c) a b
  unfolding run
  run_snoc l a b c = run-append l ((a, b) ∷ []) c

  -- a shift leaves what stands outside its slots, and in its first
  pub shift_keeps : (x z : ℕ) (l : List ℕ) (c : ℕ → A) → ¬ In z l → run (shift x l) c z ≡ c z
  unfolding shift run
  shift_keeps x z [] c h = refl
  shift_keeps x z (y ∷ l) c h = rw run_snoc (put_other (run (shift y l) c) x y z (λ e. h (inl e)) ∙ shift_keeps y z l c (λ m. h (inr m)))

  -- and brings each card of its slots, but for the last, where it goes
  pub shift-moves : (f : ℕ → ℕ) (s x g : ℕ) (l : List ℕ) → Path f s x l → Distinct (x ∷ l) → In g (x ∷ l)
      → (In (f g) l × ((c : ℕ → A) → run (shift x l) c (f g) ≡ c g)) ⊎ (g ≡ last x l)
  unfolding shift run last
  shift-moves f s x g [] p n (inr m) = elim m [ ]
  shift-moves f s x g [] p n (inl e) = inr e
  shift-moves f s x g (y ∷ l) p n (inl e) = inl (inl to, moved)
    where
      to : f g ≡ y
      to = ap f e ∙ p.0

      moved : (c : ℕ → A) → run (shift y l ++ (x, y) ∷ []) c (f g) ≡ c g
      moved c = rw run_snoc (put_same (run (shift y l) c) x y (f g) to ∙ shift_keeps y x l c (λ m. n.0 (inr m)) ∙ ap c (sym e))
  shift-moves f s x g (y ∷ l) p n (inr m) = elim (shift-moves f s y g l p.3 n.1 m) [
    | inl t ↦ inl (inr t.0, λ c. rw run_snoc (put_other (run (shift y l) c) x y (f g) (λ e. n.1.0 (rw e at t.0)) ∙ t.1 c))
    | inr e ↦ inr e
  ]

  -- a cycle leaves what stands outside its slots and the hand
  pub cycle_keeps : (x z : ℕ) (l : List ℕ) (c : ℕ → A) → ¬ In z (x ∷ l) → z ≢ HAND → run (cycle x l) c z ≡ c z
  unfolding cycle run
  cycle_keeps x z [] c h q = refl
  cycle_keeps x z (y ∷ l) c h q =
      rw run_snoc (put_other (run (shift x (y ∷ l)) (put c (last y l) HAND)) HAND x z (λ e. h (inl e))
      ∙ shift_keeps x z (y ∷ l) (put c (last y l) HAND) (λ m. h (inr m)) ∙ put_other c (last y l) HAND z q)

  -- and brings each card of its slots where it goes
  pub cycle-moves : (f : ℕ → ℕ) (x g : ℕ) (l : List ℕ) (c : ℕ → A) → Path f x x l → Distinct (x ∷ l) → ¬ In HAND (x ∷ l) → f (last x l) ≡ x → In g (x ∷ l)
      → run (cycle x l) c (f g) ≡ c g
  unfolding cycle run last
  cycle-moves f x g [] c p n h e (inr x7) = elim x7 [ ]
  cycle-moves f x g [] c p n h e (inl q) = ap c (ap f q ∙ e ∙ sym q)
  cycle-moves f x g (y ∷ l) c p n h e m = rw run_snoc (go (shift-moves f x x g (y ∷ l) p n m))
    where
      c1 : ℕ → A
      c1 = put c (last y l) HAND

      c2 : ℕ → A
      c2 = run (shift x (y ∷ l)) c1

      go : (In (f g) (y ∷ l) × ((c : ℕ → A) → run (shift x (y ∷ l)) c (f g) ≡ c g)) ⊎ (g ≡ last y l) → put c2 HAND x (f g) ≡ c g
      go (inl t) = put_other c2 HAND x (f g) (λ q. n.0 (subst (λ (n : ℕ). In n (y ∷ l)) q t.0)) ∙ t.1 c1 ∙ put_other c (last y l) HAND g (λ q. h (subst (λ (n : ℕ). In n (x ∷ y ∷ l)) q m))
      go (inr q) = put_same c2 HAND x (f g) (ap f q ∙ e) ∙ shift_keeps x HAND (y ∷ l) c1 (λ u. h (inr u)) ∙ put_same c (last y l) HAND HAND refl ∙ ap c (sym q)
