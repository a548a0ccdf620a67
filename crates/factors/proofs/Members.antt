-- Lists of slots: members, lists without repeats, how long they can be. Assumes nothing.
use mathlib.Core.Path.{◌≡◌, refl, sym, ap, ◌∙◌}
use mathlib.Core.Logic.{◌≢◌, ◌⊎◌, inl, inr}
use mathlib.Core.Bool.{true, false, true≢false}
use mathlib.Core.List.{List, [], ◌∷◌, ◌++◌}
use Prim.Native.Nat.{ℕ, suc, ◌≤◌, ◌<◌}
use native.Mathlib.Omega.{arith}
use lib.Dec.{eqb}
use lib.ListN.{length}
use borrow.Author.Tests.{eqb-true, eq-eqb, ne_eqb}
use Rattle.counting.specs.Tests.{◌or◌}
use Rattle.counting.specs.Count.{count}
use Rattle.counting.specs.Lists.{among, last}
use Rattle.counting.proofs.Tests.{by-test, off, no_way, or_l, or_r, or-on}
use Rattle.counting.proofs.Count.{count-zero, count_change, count_le}
use Rattle.counting.specs.Every.{In, Distinct}

-- a member is found by the test
pub in-among : (x : ℕ) (l : List ℕ) → In x l → among x l ≡ true
unfolding among
in-among x [] x'' = elim x'' [ ]
in-among x (y ∷ l) (inl e) = or_l _ (eq-eqb x y e)
in-among x (y ∷ l) (inr m) = or_r (eqb x y) (in-among x l m)

-- what the test finds is a member
pub among_in : (x : ℕ) (l : List ℕ) → among x l ≡ true → In x l
unfolding among
among_in x [] h = absurd (true≢false (sym h))
among_in x (y ∷ l) h = by-test (eqb x y) (λ t. inl (eqb-true x y t)) (λ t. inr (among_in x l (or-on (eqb x y) (among x l) h t)))

-- what is no member is not found
pub among-off : (x : ℕ) (l : List ℕ) → ¬ In x l → among x l ≡ false
among-off x l h = off (λ t. h (among_in x l t))

-- a number is a member or not
pub in? : (x : ℕ) (l : List ℕ) → Dec (In x l)
in? x l = by-test (among x l) (λ t. yes (among_in x l t)) (λ t. no (λ m. no_way (in-among x l m) t))

-- a member of the former list is one of both
pub in_left : (x : ℕ) (a b : List ℕ) → In x a → In x (a ++ b)
in_left x [] b x'' = elim x'' [ ]
in_left x (y ∷ a) b (inl e) = inl e
in_left x (y ∷ a) b (inr m) = inr (in_left x a b m)

-- and so is a member of the latter
pub in_right : (x : ℕ) (a b : List ℕ) → In x b → In x (a ++ b)
in_right x [] b m = m
in_right x (y ∷ a) b m = inr (in_right x a b m)

-- a member of both is one of the former or of the latter
pub in-cases : (x : ℕ) (a b : List ℕ) → In x (a ++ b) → In x a ⊎ In x b
in-cases x [] b m = inr m
in-cases x (y ∷ a) b (inl e) = inl (inl e)
in-cases x (y ∷ a) b (inr m) = elim (in-cases x a b m) [ inl u ↦ inl (inr u) | inr u ↦ inr u ]

-- the last is a member
pub last_in : (x : ℕ) (l : List ℕ) → In (last x l) (x ∷ l)
unfolding last
last_in x [] = inl refl
last_in x (y ∷ l) = inr (last_in y l)

-- two lists without repeats that share no member have no repeats together
pub distinct_append : (a b : List ℕ) → Distinct a → Distinct b → ((x : ℕ) → In x a → ¬ In x b) → Distinct (a ++ b)
distinct_append [] b p q d = q
distinct_append (y ∷ a) b p q d =
    ((λ i. elim (in-cases y a b i) [ inl u ↦ p.0 u | inr u ↦ d y (inl refl) u ]), distinct_append a b p.1 q (λ x i. d x (inr i)))

-- among a list with x in front: another number
pub among-other : (k x : ℕ) (l : List ℕ) → k ≢ x → among k (x ∷ l) ≡ among k l
unfolding among ◌or◌
among-other k x l e = rw (ne_eqb k x e)

-- none is among no members
pub among_none : (k : ℕ) → among k [] ≡ false
unfolding among
among_none k = refl

-- a list without repeats of numbers below n has as many members as there are numbers below n among it
pub length-count : (n : ℕ) (l : List ℕ) → Distinct l → ((x : ℕ) → In x l → x < n) → length l ≡ count n (λ k. among k l)
length-count n [] d b = sym (count-zero n _ (λ k _. among_none k))
length-count n (x ∷ l) d b =
    ap suc (length-count n l d.1 (λ y m. b y (inr m)))
    ∙ sym (count_change n (λ k. among k (x ∷ l)) (λ k. among k l) x (b x (inl refl)) (in-among x (x ∷ l) (inl refl)) (among-off x l d.0) (λ j _ e. among-other j x l e))

-- at most n
pub pigeon : (n : ℕ) (l : List ℕ) → Distinct l → ((x : ℕ) → In x l → x < n) → length l ≤ n
pigeon n l d b = omega (arith, length-count n l d b, count_le n (λ k. among k l))
