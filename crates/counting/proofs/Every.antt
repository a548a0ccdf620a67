-- Every member of a list meets P; every two members of a list, in their order, meet R. Assumes nothing.
use mathlib.Core.Path.{◌≡◌, refl}
use mathlib.Core.List.{List, [], ◌++◌}
use Prim.Native.Nat.{ℕ, zero, suc}
use lib.ListN.{take}
use Rattle.counting.specs.Every.{All, Pairwise}
use Rattle.counting.specs.Every.All.{none, more}
use Rattle.counting.specs.Every.Pairwise.{end, link}

module _ {A : Type 0} {P : A → Type 0} where
  pub all_append : {a b : List A} → All P a → All P b → All P (a ++ b)
  all_append none q = q
  all_append (more x p) q = more x (all_append p q)

  pub all_map : {Q : A → Type 0} {a : List A} → ((x : A) → P x → Q x) → All P a → All Q a
  all_map h none = none
  all_map h (more {x} p r) = more (h x p) (all_map h r)

  pub all_both : {Q : A → Type 0} {a : List A} → All P a → All Q a → All (λ x. P x × Q x) a
  all_both none none = none
  all_both (more p r) (more q s) = more (p, q) (all_both r s)

  pub all_take : (n : ℕ) {l : List A} → All P l → All P (take n l)
  all_take zero h = none
  all_take (suc n) none = none
  all_take (suc n) (more p r) = more p (all_take n r)

  -- where nothing meets P, a list of such members is empty
  pub all_none : {a : List A} → ((x : A) → P x → ⊥) → All P a → a ≡ []
  all_none h none = refl
  all_none h (more {x} p r) = absurd (h x p)

module _ {A : Type 0} {R : A → A → Type 0} where
  pub pairwise_append : {a b : List A} → Pairwise R a → Pairwise R b → All (λ x. All (R x) b) a → Pairwise R (a ++ b)
  pairwise_append end q h = q
  pairwise_append (link x p) q (more h hs) = link (all_append x h) (pairwise_append p q hs)

  pub pairwise_map : {Q : A → A → Type 0} {a : List A} → ((x y : A) → R x y → Q x y) → Pairwise R a → Pairwise Q a
  pairwise_map h end = end
  pairwise_map h (link {x} p r) = link (all_map (λ y. h x y) p) (pairwise_map h r)

  pub pairwise_take : (n : ℕ) {l : List A} → Pairwise R l → Pairwise R (take n l)
  pairwise_take zero h = end
  pairwise_take (suc n) end = end
  pairwise_take (suc n) (link p r) = link (all_take n p) (pairwise_take n r)
