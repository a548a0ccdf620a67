-- Laws of `pair_up`: first with first, second with second. Assumes nothing.
use mathlib.Core.Path.{◌≡◌, refl}
use mathlib.Core.List.{List, [], ◌∷◌, ◌++◌}
use Prim.Native.Nat.{ℕ, zero, suc, ◌≤◌, min}
use native.Mathlib.Omega.{arith}
use lib.ListN.{length, take}
use lib.Seq.{take-nil}
use Rattle.counting.specs.Lists.{Pair, pair_up}
use Rattle.counting.specs.Every.{All, Pairwise}
use Rattle.counting.specs.Every.All.{none, more}
use Rattle.counting.specs.Every.Pairwise.{end, link}

-- as many pairs as the shorter list has members
pub length-pair_up : (a b : List ℕ) → length (pair_up a b) ≡ min (length a) (length b)
unfolding pair_up
length-pair_up [] b = omega arith
length-pair_up (x ∷ a) [] = omega arith
length-pair_up (x ∷ a) (y ∷ b) = omega (arith, length-pair_up a b)

-- nothing to pair with
pub pair_up-nil : (a : List ℕ) → pair_up a [] ≡ []
unfolding pair_up
pair_up-nil [] = refl
pair_up-nil (x ∷ a) = refl

-- of the former list no more is used than the latter has members
pub pair_up-take : (a b : List ℕ) → pair_up (take (length b) a) b ≡ pair_up a b
unfolding pair_up
pair_up-take [] b = rw take-nil
pair_up-take (x ∷ a) [] = refl
pair_up-take (x ∷ a) (y ∷ b) = rw (pair_up-take a b)

-- of both no more than the shorter has members
pub pair_up-both : (m : ℕ) (a b : List ℕ) → min (length a) (length b) ≤ m → pair_up (take m a) (take m b) ≡ pair_up a b
unfolding pair_up
pair_up-both m [] b l = rw take-nil
pair_up-both m (x ∷ a) [] l = rw take-nil (pair_up-nil (take m (x ∷ a)))
pair_up-both zero (x ∷ a) (y ∷ b) l = absurd (omega arith)
pair_up-both (suc m) (x ∷ a) (y ∷ b) l = rw (pair_up-both m a b (omega arith))

-- and of the latter no more than the former has members
pub pair_up-front : (a b c : List ℕ) → length a ≤ length b → pair_up a (b ++ c) ≡ pair_up a b
unfolding pair_up
pair_up-front [] b c l = refl
pair_up-front (x ∷ a) [] c l = absurd (omega arith)
pair_up-front (x ∷ a) (y ∷ b) c l = rw (pair_up-front a b c (omega arith))

-- what holds of each former and of each latter holds of the ends of each pair
pub all-pair_up : {P Q : ℕ → Type 0} {a b : List ℕ} → All P a → All Q b → All (λ (m : Pair). P m.0 × Q m.1) (pair_up a b)
unfolding pair_up
all-pair_up none q = none
all-pair_up (more x p) none = none
all-pair_up (more x p) (more y q) = more (x, y) (all-pair_up p q)

-- and what holds of every two
pub pairwise-pair_up : {R T : ℕ → ℕ → Type 0} {a b : List ℕ} → Pairwise R a → Pairwise T b → Pairwise (λ (m n : Pair). R m.0 n.0 × T m.1 n.1) (pair_up a b)
unfolding pair_up
pairwise-pair_up end q = end
pairwise-pair_up (link x p) end = end
pairwise-pair_up (link x p) (link y q) = link (all-pair_up x y) (pairwise-pair_up p q)
