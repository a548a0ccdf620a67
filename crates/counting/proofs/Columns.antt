-- Laws of `column`: the first or the second numbers of pairs laid flat, stored by themselves. Assumes nothing.
use mathlib.Core.Path.{◌≡◌, refl, ap, ◌∙◌}
use mathlib.Core.List.{List, [], ◌∷◌, ◌++◌}
use Prim.Native.Nat.{ℕ, suc, ◌+◌, ◌*◌, ◌<◌}
use native.Mathlib.Omega.{arith}
use native.Mathlib.Nat.{add-zero, add-suc, suc-add}
use lib.ListN.{length, set, length-set}
use lib.Seq.{sets, set-set, set_comm}
use Rattle.counting.specs.Lists.{flat, pair_up, column}

-- no number stored
pub column-none : (side : ℕ) (l : List ℕ) (k : ℕ) → column side l k [] ≡ l
unfolding column
column-none side l k = refl

-- one number stored, and the others behind it
pub column-more : (side : ℕ) (l : List ℕ) (k x : ℕ) (xs : List ℕ) → column side l k (x ∷ xs) ≡ column side (set l (2 * k + side) x) (suc k) xs
unfolding column
column-more side l k x xs = refl

-- what stood in the place of the first does not matter
pub column-over : (side : ℕ) (l : List ℕ) (k v x : ℕ) (xs : List ℕ) → column side (set l (2 * k + side) v) k (x ∷ xs) ≡ column side l k (x ∷ xs)
unfolding column
column-over side l k v x xs = rw (set-set l (2 * k + side) v x)

-- numbers stored, and others behind them
pub column-append : (side : ℕ) (l : List ℕ) (k : ℕ) (a b : List ℕ) → column side l k (a ++ b) ≡ column side (column side l k a) (k + length a) b
unfolding column
column-append side l k [] b = rw add-zero
column-append side l k (x ∷ a) b = rw (add-suc k (length a), ← suc-add k (length a)) (column-append side (set l (2 * k + side) x) (suc k) a b)

-- the list keeps its length
pub column-long : (side : ℕ) (l : List ℕ) (k : ℕ) (xs : List ℕ) → length (column side l k xs) ≡ length l
unfolding column
column-long side l k [] = refl
column-long side l k (x ∷ xs) = column-long side (set l (2 * k + side) x) (suc k) xs ∙ length-set l (2 * k + side) x

-- a store before the column's first number may come first
column-set : (side : ℕ) (l : List ℕ) (k : ℕ) (xs : List ℕ) (j y : ℕ) → j < 2 * k → set (column side l k xs) j y ≡ column side (set l j y) k xs
unfolding column
column-set side l k [] j y h = refl
column-set side l k (x ∷ xs) j y h =
    column-set side (set l (2 * k + side) x) (suc k) xs j y (omega arith)
    ∙ ap (λ (m : List ℕ). column side m (suc k) xs) (set_comm l (2 * k + side) j x y (λ e. omega arith))

-- both columns of as many pairs: the pairs
pub columns-flat : (l : List ℕ) (k : ℕ) (xs ys : List ℕ) → length xs ≡ length ys → column 1 (column 0 l k xs) k ys ≡ sets l (2 * k) (flat (pair_up xs ys))
unfolding column pair_up flat
columns-flat l k [] [] e = refl
columns-flat l k [] (y ∷ ys) e = absurd (omega arith)
columns-flat l k (x ∷ xs) [] e = absurd (omega arith)
columns-flat l k (x ∷ xs) (y ∷ ys) e =
    let z : 2 * k + 0 ≡ 2 * k = omega arith in
    let o : 2 * k + 1 ≡ suc (2 * k) = omega arith in
    let t : 2 * suc k ≡ suc (suc (2 * k)) = omega arith in
    ap (λ (m : List ℕ). column 1 m (suc k) ys) (column-set 0 (set l (2 * k + 0) x) (suc k) xs (2 * k + 1) y (omega arith))
    ∙ columns-flat (set (set l (2 * k + 0) x) (2 * k + 1) y) (suc k) xs ys (omega arith)
    ∙ rw (z, o, t)
