-- Laws of `column` and `columns`: numbers stored behind others, one number more, and both columns of all pairs. Assumes nothing.
use mathlib.Core.Path.{◌≡◌, refl, ap, sym, ◌∙◌}
use mathlib.Core.Logic.{◌≢◌}
use mathlib.Core.List.{List, [], ◌∷◌, ◌++◌}
use Prim.Native.Nat.{ℕ, zero, suc, ◌+◌, ◌*◌, ◌≤◌, ◌<◌}
use native.Mathlib.Omega.{arith}
use native.Mathlib.Decide.{ℕ_discrete}
use lib.ListN.{length, set}
use lib.Seq.{sets, set_comm}
use Rattle.counting.specs.Lists.{Pair, tabulate, join, pair_up, flat, column}
use Rattle.counting.proofs.Columns.{column-none, column-more, column-append, column-long, columns-flat}
use Rattle.counting.proofs.Lists.{join_more}
use Rattle.counting.proofs.Stores.{sets-flat-none, sets-flat-append}
use Rattle.shares.specs.parts.Columns.{columns}

-- a store before the column's first number may come first
column-set : (side : ℕ) (l : List ℕ) (k : ℕ) (xs : List ℕ) (j y : ℕ) → j < 2 * k → set (column side l k xs) j y ≡ column side (set l j y) k xs
unfolding column
column-set side l k [] j y h = refl
column-set side l k (x ∷ xs) j y h =
    column-set side (set l (2 * k + side) x) (suc k) xs j y (omega arith)
    ∙ ap (λ (m : List ℕ). column side m (suc k) xs) (set_comm l (2 * k + side) j x y (λ e. omega arith))

-- of none
pub columns-zero : (side : ℕ) (starts : ℕ → ℕ) (numbers : ℕ → List ℕ) (l : List ℕ) → columns side 0 starts numbers l ≡ l
unfolding columns
columns-zero side starts numbers l = refl

-- those of one more
pub columns-suc : (side n : ℕ) (starts : ℕ → ℕ) (numbers : ℕ → List ℕ) (l : List ℕ) → columns side (suc n) starts numbers l ≡ column side (columns side n starts numbers l) (starts n) (numbers n)
unfolding columns
columns-suc side n starts numbers l = refl

-- the same numbers
pub columns_cong : (side n : ℕ) (starts : ℕ → ℕ) (a b : ℕ → List ℕ) (l : List ℕ) → ((p : ℕ) → p < n → a p ≡ b p) → columns side n starts a l ≡ columns side n starts b l
unfolding columns
columns_cong side zero starts a b l e = refl
columns_cong side (suc n) starts a b l e = rw (e n (omega arith), columns_cong side n starts a b l (λ p h. e p (omega arith)))

-- no numbers
pub columns-none : (side n : ℕ) (starts : ℕ → ℕ) (a : ℕ → List ℕ) (l : List ℕ) → ((p : ℕ) → p < n → a p ≡ []) → columns side n starts a l ≡ l
unfolding columns
columns-none side zero starts a l e = refl
columns-none side (suc n) starts a l e = rw (e n (omega arith)) (column-none side _ (starts n) ∙ columns-none side n starts a l (λ p h. e p (omega arith)))

-- the list keeps its length
pub columns-long : (side n : ℕ) (starts : ℕ → ℕ) (a : ℕ → List ℕ) (l : List ℕ) → length (columns side n starts a l) ≡ length l
unfolding columns
columns-long side zero starts a l = refl
columns-long side (suc n) starts a l = column-long side (columns side n starts a l) (starts n) (a n) ∙ columns-long side n starts a l

-- a column of one number
column-one : (side : ℕ) (l : List ℕ) (k x : ℕ) → column side l k (x ∷ []) ≡ set l (2 * k + side) x
column-one side l k x = column-more side l k x [] ∙ column-none side (set l (2 * k + side) x) (suc k)

-- p has one number more: it stands behind the others of p, before those of every later one
module _ (side : ℕ) (small : side ≤ 1) (starts : ℕ → ℕ) (a b : ℕ → List ℕ) (p x : ℕ) (own : b p ≡ a p ++ x ∷ []) (other : (q : ℕ) → q ≢ p → b q ≡ a q)
    (before : (q : ℕ) → p < q → starts p + length (a p) < starts q) (l : List ℕ) where
  pub columns-one : (n : ℕ) → p < n → columns side n starts b l ≡ set (columns side n starts a l) (2 * (starts p + length (a p)) + side) x
  unfolding columns
  columns-one zero h = absurd (omega arith)
  columns-one (suc n) h = elim (ℕ_discrete n p) [
    | yes e ↦
        let same : columns side p starts b l ≡ columns side p starts a l = columns_cong side p starts b a l (λ q m. other q (λ i. omega arith)) in
        rw (e, same, own) (column-append side (columns side p starts a l) (starts p) (a p) (x ∷ []) ∙ column-one side _ (starts p + length (a p)) x)
    | no d ↦ rw (other n d, columns-one n (omega arith)) (sym (column-set side (columns side n starts a l) (starts n) (a n) (2 * (starts p + length (a p)) + side) x (omega (arith, before n (omega arith)))))
  ]

-- numbers of one column may be stored before those of the other that stand behind them
column-behind : (l : List ℕ) (k : ℕ) (xs : List ℕ) (s : ℕ) (ys : List ℕ) → s + length ys ≤ k → column 1 (column 0 l k xs) s ys ≡ column 0 (column 1 l s ys) k xs
unfolding column
column-behind l k xs s [] h = refl
column-behind l k xs s (y ∷ ys) h = rw (column-set 0 l k xs (2 * s + 1) y (omega arith)) (column-behind (set l (2 * s + 1) y) k xs (suc s) ys (omega arith))

-- those of all
columns-behind : (n : ℕ) (starts : ℕ → ℕ) (a : ℕ → List ℕ) (l : List ℕ) (k : ℕ) (xs : List ℕ) → ((p : ℕ) → p < n → starts p + length (a p) ≤ k)
    → columns 1 n starts a (column 0 l k xs) ≡ column 0 (columns 1 n starts a l) k xs
unfolding columns
columns-behind zero starts a l k xs h = refl
columns-behind (suc n) starts a l k xs h =
    rw (columns-behind n starts a l k xs (λ p m. h p (omega arith))) (column-behind (columns 1 n starts a l) k xs (starts n) (a n) (h n (omega arith)))

-- both columns of all pairs, which stand one behind another: the pairs
module _ (starts : ℕ → ℕ) (xs ys : ℕ → List ℕ) (pairs : ℕ → List Pair) (are : (p : ℕ) → pair_up (xs p) (ys p) ≡ pairs p) (even : (p : ℕ) → length (xs p) ≡ length (ys p))
    (rise : (p q : ℕ) → p < q → starts p + length (ys p) ≤ starts q) (starts-are : (p : ℕ) → starts p ≡ length (join (tabulate p pairs))) (l : List ℕ) where
  pub columns-pairs : (n : ℕ) → columns 1 n starts ys (columns 0 n starts xs l) ≡ sets l 0 (flat (join (tabulate n pairs)))
  unfolding columns
  columns-pairs zero = sym (unfold tabulate join in sets-flat-none l 0)
  columns-pairs (suc n) =
      rw (columns-behind n starts ys (columns 0 n starts xs l) (starts n) (xs n) (λ p m. rise p n m))
      (columns-flat (columns 1 n starts ys (columns 0 n starts xs l)) (starts n) (xs n) (ys n) (even n)
      ∙ rw (columns-pairs n, starts-are n, are n, join_more n pairs) (sym (sets-flat-append l (join (tabulate n pairs)) (pairs n))))
