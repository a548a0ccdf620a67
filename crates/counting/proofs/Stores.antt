-- Laws of `flat` and `sets`: pairs laid flat, and a list stored in a list. Assumes nothing.
use mathlib.Core.Path.{◌≡◌, refl, ap, ◌∙◌}
use mathlib.Core.List.{List, [], ◌∷◌, ◌++◌, append_assoc}
use Prim.Native.Nat.{ℕ, suc, ◌+◌, ◌*◌, ◌≤◌, ◌<◌}
use native.Mathlib.Omega.{arith}
use native.Mathlib.Nat.{add-zero, add-suc, suc-add}
use native.Mathlib.Numerals.{add-one, add-two}
use lib.ListN.{length, take, drop, get_or, set}
use lib.Seq.{sets, sets-eq, get_or-set_other, take-suc, take-append-le, drop_at, take_at, length-take-le}
use Rattle.counting.specs.Lists.{Pair, flat}

-- two numbers for each pair
pub length-flat : (ms : List Pair) → length (flat ms) ≡ 2 * length ms
unfolding flat
length-flat [] = refl
length-flat (m ∷ ms) = omega (arith, length-flat ms)

-- pairs after pairs, laid flat
pub flat_append : (a b : List Pair) → flat (a ++ b) ≡ flat a ++ flat b
unfolding flat
flat_append [] b = refl
flat_append (m ∷ a) b = rw (flat_append a b)

module _ {A : Type 0} where
  -- a list stored, and another behind it
  pub sets-append : (l : List A) (i : ℕ) (a b : List A) → sets l i (a ++ b) ≡ sets (sets l i a) (i + length a) b
  sets-append l i [] b = rw add-zero
  sets-append l i (x ∷ a) b = rw (add-suc, ← suc-add i (length a)) (sets-append (set l i x) (suc i) a b)

-- no pair stored
pub sets-flat-none : (l : List ℕ) (k : ℕ) → sets l k (flat []) ≡ l
unfolding flat
sets-flat-none l k = refl

-- one pair stored, as code stores it: its two numbers, and the others behind it
pub sets-flat-more : (l : List ℕ) (k x y : ℕ) (ms : List Pair) → sets l k (flat ((x, y) ∷ ms)) ≡ sets (set (set l k x) (k + 1) y) (k + 2) (flat ms)
unfolding flat
sets-flat-more l k x y ms = rw (add-one k, add-two k)

-- pairs stored from the front, and others behind them
pub sets-flat-append : (l : List ℕ) (a b : List Pair) → sets l 0 (flat (a ++ b)) ≡ sets (sets l 0 (flat a)) (2 * length a) (flat b)
sets-flat-append l a b =
    let e : 0 + length (flat a) ≡ 2 * length a = omega (arith, length-flat a) in
    rw (flat_append a b, sets-append l 0 (flat a) (flat b), e)

-- a store leaves what lies before it and behind it
pub sets_else : (vs l : List ℕ) (i k : ℕ) → (i ≤ k → i + length vs ≤ k) → get_or (sets l i vs) k 0 ≡ get_or l k 0
sets_else [] l i k h = refl
sets_else (v ∷ vs) l i k h = sets_else vs (set l i v) (suc i) k (λ m. omega (arith, h (omega arith))) ∙ get_or-set_other l i k v 0 (λ e. omega (arith, h (omega arith)))

-- a list stored that grows by one at its end
pub sets-take : (s l : List ℕ) (i j : ℕ) → j < length s → sets l i (take (j + 1) s) ≡ set (sets l i (take j s)) (i + j) (get_or s j 0)
sets-take s l i j h =
    rw (add-one, take-suc s j 0) (sets-append l i (take j s) (get_or s j 0 ∷ []) ∙ rw (length-take-le j s (omega arith)))

-- what was stored is read again
pub run-same : (xs l : List ℕ) (i n : ℕ) → i + length xs ≤ length l → n ≤ length xs → take n (drop i (sets l i xs)) ≡ take n xs
run-same xs l i n fits h =
    rw (sets-eq xs l i fits, append_assoc, drop_at (take i l) (xs ++ drop (i + length xs) l) i (length-take-le i l (omega arith)))
    (take-append-le n xs (drop (i + length xs) l) h)

-- numbers stored at the front
pub take-front : (l vs : List ℕ) (n : ℕ) → length vs ≡ n → n ≤ length l → take n (sets l 0 vs) ≡ vs
take-front l vs n e h =
    let r : 0 + length vs ≤ length l = omega arith in
    ap (take n) (sets-eq vs l 0 r) ∙ take_at vs (drop (0 + length vs) l) n e
