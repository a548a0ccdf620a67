-- Laws of numbers in groups of seven bits, as the writer counts them and puts them into a buffer. Assumes nothing.
use mathlib.Core.Path.{◌≡◌, refl, sym, ap, ◌∙◌}
use mathlib.Core.List.{List, [], ◌∷◌, ◌++◌, append_assoc, append-nil}
use Prim.Native.Nat.{ℕ, zero, suc, ◌+◌, ◌*◌, ◌%◌, ◌/◌, ◌≤◌, ◌<◌}
use native.Mathlib.Omega.{arith}
use native.Mathlib.Decide.{dec_le}
use native.Mathlib.Numerals.{add-one}
use lib.Dec.{leb}
use lib.ListN.{length, get_or, set, take, drop, length-set, length-append, take-append-drop}
use lib.Seq.{sets, set-set, take-suc, take_all}
use borrow.Author.Tests.{lt-ltb, le-ltb, le-leb, lt-leb}
use Rattle.counting.specs.Tests.{bit}
use Rattle.counting.specs.Lists.{join, each}
use Rattle.counting.proofs.Tests.{bit_le}
use Rattle.counting.proofs.Lists.{each_append, join-append}
use Rattle.jobwriter.specs.Writing.{groups_of, numeral_of, numerals_of}
use Rattle.jobwriter.specs.parts.Puts.{Short, Put, Roomy}

-- a number below 128 is one group
pub one_group : (x : ℕ) → x < 128 → numeral_of x ≡ x ∷ []
unfolding numeral_of groups_of
one_group x h = rw (lt-ltb x 128 h)

-- a number below 16,384 is two
two-groups : (x : ℕ) → 128 ≤ x → x < 16384 → numeral_of x ≡ (128 + x % 128) ∷ x / 128 ∷ []
unfolding numeral_of groups_of
two-groups x l h = rw (le-ltb x 128 l, lt-ltb (x / 128) 128 (omega arith))

-- so it is a byte, and a second one from 128 on
pub numeral-length : (x : ℕ) → x < 16384 → length (numeral_of x) ≡ 1 + bit (leb 128 x)
numeral-length x h = elim (dec_le 128 x) [
  | yes l ↦ rw (two-groups x l h, le-leb 128 x l)
  | no l ↦ rw (one_group x (omega arith), lt-leb 128 x (omega arith))
]

-- what is put over
over : (l rest : List ℕ) (i j y : ℕ) → j ≡ i → 0 < length rest → sets (set l i y) j rest ≡ sets l i rest
over l [] i j y e h = absurd (omega arith)
over l (z ∷ zs) i j y e h = rw (e, set-set l i y z)

-- a number put as the code does: two bytes, and the position behind those that it has
pub numeral-put : (x at m : ℕ) (l : List ℕ) → x < 16384 → m ≡ bit (leb 128 x) → Put (numeral_of x) l at (set (set l at (x % 128 + 128 * m)) (at + 1) (x / 128)) (at + 1 + m)
numeral-put x at m l h e = elim (dec_le 128 x) [
  | yes k ↦
      let z : m ≡ 1 = e ∙ rw (le-leb 128 x k) in
      let v : x % 128 + 128 * m ≡ 128 + x % 128 = omega arith in
      record {
        stored = λ rest s. rw (two-groups x k h, v, z, add-one, add-one);
        behind = rw (two-groups x k h, z) (omega arith);
        kept = rw (length-set, length-set);
      }
  | no k ↦
      let z : m ≡ 0 = e ∙ rw (lt-leb 128 x (omega arith)) in
      let v : x % 128 + 128 * m ≡ x = omega arith in
      record {
        stored = λ rest s. rw (one_group x (omega arith), v, add-one at) (over (set l at x) rest (suc at) (suc at + m) (x / 128) (omega arith) s);
        behind = rw (one_group x (omega arith), z) (omega arith);
        kept = rw (length-set, length-set);
      }
]

module _ {a l m : List ℕ} {i j : ℕ} where
  -- bytes, and then others behind them
  pub put_then : {b n : List ℕ} {k : ℕ} → Put a l i m j → Put b m j n k → Put (a ++ b) l i n k
  put_then {b} {n} {k} v w = record {
    stored = λ rest s. w.stored rest s ∙ v.stored (b ++ rest) (omega (arith, length-append b rest)) ∙ rw append_assoc;
    behind = omega (arith, length-append a b, v.behind, w.behind);
    kept = w.kept ∙ v.kept;
  }

-- nothing put
pub put-none : (l : List ℕ) (i : ℕ) → Put [] l i l i
put-none l i = record { stored = λ rest s. refl; behind = omega arith; kept = refl }

-- numbers behind numbers
pub numerals-append : (a b : List ℕ) → numerals_of (a ++ b) ≡ numerals_of a ++ numerals_of b
numerals-append a b = ap join (each_append numeral_of a b) ∙ join-append (each numeral_of a) (each numeral_of b)

-- numbers, and one behind them
numerals-more : (xs : List ℕ) (i : ℕ) → i < length xs → numerals_of (take (i + 1) xs) ≡ numerals_of (take i xs) ++ numeral_of (get_or xs i 0)
unfolding join each
numerals-more xs i h =
    let e : take (i + 1) xs ≡ take i xs ++ get_or xs i 0 ∷ [] = rw add-one (take-suc xs i 0 h) in
    ap numerals_of e ∙ numerals-append (take i xs) (get_or xs i 0 ∷ []) ∙ rw append-nil

module _ (xs : List ℕ) (i : ℕ) (h : i < length xs) where
  -- the first i numbers are shorter than all
  pub numerals-less : Short xs → length (numerals_of (take i xs)) + 1 ≤ length (numerals_of xs)
  numerals-less short =
      let e : length (numerals_of xs) ≡ length (numerals_of (take (i + 1) xs)) + length (numerals_of (drop (i + 1) xs)) =
      ap (λ (l : List ℕ). length (numerals_of l)) (sym (take-append-drop (i + 1) xs))
      ∙ ap length (numerals-append (take (i + 1) xs) (drop (i + 1) xs))
      ∙ length-append (numerals_of (take (i + 1) xs)) (numerals_of (drop (i + 1) xs)) in
      omega (arith, e, numeral-length (get_or xs i 0) (short i h), ap length (numerals-more xs i h), length-append (numerals_of (take i xs)) (numeral_of (get_or xs i 0)))

  -- and there is room for one more, and a byte behind it
  pub put-room : {l m : List ℕ} {at j : ℕ} → Short xs → Roomy xs at l → Put (numerals_of (take i xs)) l at m j → j + 1 < length m
  put-room short room v = omega (arith, numerals-less short, v.behind, v.kept)

  -- number i
  module _ (x : ℕ) (is : x ≡ get_or xs i 0) where
    -- is put behind those before it
    pub put-more : {l m n : List ℕ} {at j k : ℕ} → Put (numerals_of (take i xs)) l at m j → Put (numeral_of x) m j n k → Put (numerals_of (take (i + 1) xs)) l at n k
    put-more v w = rw (numerals-more xs i h, ← is) (put_then v w)

    -- is counted with them
    pub size-more : (more m : ℕ) → Short xs → i + more ≡ length (numerals_of (take i xs)) → m ≡ bit (leb 128 x) → i + 1 + (more + m) ≡ length (numerals_of (take (i + 1) xs))
    size-more more m short e z =
        omega (
          arith,
          z,
          numeral-length x (omega (arith, is, short i h)),
          ap (λ (y : ℕ). length (numeral_of y)) is,
          ap length (numerals-more xs i h),
          length-append (numerals_of (take i xs)) (numeral_of (get_or xs i 0)),
        )

-- numbers are at most two bytes each
numerals-few : (xs : List ℕ) → Short xs → (i : ℕ) → i ≤ length xs → length (numerals_of (take i xs)) ≤ 2 * i
unfolding join each
numerals-few xs short zero h = omega arith
numerals-few xs short (suc i) h =
    let e = rw add-one at (numerals-more xs i (omega arith)) in
    let b = bit_le (bit (leb 128 (get_or xs i 0))) (leb 128 (get_or xs i 0)) refl in
    omega (
      arith,
      b,
      numerals-few xs short i (omega arith),
      ap length e,
      numeral-length (get_or xs i 0) (short i (omega arith)),
      length-append (numerals_of (take i xs)) (numeral_of (get_or xs i 0)),
    )

module _ (xs : List ℕ) where
  -- all of them too
  pub all-few : Short xs → length (numerals_of xs) ≤ 2 * length xs
  all-few short = rw (take_all (length xs) xs (omega arith)) at (numerals-few xs short (length xs) (omega arith))

  -- no number yet
  pub none-put : (l : List ℕ) (at : ℕ) → Put (numerals_of (take 0 xs)) l at l at
  unfolding join each
  none-put l at = put-none l at

  pub none-size : 0 ≡ length (numerals_of (take 0 xs))
  unfolding join each
  none-size = refl

  -- all numbers
  module _ (i : ℕ) (e : length xs ≤ i) where
    pub all-put : {l m : List ℕ} {at j : ℕ} → Put (numerals_of (take i xs)) l at m j → Put (numerals_of xs) l at m j
    all-put v = rw (take_all i xs e) at v

    pub all-size : (n : ℕ) → n ≡ length (numerals_of (take i xs)) → n ≡ length (numerals_of xs)
    all-size n h = h ∙ ap (λ (l : List ℕ). length (numerals_of l)) (take_all i xs e)
