-- Laws of the moves that stand in a list of numbers. Assumes nothing.
use mathlib.Core.Path.{◌≡◌, refl, ap, sym, ◌∙◌}
use mathlib.Core.List.{List, [], ◌∷◌, ◌++◌, append_assoc}
use Prim.Native.Nat.{ℕ, zero, suc, ◌+◌, ◌*◌, ◌-◌, ◌≤◌, ◌<◌}
use native.Mathlib.Nat.{zero-add, suc-add}
use native.Mathlib.Numerals.{add-one, add-two}
use native.Mathlib.Omega.{arith}
use lib.ListN.{length, take, drop, get_or, take-append-drop}
use lib.Seq.{sets, slice, slice-cons, length-slice, take-nil, take_all, take-append_seam, drop-append_seam}
use Rattle.counting.specs.Lists.{Pair, flat}
use Rattle.counting.specs.Every.All.{more}
use Rattle.carrying.specs.parts.Carrying.{unflat, pairs_in, Slots, AllSlots}
use Rattle.counting.proofs.Stores.{length-flat, flat_append, run-same}

-- fewer than two numbers are no pair
pub unflat-few : (l : List ℕ) → length l < 2 → unflat l ≡ []
unfolding unflat
unflat-few [] k = refl
unflat-few (x ∷ []) k = refl
unflat-few (x ∷ (y ∷ l)) k = absurd (omega arith)

module _ (list : List ℕ) (i high : ℕ) (fits : high ≤ length list) where
  -- the first pair, and those after it
  pub pairs-more : i + 2 ≤ high → pairs_in list i high ≡ (get_or list i 0, get_or list (i + 1) 0) ∷ pairs_in list (i + 2) high
  unfolding pairs_in unflat
  pairs-more h = rw (add-two, add-one, slice-cons i high list 0 (omega arith) fits, slice-cons (suc i) high list 0 (omega arith) fits)

  -- no pair is left
  pub pairs-none : high < i + 2 → pairs_in list i high ≡ []
  unfolding pairs_in
  pairs-none h = unflat-few (slice i high list) (omega (arith, length-slice i high list fits))

-- two numbers and those behind them: the first pair, and the pairs behind it
pub unflat-more : (left pair left' : List ℕ) → left ≡ pair ++ left' → length pair ≡ 2 → unflat left ≡ (get_or pair 0 0, get_or pair 1 0) ∷ unflat left'
unfolding unflat
unflat-more left (f ∷ (t ∷ [])) left' e n = rw e
unflat-more left [] left' e n = absurd (omega arith)
unflat-more left (f ∷ []) left' e n = absurd (omega arith)
unflat-more left (f ∷ (t ∷ (x ∷ l))) left' e n = absurd (omega arith)

-- where the ends of some moves are slots, so are the first move's
pub slots-first : {n : ℕ} {m : Pair} {ms : List Pair} → AllSlots n (m ∷ ms) → Slots n m
slots-first (more p r) = p

-- and those of the moves behind it
pub slots-rest : {n : ℕ} {m : Pair} {ms : List Pair} → AllSlots n (m ∷ ms) → AllSlots n ms
slots-rest (more p r) = r

-- the first pairs of a list of moves, from the first numbers of it
unflat-take : (k : ℕ) (ms : List Pair) → unflat (take (k + k) (flat ms)) ≡ take k ms
unfolding unflat flat
unflat-take zero ms = refl
unflat-take (suc k) [] = rw (take-nil {A = ℕ} (suc k + suc k))
unflat-take (suc k) (m ∷ ms) =
    let e : suc k + suc k ≡ suc (suc (k + k)) = omega arith in
    rw e (ap (λ (r : List Pair). m ∷ r) (unflat-take k ms))

-- a part that begins at m, from what lies behind m
slice-drop : (m n : ℕ) (l : List ℕ) → slice m (m + n) l ≡ take n (drop m l)
slice-drop zero n l = rw zero-add
slice-drop (suc m) n [] = rw (suc-add, take-nil {A = ℕ} n)
slice-drop (suc m) n (x ∷ l) = rw suc-add (slice-drop m n l)

-- as the code takes a part of a list, from one end to the other
pub pairs-part : (list : List ℕ) (low high : ℕ) → low ≤ high → unflat (take (high - low) (drop low list)) ≡ pairs_in list low high
unfolding pairs_in
pairs-part list low high l =
    let e : high ≡ low + (high - low) = omega arith in
    ap unflat (sym (ap (λ (h : ℕ). slice low h list) e ∙ slice-drop low (high - low) list))

-- where a list of moves was stored, its first k pairs are read
pub pairs_of : (list lent : List ℕ) (low high k : ℕ) (ms : List Pair) → list ≡ sets lent low (flat ms) → low + length (flat ms) ≤ length lent
    → high ≡ low + 2 * k → k ≤ length ms → pairs_in list low high ≡ take k ms
unfolding pairs_in
pairs_of list lent low high k ms e fits at h =
    let two : high ≡ low + (k + k) = omega arith in
    rw (e, two, slice-drop low (k + k) (sets lent low (flat ms)), run-same (flat ms) lent low (k + k) fits (omega (arith, length-flat ms))) (unflat-take k ms)

-- and all of them
pub pairs-all : (list lent : List ℕ) (low high : ℕ) (ms : List Pair) → list ≡ sets lent low (flat ms) → high ≡ low + length (flat ms) → high ≤ length lent
    → pairs_in list low high ≡ ms
pairs-all list lent low high ms e at fits =
    pairs_of list lent low high (length ms) ms e (omega arith) (omega (arith, length-flat ms)) (omega arith) ∙ take_all (length ms) ms (omega arith)

-- pairs as numbers, and back
unflat-flat : (ms : List Pair) → unflat (flat ms) ≡ ms
unfolding unflat flat
unflat-flat [] = refl
unflat-flat (m ∷ ms) = ap (λ (r : List Pair). m ∷ r) (unflat-flat ms)

-- where a list begins with moves, some of them are read from between those before them and those after them
module _ (list : List ℕ) (p q r : List Pair) (front : take (2 * length (p ++ q ++ r)) list ≡ flat (p ++ q ++ r)) where
  behind : List ℕ
  behind = flat r ++ drop (2 * length (p ++ q ++ r)) list

  split : list ≡ flat p ++ (flat q ++ behind)
  unfolding behind
  split =
      sym (take-append-drop (2 * length (p ++ q ++ r)) list)
      ∙ ap (λ (l : List ℕ). l ++ drop (2 * length (p ++ q ++ r)) list) (front ∙ flat_append (p ++ q) r ∙ ap (λ (l : List ℕ). l ++ flat r) (flat_append p q))
      ∙ append_assoc (flat p ++ flat q) (flat r) _
      ∙ append_assoc (flat p) (flat q) _

  pub pairs-between : (low high : ℕ) → low ≡ 2 * length p → high ≡ low + 2 * length q → pairs_in list low high ≡ q
  unfolding pairs_in
  pairs-between low high el eh =
      let a : low ≡ length (flat p) = omega (arith, length-flat p) in
      let b : high ≡ length (flat p) + length (flat q) = omega (arith, length-flat p, length-flat q) in
      rw (a, b, slice-drop (length (flat p)) (length (flat q)) list)
      (ap (λ (l : List ℕ). unflat (take (length (flat q)) (drop (length (flat p)) l))) split
      ∙ ap (λ (l : List ℕ). unflat (take (length (flat q)) l)) (drop-append_seam (flat p) (flat q ++ behind))
      ∙ ap unflat (take-append_seam (flat q) behind)
      ∙ unflat-flat q)
