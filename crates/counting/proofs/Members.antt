-- Laws of `among`: members of lists, and a selection without its first members. Assumes nothing.
use mathlib.Core.Path.{◌≡◌, refl, sym, ◌∙◌}
use mathlib.Core.Bool.{Bool, true, false, not}
use mathlib.Core.Logic.{◌≢◌}
use mathlib.Core.List.{List, [], ◌∷◌, ◌++◌, append-nil}
use Prim.Native.Nat.{ℕ, zero, suc, ◌≤◌, ◌<◌}
use native.Mathlib.Omega.{arith}
use native.Mathlib.Decide.{ℕ_discrete, dec_le}
use lib.Dec.{eqb}
use lib.ListN.{length, take, drop, length-append}
use lib.Seq.{take-append-le, drop-append-le, take_all, drop-nil}
use borrow.Author.Tests.{eq-eqb, ne_eqb}
use Rattle.counting.specs.Tests.{◌and◌, ◌or◌, pick}
use Rattle.counting.specs.Count.{select}
use Rattle.counting.specs.Lists.{among}
use Rattle.counting.proofs.Tests.{by-test, or_l, or_r, or-none, and-off_l, and-off_r, and_true}
use Rattle.counting.specs.Every.{All}
use Rattle.counting.proofs.Every.{all_map, all_take}
use Rattle.counting.specs.Every.All.{more, none}
use Rattle.counting.proofs.Select.{select-none, all-select}

-- x is none of the list
pub among_none : {x : ℕ} {l : List ℕ} → All (λ y. x ≢ y) l → among x l ≡ false
unfolding among
among_none none = refl
among_none (more f r) = or-none (ne_eqb _ _ f) (among_none r)

-- a member of two lists, one after the other
pub among-append : (x : ℕ) (a b : List ℕ) → among x (a ++ b) ≡ (among x a or among x b)
unfolding among ◌or◌
among-append x [] b = refl
among-append x (y ∷ a) b = by-test (eqb x y) (λ e. rw e) (λ e. rw e (among-append x a b))

-- the last of a list is a member
pub among-last : (x : ℕ) (a : List ℕ) → among x (a ++ x ∷ []) ≡ true
unfolding among
among-last x a = among-append x a (x ∷ []) ∙ or_r (among x a) (or_l (among x []) (eq-eqb x x refl))

-- what passes and is below n is among the selected
pub among-select : (n : ℕ) (f : ℕ → Bool) (k : ℕ) → k < n → f k ≡ true → among k (select n f) ≡ true
unfolding select
among-select zero f k l h = absurd (omega arith)
among-select (suc n) f k l h = elim (ℕ_discrete k n) [
  | yes e ↦ let h' : f n ≡ true = rw (← e) h in rw (h', e) (among-last n (select n f))
  | no e ↦ among-append k (select n f) (pick (f n) (n ∷ []) []) ∙ or_l _ (among-select n f k (omega arith) h)
]

-- f without the members of a list
unfoldable pub besides : List ℕ → (ℕ → Bool) → ℕ → Bool
besides l f k = f k and not (among k l)

module _ (l : List ℕ) (f : ℕ → Bool) (k : ℕ) where
  pub besides_in : among k l ≡ true → besides l f k ≡ false
  unfolding besides
  besides_in h = and-off_r (f k) (rw h)

  pub besides-out : among k l ≡ false → besides l f k ≡ f k
  unfolding besides
  besides-out h = and_true (f k) (rw h)

  pub besides-off : f k ≡ false → besides l f k ≡ false
  unfolding besides
  besides-off h = and-off_l _ h

pub besides_cong : (l : List ℕ) (f g : ℕ → Bool) (k : ℕ) → f k ≡ g k → besides l f k ≡ besides l g k
unfolding besides
besides_cong l f g k e = rw e

-- without one, and without others: without all of them
pub besides-more : (x : ℕ) (l : List ℕ) (f : ℕ → Bool) (k : ℕ) → besides l (besides (x ∷ []) f) k ≡ besides (x ∷ l) f k
unfolding besides among ◌or◌ ◌and◌
besides-more x l f k = by-test (f k) (λ e. rw e (by-test (eqb k x) (λ q. rw q) (λ q. rw q))) (λ e. rw e)

-- behind all its members a list is empty
drop_past : (k : ℕ) (l : List ℕ) → length l ≤ k → drop k l ≡ []
drop_past k [] h = drop-nil k
drop_past zero (x ∷ l) h = absurd (omega arith)
drop_past (suc k) (x ∷ l) h = drop_past k l (omega arith)

-- the selected without the first k of them
pub select-drop : (k n : ℕ) (f : ℕ → Bool) → select n (besides (take k (select n f)) f) ≡ drop k (select n f)
unfolding select
select-drop k zero f = sym (drop-nil k)
select-drop k (suc n) f = by-test (f n)
    (λ e. elim (dec_le k (length (select n f))) [
      | yes l ↦
          let out : among n (take k (select n f)) ≡ false = among_none (all_map (λ y h q. omega (arith, h.0)) (all_take k (all-select n f))) in
          rw (e, take-append-le k (select n f) (n ∷ []) l, drop-append-le k (select n f) (n ∷ []) l, besides-out (take k (select n f)) f n out, e, select-drop k n f)
      | no l ↦
          let all : length (select n f ++ n ∷ []) ≤ k = rw length-append (omega arith) in
          rw (e, take_all k (select n f ++ n ∷ []) all, besides_in (select n f ++ n ∷ []) f n (among-last n (select n f)))
          (rw (select-none n (besides (select n f ++ n ∷ []) f) (gone n)) (sym (drop_past k (select n f ++ n ∷ []) all)))
    ])
    (λ e. rw (e, append-nil, besides-off (take k (select n f)) f n e, append-nil) (select-drop k n f))
  where
    gone : (n j : ℕ) → j < n → besides (select n f ++ n ∷ []) f j ≡ false
    gone n j l = by-test (f j)
        (λ h. besides_in (select n f ++ n ∷ []) f j (among-append j (select n f) (n ∷ []) ∙ or_l _ (among-select n f j l h)))
        (λ h. besides-off (select n f ++ n ∷ []) f j h)
