-- A set filled word by word: the word's numbers, every other as it was, and the last word kept right. Assumes nothing.
use mathlib.Core.Path.{◌≡◌, ap, ◌∙◌}
use mathlib.Core.Bool.{true, false, not}
use mathlib.Core.List.{List}
use Prim.Native.Nat.{ℕ, ◌/◌, ◌%◌, ◌^◌, ◌<◌}
use native.Mathlib.Omega.{arith}
use native.Mathlib.Decide.{ℕ_discrete}
use lib.Dec.{eqb}
use lib.ListN.{length, get_or, set, length-set}
use lib.Seq.{get_or-set_same, get_or-set_other}
use borrow.Author.Tests.{eq-eqb, ne_eqb}
use Rattle.counting.proofs.Tests.{by-test}
use Rattle.bits.specs.parts.Bits.{bit_on, turned_on, is_on, filled, Topped}
use Rattle.bits.proofs.Words.{turned-on-here, turned-on-other, turned-on_lt}

-- as code fills a word: with no bit on, and with some
module _ (words : List ℕ) (w word : ℕ) where
  pub fill_none : word ≡ 0 → set words w word ≡ filled words w word
  unfolding filled
  fill_none z = rw (eq-eqb word 0 z)

  pub fill-some : (top : ℕ) → (word ≡ 0 → ⊥) → top ≡ turned_on (get_or (set words w word) 64 0) w → set (set words w word) 64 top ≡ filled words w word
  unfolding filled
  fill-some top z e = rw (ne_eqb word 0 z, e)

module _ {words : List ℕ} (t : Topped words) (w word : ℕ) (h : w < 64) where
  -- as many words as before
  filled-long : length (filled words w word) ≡ 66
  unfolding filled
  filled-long = by-test (eqb word 0)
      (λ z. rw z (length-set words w word ∙ t.long))
      (λ z. rw z (length-set (set words w word) 64 _ ∙ length-set words w word ∙ t.long))

  -- its words: the one filled, and any other but the last
  filled-own : get_or (filled words w word) w 0 ≡ word
  unfolding filled
  filled-own = by-test (eqb word 0)
      (λ z. rw z (get_or-set_same words w word 0 (omega (arith, t.long))))
      (λ z. rw z (get_or-set_other (set words w word) 64 w _ 0 (λ q. omega arith) ∙ get_or-set_same words w word 0 (omega (arith, t.long))))

  pub filled_else : (v : ℕ) → (v ≡ 64 → ⊥) → (v ≡ w → ⊥) → get_or (filled words w word) v 0 ≡ get_or words v 0
  unfolding filled
  filled_else v p q = by-test (eqb word 0)
      (λ z. rw z (get_or-set_other words w v word 0 q))
      (λ z. rw z (get_or-set_other (set words w word) 64 v _ 0 p ∙ get_or-set_other words w v word 0 q))

  -- the last, where the word has no bit on and where it has
  last_none : eqb word 0 ≡ true → get_or (filled words w word) 64 0 ≡ get_or words 64 0
  unfolding filled
  last_none z = rw z (get_or-set_other words w 64 word 0 (λ q. omega arith))

  last_some : eqb word 0 ≡ false → get_or (filled words w word) 64 0 ≡ turned_on (get_or words 64 0) w
  unfolding filled
  last_some z = rw z
      (get_or-set_same (set words w word) 64 _ 0 (omega (arith, length-set words w word, t.long))
      ∙ ap (λ (x : ℕ). turned_on x w) (get_or-set_other words w 64 word 0 (λ q. omega arith)))

  -- a number of the word is in the set where its bit is on
  pub filled-here : (k : ℕ) → k / 64 ≡ w → is_on (filled words w word) k ≡ bit_on word (k % 64)
  unfolding is_on
  filled-here k e = ap (λ (v : ℕ). bit_on (get_or (filled words w word) v 0) (k % 64)) e ∙ ap (λ (x : ℕ). bit_on x (k % 64)) filled-own

  -- every other as it was
  pub filled-other : (k : ℕ) → k < 4096 → (k / 64 ≡ w → ⊥) → is_on (filled words w word) k ≡ is_on words k
  unfolding is_on
  filled-other k l d = ap (λ (x : ℕ). bit_on x (k % 64)) (filled_else (k / 64) (λ r. omega arith) d)

  -- where the word had none, the last word is right
  pub topped-filled : get_or words w 0 ≡ 0 → word < 2 ^ 64 → Topped (filled words w word)
  topped-filled e m = record {
    long = filled-long;
    small = λ v. elim (ℕ_discrete v 64) [
      | yes q ↦ rw q (by-test (eqb word 0)
          (λ z. rw (last_none z) (t.small 64))
          (λ z. rw (last_some z) (turned-on_lt 64 (get_or words 64 0) w (t.small 64) h)))
      | no p ↦ elim (ℕ_discrete v w) [
        | yes q ↦ rw (q, filled-own) m
        | no q ↦ rw (filled_else v p q) (t.small v)
      ]
    ];
    tops = λ v l. elim (ℕ_discrete v w) [
      | yes q ↦ rw (q, filled-own) (by-test (eqb word 0)
          (λ z. rw (last_none z, z) (t.tops w h ∙ ap (λ (x : ℕ). not (eqb x 0)) e))
          (λ z. rw (last_some z, z) (turned-on-here (get_or words 64 0) w)))
      | no q ↦ rw (filled_else v (λ r. omega arith) q) (by-test (eqb word 0)
          (λ z. rw (last_none z) (t.tops v l))
          (λ z. rw (last_some z) (turned-on-other (get_or words 64 0) w v q ∙ t.tops v l)))
    ];
  }
