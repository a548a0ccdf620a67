-- Laws of a set of numbers below 4,096: one marked, one cleared, every other as it was, and the last word kept right. Assumes nothing.
use mathlib.Core.Path.{◌≡◌, sym, ap, ◌∙◌}
use mathlib.Core.Bool.{true, false, not}
use mathlib.Core.List.{List}
use Prim.Native.Nat.{ℕ, ◌/◌, ◌%◌, ◌^◌, ◌<◌}
use native.Mathlib.Nat.{le_of_eq, lt_of_le_of_lt}
use native.Mathlib.Omega.{arith}
use native.Mathlib.Decide.{ℕ_discrete}
use lib.Dec.{eqb}
use lib.ListN.{length, get_or, set, replicate, length-set, length-replicate}
use lib.Pow.{pow_pos}
use lib.Seq.{get_or-set_same, get_or-set_other}
use borrow.Author.Tests.{eq-eqb, ne_eqb, eqb-false}
use Rattle.counting.proofs.Tests.{by-test}
use Rattle.counting.proofs.Lists.{zeros}
use Rattle.bits.specs.parts.Bits.{bit_on, turned_on, turned_off, is_on, included, cleared, Topped}
use Rattle.bits.proofs.Words.{bit-none, turned-on-here, turned-on-other, turned-off-here, turned-off-none, turned-off-other, turned-on_lt, turned-off_lt, not_none}

-- a number's word and bit: below 64 both, and no other number has the same two
word_lt : (g : ℕ) → g < 4096 → g / 64 < 64
word_lt g h = omega arith

bit_lt : (g : ℕ) → g % 64 < 64
bit_lt g = omega arith

same_number : (k g : ℕ) → k / 64 ≡ g / 64 → k % 64 ≡ g % 64 → k ≡ g
same_number k g e f = omega arith

-- the empty set has no number
pub is_none : (g : ℕ) → is_on (replicate 66 0) g ≡ false
unfolding is_on
is_none g = ap (λ (x : ℕ). bit_on x (g % 64)) (zeros 66 (g / 64)) ∙ bit-none (g % 64)

-- and its last word says so of each word
pub topped-none : Topped (replicate 66 0)
topped-none = record {
  long = length-replicate {A = ℕ} 66 0;
  small = λ w. lt_of_le_of_lt (le_of_eq (zeros 66 w)) (pow_pos 64);
  tops = λ w h. bit-none w ∙ ap (λ (x : ℕ). not (eqb x 0)) (sym (zeros 66 w));
}

-- a set has as many words as before
pub length-included : (words : List ℕ) (g : ℕ) → length (included words g) ≡ length words
unfolding included
length-included words g = length-set (set words (g / 64) (turned_on (get_or words (g / 64) 0) (g % 64))) 64 _ ∙ length-set words (g / 64) _

-- the words of the set with g: g's own, the last, and any other
included-own : (words : List ℕ) (g : ℕ) → length words ≡ 66 → g < 4096 → get_or (included words g) (g / 64) 0 ≡ turned_on (get_or words (g / 64) 0) (g % 64)
unfolding included
included-own words g e h =
    get_or-set_other (set words (g / 64) (turned_on (get_or words (g / 64) 0) (g % 64))) 64 (g / 64) _ 0 (λ q. omega arith)
    ∙ get_or-set_same words (g / 64) _ 0 (omega arith)

included-last : (words : List ℕ) (g : ℕ) → length words ≡ 66 → g < 4096 → get_or (included words g) 64 0 ≡ turned_on (get_or words 64 0) (g / 64)
unfolding included
included-last words g e h =
    get_or-set_same (set words (g / 64) (turned_on (get_or words (g / 64) 0) (g % 64))) 64 _ 0 (omega (arith, length-set words (g / 64) (turned_on (get_or words (g / 64) 0) (g % 64))))
    ∙ ap (λ (x : ℕ). turned_on x (g / 64)) (get_or-set_other words (g / 64) 64 _ 0 (λ q. omega arith))

included_else : (words : List ℕ) (g v : ℕ) → (v ≡ 64 → ⊥) → (v ≡ g / 64 → ⊥) → get_or (included words g) v 0 ≡ get_or words v 0
unfolding included
included_else words g v p q =
    get_or-set_other (set words (g / 64) (turned_on (get_or words (g / 64) 0) (g % 64))) 64 v _ 0 p
    ∙ get_or-set_other words (g / 64) v _ 0 q

-- g's word without g
unfoldable word_off : List ℕ → ℕ → ℕ
word_off words g = turned_off (get_or words (g / 64) 0) (g % 64)

-- the set without g where its word has others left, and where it has none
cleared-some : (words : List ℕ) (g : ℕ) → eqb (word_off words g) 0 ≡ false → cleared words g ≡ set words (g / 64) (word_off words g)
unfolding cleared word_off
cleared-some words g e = rw e

cleared-none : (words : List ℕ) (g : ℕ) → eqb (word_off words g) 0 ≡ true
    → cleared words g ≡ set (set words (g / 64) (word_off words g)) 64 (turned_off (get_or (set words (g / 64) (word_off words g)) 64 0) (g / 64))
unfolding cleared word_off
cleared-none words g e = rw e

-- a set has as many words as before
pub length-cleared : (words : List ℕ) (g : ℕ) → length (cleared words g) ≡ length words
length-cleared words g =
    by-test (eqb (word_off words g) 0)
    (λ e. ap length (cleared-none words g e) ∙ length-set (set words (g / 64) (word_off words g)) 64 _ ∙ length-set words (g / 64) _)
    (λ e. ap length (cleared-some words g e) ∙ length-set words (g / 64) _)

-- the words of the set without g: g's own, the last in either case, and any other
cleared-own : (words : List ℕ) (g : ℕ) → length words ≡ 66 → g < 4096 → get_or (cleared words g) (g / 64) 0 ≡ word_off words g
cleared-own words g e h =
    by-test (eqb (word_off words g) 0)
    (λ z. ap (λ (l : List ℕ). get_or l (g / 64) 0) (cleared-none words g z)
    ∙ get_or-set_other (set words (g / 64) (word_off words g)) 64 (g / 64) _ 0 (λ q. omega arith)
    ∙ get_or-set_same words (g / 64) _ 0 (omega arith))
    (λ z. ap (λ (l : List ℕ). get_or l (g / 64) 0) (cleared-some words g z) ∙ get_or-set_same words (g / 64) _ 0 (omega arith))

cleared-last-off : (words : List ℕ) (g : ℕ) → length words ≡ 66 → g < 4096 → eqb (word_off words g) 0 ≡ true
    → get_or (cleared words g) 64 0 ≡ turned_off (get_or words 64 0) (g / 64)
cleared-last-off words g e h z =
    ap (λ (l : List ℕ). get_or l 64 0) (cleared-none words g z)
    ∙ get_or-set_same (set words (g / 64) (word_off words g)) 64 _ 0 (omega (arith, length-set words (g / 64) (word_off words g)))
    ∙ ap (λ (x : ℕ). turned_off x (g / 64)) (get_or-set_other words (g / 64) 64 _ 0 (λ q. omega arith))

cleared-last-kept : (words : List ℕ) (g : ℕ) → g < 4096 → eqb (word_off words g) 0 ≡ false → get_or (cleared words g) 64 0 ≡ get_or words 64 0
cleared-last-kept words g h z = ap (λ (l : List ℕ). get_or l 64 0) (cleared-some words g z) ∙ get_or-set_other words (g / 64) 64 _ 0 (λ q. omega arith)

cleared_else : (words : List ℕ) (g v : ℕ) → (v ≡ 64 → ⊥) → (v ≡ g / 64 → ⊥) → get_or (cleared words g) v 0 ≡ get_or words v 0
cleared_else words g v p q =
    by-test (eqb (word_off words g) 0)
    (λ z. ap (λ (l : List ℕ). get_or l v 0) (cleared-none words g z)
    ∙ get_or-set_other (set words (g / 64) (word_off words g)) 64 v _ 0 p
    ∙ get_or-set_other words (g / 64) v _ 0 q)
    (λ z. ap (λ (l : List ℕ). get_or l v 0) (cleared-some words g z) ∙ get_or-set_other words (g / 64) v _ 0 q)

-- where only the word of g changes, and of it only the bit of g, every other number is as it was
other-kept : (words words' : List ℕ) (g k : ℕ) → ((k % 64 ≡ g % 64 → ⊥) → bit_on (get_or words' (g / 64) 0) (k % 64) ≡ bit_on (get_or words (g / 64) 0) (k % 64))
    → ((v : ℕ) → (v ≡ 64 → ⊥) → (v ≡ g / 64 → ⊥) → get_or words' v 0 ≡ get_or words v 0) → k < 4096 → (k ≡ g → ⊥) → is_on words' k ≡ is_on words k
unfolding is_on
other-kept words words' g k own rest l f = elim (ℕ_discrete (k / 64) (g / 64)) [
  | yes q ↦
      ap (λ (v : ℕ). bit_on (get_or words' v 0) (k % 64)) q
      ∙ own (λ r. f (same_number k g q r))
      ∙ ap (λ (v : ℕ). bit_on (get_or words v 0) (k % 64)) (sym q)
  | no q ↦ ap (λ (x : ℕ). bit_on x (k % 64)) (rest (k / 64) (λ r. omega arith) q)
]

-- a number marked is in the set
pub included-here : (words : List ℕ) (g : ℕ) → length words ≡ 66 → g < 4096 → is_on (included words g) g ≡ true
unfolding is_on
included-here words g e h = ap (λ (x : ℕ). bit_on x (g % 64)) (included-own words g e h) ∙ turned-on-here (get_or words (g / 64) 0) (g % 64)

-- and every other as it was
pub included-other : (words : List ℕ) (g k : ℕ) → length words ≡ 66 → g < 4096 → k < 4096 → (k ≡ g → ⊥) → is_on (included words g) k ≡ is_on words k
included-other words g k e h l f =
    other-kept words (included words g) g k
    (λ r. ap (λ (x : ℕ). bit_on x (k % 64)) (included-own words g e h) ∙ turned-on-other (get_or words (g / 64) 0) (g % 64) (k % 64) r)
    (included_else words g) l f

-- a number cleared is not in the set
pub cleared-here : (words : List ℕ) (g : ℕ) → length words ≡ 66 → g < 4096 → is_on (cleared words g) g ≡ false
unfolding is_on word_off
cleared-here words g e h = ap (λ (x : ℕ). bit_on x (g % 64)) (cleared-own words g e h) ∙ turned-off-here (get_or words (g / 64) 0) (g % 64)

-- and every other as it was
pub cleared-other : (words : List ℕ) (g k : ℕ) → length words ≡ 66 → g < 4096 → k < 4096 → (k ≡ g → ⊥) → is_on (cleared words g) k ≡ is_on words k
unfolding word_off
cleared-other words g k e h l f =
    other-kept words (cleared words g) g k
    (λ r. ap (λ (x : ℕ). bit_on x (k % 64)) (cleared-own words g e h) ∙ turned-off-other (get_or words (g / 64) 0) (g % 64) (k % 64) r)
    (cleared_else words g) l f

-- the last word is right after a number is marked
pub topped-included : {words : List ℕ} → Topped words → (g : ℕ) → g < 4096 → Topped (included words g)
topped-included {words} t g h = record {
  long = length-included words g ∙ t.long;
  small = λ w. elim (ℕ_discrete w 64) [
    | yes q ↦ rw (q, included-last words g t.long h) (turned-on_lt 64 (get_or words 64 0) (g / 64) (t.small 64) (word_lt g h))
    | no p ↦ elim (ℕ_discrete w (g / 64)) [
      | yes q ↦ rw (q, included-own words g t.long h) (turned-on_lt 64 (get_or words (g / 64) 0) (g % 64) (t.small (g / 64)) (bit_lt g))
      | no q ↦ rw (included_else words g w p q) (t.small w)
    ]
  ];
  tops = λ w l. rw (included-last words g t.long h) (elim (ℕ_discrete w (g / 64)) [
    | yes q ↦ rw (q, included-own words g t.long h)
        (turned-on-here (get_or words 64 0) (g / 64)
        ∙ ap not (sym (ne_eqb (turned_on (get_or words (g / 64) 0) (g % 64)) 0 (not_none (g % 64) (turned-on-here (get_or words (g / 64) 0) (g % 64))))))
    | no q ↦ rw (included_else words g w (λ r. omega arith) q) (turned-on-other (get_or words 64 0) (g / 64) w q ∙ t.tops w l)
  ]);
}

-- after a number is cleared each bit of the last word says whether its word has a bit on
cleared_top : {words : List ℕ} → Topped words → (g : ℕ) → g < 4096 → (w : ℕ) → w < 64
    → bit_on (get_or (cleared words g) 64 0) w ≡ not (eqb (get_or (cleared words g) w 0) 0)
unfolding word_off
cleared_top {words} t g h w l = elim (ℕ_discrete w (g / 64)) [
  | yes q ↦ rw (q, cleared-own words g t.long h) (by-test (eqb (word_off words g) 0)
      (λ z. rw (cleared-last-off words g t.long h z, z) (turned-off-here (get_or words 64 0) (g / 64)))
      (λ z. rw (cleared-last-kept words g h z, z) (t.tops (g / 64) (word_lt g h)
      ∙ ap not (ne_eqb (get_or words (g / 64) 0) 0 (λ e. eqb-false (word_off words g) 0 z (ap (λ (x : ℕ). turned_off x (g % 64)) e ∙ turned-off-none (g % 64)))))))
  | no q ↦ rw (cleared_else words g w (λ r. omega arith) q) (by-test (eqb (word_off words g) 0)
      (λ z. rw (cleared-last-off words g t.long h z) (turned-off-other (get_or words 64 0) (g / 64) w q ∙ t.tops w l))
      (λ z. rw (cleared-last-kept words g h z) (t.tops w l)))
]

-- the last word is right after a number is cleared
pub topped-cleared : {words : List ℕ} → Topped words → (g : ℕ) → g < 4096 → Topped (cleared words g)
unfolding word_off
topped-cleared {words} t g h = record {
  long = length-cleared words g ∙ t.long;
  small = λ w. elim (ℕ_discrete w 64) [
    | yes q ↦ rw q (by-test (eqb (word_off words g) 0)
        (λ z. rw (cleared-last-off words g t.long h z) (turned-off_lt 64 (get_or words 64 0) (g / 64) (t.small 64)))
        (λ z. rw (cleared-last-kept words g h z) (t.small 64)))
    | no p ↦ elim (ℕ_discrete w (g / 64)) [
      | yes q ↦ rw (q, cleared-own words g t.long h) (turned-off_lt 64 (get_or words (g / 64) 0) (g % 64) (t.small (g / 64)))
      | no q ↦ rw (cleared_else words g w p q) (t.small w)
    ]
  ];
  tops = cleared_top t g h;
}

module _ (words : List ℕ) (g word : ℕ) where
  -- as code marks a number: its word, and then the last one
  pub mark_code : (top : ℕ) → word ≡ turned_on (get_or words (g / 64) 0) (g % 64) → top ≡ turned_on (get_or (set words (g / 64) word) 64 0) (g / 64)
      → set (set words (g / 64) word) 64 top ≡ included words g
  unfolding included
  mark_code top p q = rw (q, p)

  module _ (p : word ≡ turned_off (get_or words (g / 64) 0) (g % 64)) where
    -- as code clears one: its word, and the last one where this has none left
    pub clear_code : (top : ℕ) → word ≡ 0 → top ≡ turned_off (get_or (set words (g / 64) word) 64 0) (g / 64) → set (set words (g / 64) word) 64 top ≡ cleared words g
    unfolding word_off
    clear_code top z q = rw (q, p) (sym (cleared-none words g (eq-eqb (word_off words g) 0 (sym p ∙ z))))

    -- and the last one as it was where this has others left
    pub clear_code-kept : (word ≡ 0 → ⊥) → set words (g / 64) word ≡ cleared words g
    unfolding word_off
    clear_code-kept z = rw p (sym (cleared-some words g (ne_eqb (word_off words g) 0 (λ e. z (p ∙ e)))))

-- the 66th word is not the set's: another one there changes no number of it
module _ (words : List ℕ) (x : ℕ) where
  pub beside-kept : (k : ℕ) → k < 4096 → is_on (set words 65 x) k ≡ is_on words k
  unfolding is_on
  beside-kept k h = ap (λ (y : ℕ). bit_on y (k % 64)) (get_or-set_other words 65 (k / 64) x 0 (λ q. omega arith))

  pub topped-beside : Topped words → x < 2 ^ 64 → Topped (set words 65 x)
  topped-beside t h = record {
    long = length-set words 65 x ∙ t.long;
    small = λ w. elim (ℕ_discrete w 65) [
      | yes q ↦ rw (q, get_or-set_same words 65 x 0 (omega (arith, t.long))) h
      | no q ↦ rw (get_or-set_other words 65 w x 0 q) (t.small w)
    ];
    tops = λ w l. rw (get_or-set_other words 65 64 x 0 (λ q. omega arith), get_or-set_other words 65 w x 0 (λ q. omega arith)) (t.tops w l);
  }

-- nor does a number marked or cleared change the 66th word
pub included-beside : (words : List ℕ) (g : ℕ) → g < 4096 → get_or (included words g) 65 0 ≡ get_or words 65 0
included-beside words g h = included_else words g 65 (λ q. omega arith) (λ q. omega arith)

pub cleared-beside : (words : List ℕ) (g : ℕ) → g < 4096 → get_or (cleared words g) 65 0 ≡ get_or words 65 0
cleared-beside words g h = cleared_else words g 65 (λ q. omega arith) (λ q. omega arith)
