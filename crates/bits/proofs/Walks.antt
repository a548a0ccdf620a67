-- A walk over a set, word by word: where it starts, how it goes on to another word, and the next number that it finds. Assumes nothing.
use mathlib.Core.Path.{◌≡◌, refl, sym, ap, ◌∙◌}
use mathlib.Core.Bool.{true, false, not}
use mathlib.Core.List.{List}
use Prim.Native.Nat.{ℕ, ◌+◌, ◌-◌, ◌*◌, ◌/◌, ◌%◌, ◌^◌, ◌≤◌, ◌<◌, min}
use native.Mathlib.Omega.{arith}
use native.Mathlib.Decide.{ℕ_discrete, dec_lt, dec_le}
use lib.Dec.{eqb}
use lib.ListN.{get_or}
use Rattle.counting.proofs.Tests.{no_way}
use Rattle.bits.specs.parts.Bits.{bit_on, turned_off, is_on, Topped, NextOn, Walking, Onward, WalkedOn}
use Rattle.bits.proofs.Words.{bit-none, bit-shift, turned-off-here, turned-off-other}
use Rattle.bits.proofs.Trailing.{all-off, bit-over}
use Rattle.bits.proofs.Nexts.{is-on-at, top-off}

-- a walk starts at any number, with what its word has from there up
pub walk_from : {words : List ℕ} → Topped words → (low : ℕ) → low ≤ 4096 → Walking words low low (get_or words (low / 64) 0 / 2 ^ (low % 64))
walk_from {words} t low h = record {
  few = h;
  within = omega arith;
  passed = λ k l m. absurd (omega arith);
  gone = λ k l. absurd (omega arith);
  ahead = λ k l e.
      bit-shift (get_or words (low / 64) 0) (low % 64) k
      ∙ sym (is-on-at words (low + k) (low / 64) (low % 64 + k) e (omega arith));
  over = λ k l.
      bit-shift (get_or words (low / 64) 0) (low % 64) k
      ∙ bit-over 64 (get_or words (low / 64) 0) (low % 64 + k) (t.small (low / 64)) (omega arith);
}

-- a word that is not 0 has a bit on
pub some-bit : (word b : ℕ) → word < 2 ^ 64 → (word ≡ 0 → ⊥) → NextOn (bit_on word) 0 64 b → b < 64
some-bit word b h f o = elim (dec_lt b 64) [
  | yes l ↦ l
  | no l ↦ absurd (f (all-off 64 word h (λ j m. o.passed j (omega arith) (omega arith))))
]

module _ {words : List ℕ} {t at rest : ℕ} (w : Walking words t at rest) where
  -- nothing of the word is left: none of its numbers from t on is in the set
  walk_word : rest ≡ 0 → (k : ℕ) → t ≤ k → k < (at / 64 + 1) * 64 → is_on words k ≡ false
  walk_word e k l m = elim (dec_lt k at) [
    | yes i ↦ w.passed k l i
    | no i ↦
        let s : at + (k - at) ≡ k = omega arith in
        ap (is_on words) (sym s) ∙ sym (w.ahead (k - at) (omega arith) (omega arith)) ∙ ap (λ (x : ℕ). bit_on x (k - at)) e ∙ bit-none (k - at)
  ]

  -- nor is any of the words up to the next that has a bit on
  walk_words : Topped words → rest ≡ 0 → {v : ℕ} → NextOn (bit_on (get_or words 64 0)) (at / 64 + 1) 64 v → (k : ℕ) → t ≤ k → k < v * 64 → is_on words k ≡ false
  walk_words p e {v} o k l m = elim (dec_lt k ((at / 64 + 1) * 64)) [
    | yes i ↦ walk_word e k l i
    | no i ↦ is-on-at words k (k / 64) (k % 64) refl refl
        ∙ top-off p (k / 64) (k % 64) (omega (arith, o.within)) (o.passed (k / 64) (omega arith) (omega arith))
  ]

  -- that word is walked next
  walk-to : Topped words → rest ≡ 0 → {v : ℕ} → NextOn (bit_on (get_or words 64 0)) (at / 64 + 1) 64 v → v < 64 → Walking words t (v * 64) (get_or words v 0)
  walk-to p e {v} o h = record {
    few = omega arith;
    within = omega (arith, w.within, o.up);
    passed = λ k l m. walk_words p e o k l m;
    gone = λ k l. absurd (omega (arith, w.within, o.up));
    ahead = λ k l i. sym (is-on-at words (v * 64 + k) v k (omega arith) (omega arith));
    over = λ k l. bit-over 64 (get_or words v 0) k (p.small v) (omega arith);
  }

  -- b is the first bit that is left
  module _ {b : ℕ} (o : NextOn (bit_on rest) 0 64 b) (f : b < 64) where
    -- it is not behind t
    bit-ahead : t ≤ at + b
    bit-ahead = elim (dec_le t (at + b)) [
      | yes l ↦ l
      | no l ↦ absurd (no_way (o.hit f) (w.gone b (omega arith)))
    ]

    -- and is one of the word
    bit_in_word : (at + b) / 64 ≡ at / 64
    bit_in_word = elim (dec_lt (at / 64) ((at + b) / 64)) [
      | yes l ↦ absurd (no_way (o.hit f) (w.over b l))
      | no l ↦ omega arith
    ]

    -- so it is the next number
    pub walk-next : t ≤ 4096 → {r : ℕ} → r ≡ min (at + b) 4096 → NextOn (is_on words) t 4096 r
    walk-next h {r} e = record {
      up = omega (arith, bit-ahead);
      within = omega arith;
      passed = λ k l m. elim (dec_lt k at) [
        | yes i ↦ w.passed k l i
        | no i ↦
            let s : at + (k - at) ≡ k = omega arith in
            ap (is_on words) (sym s)
            ∙ sym (w.ahead (k - at) (omega arith) (omega (arith, bit_in_word)))
            ∙ o.passed (k - at) (omega arith) (omega arith)
      ];
      hit = λ l.
          let s : r ≡ at + b = omega arith in
          ap (is_on words) s ∙ sym (w.ahead b bit-ahead bit_in_word) ∙ o.hit f;
    }

    -- and the walk has come behind it once the bit is turned off
    pub walk_more : Walking words (at + b + 1) at (turned_off rest b)
    walk_more = record {
      few = w.few;
      within = omega (arith, bit_in_word);
      passed = λ k l m. absurd (omega arith);
      gone = λ k l. elim (ℕ_discrete k b) [
        | yes e ↦ rw e (turned-off-here rest b)
        | no e ↦ turned-off-other rest b k e ∙ o.passed k (omega arith) (omega arith)
      ];
      ahead = λ k l e. turned-off-other rest b k (λ i. omega arith) ∙ w.ahead k (omega (arith, bit-ahead)) e;
      over = λ k l. turned-off-other rest b k (λ i. let s : (at + k) / 64 ≡ at / 64 = rw i bit_in_word in omega arith) ∙ w.over k l;
    }

module _ {words : List ℕ} {at rest : ℕ} where
  -- where a walk has come to t and a number from t on is in the set, it can go on
  pub onward : {t k : ℕ} → Walking words t at rest → t ≤ k → k < 4096 → is_on words k ≡ true → Onward words at rest
  onward {t} {k} w l m o = record {
    later = λ e. record {
      member = k;
      behind = elim (dec_lt k ((at / 64 + 1) * 64)) [ yes i ↦ absurd (no_way o (walk_word w e k l i)) | no i ↦ omega arith ];
      within = m;
      on = o;
    };
  }

  -- the ways a walk goes on: something of the word is left
  pub walked_same : (rest ≡ 0 → ⊥) → WalkedOn words at rest at rest
  walked_same f = record { kept = λ t w. w; left = f }

  module _ (e : rest ≡ 0) (n : Onward words at rest) where
    -- there are words behind it
    pub later_in : at / 64 + 1 ≤ 64
    later_in = let r = n.later e in omega (arith, r.behind, r.within)

    module _ (p : Topped words) {v : ℕ} (o : NextOn (bit_on (get_or words 64 0)) (at / 64 + 1) 64 v) where
      -- one of them has a bit on
      pub later_lt : v < 64
      later_lt = let r = n.later e in elim (dec_lt v 64) [
        | yes l ↦ l
        | no l ↦ absurd (no_way r.on (is-on-at words r.member (r.member / 64) (r.member % 64) refl refl
            ∙ top-off p (r.member / 64) (r.member % 64) (omega (arith, r.within)) (o.passed (r.member / 64) (omega (arith, r.behind)) (omega (arith, r.within)))))
      ]

      -- it is walked next
      pub walked_word : WalkedOn words at rest (v * 64) (get_or words v 0)
      walked_word = record {
        kept = λ t w. walk-to w p e o later_lt;
        left = λ z. no_way (sym (p.tops v later_lt) ∙ o.hit later_lt) (ap (λ (x : ℕ). not (eqb x 0)) z);
      }
