-- The free slots found: a word slot by slot, and the set word by word. Assumes nothing.
use mathlib.Core.Path.{◌≡◌, refl, sym, ap, ◌∙◌}
use mathlib.Core.Bool.{false}
use mathlib.Core.List.{List, [], ◌∷◌, ◌++◌}
use Prim.Native.Nat.{ℕ, zero, suc, ◌+◌, ◌*◌, ◌-◌, ◌/◌, ◌%◌, ◌^◌, ◌≤◌, ◌<◌, min}
use native.Mathlib.Omega.{arith}
use native.Mathlib.Nat.{zero-add, pow-suc, lt_of_lt_of_le}
use native.Mathlib.Decide.{ℕ_discrete, dec_le}
use lib.Dec.{eqb}
use lib.ListN.{length, get_or, take, drop, length-take, length-drop, length-append, get_or-append, drop_of_length-le}
use lib.Seq.{take-take, drop-drop, take_at, drop_at, get_or_at, get_or-take, get_or-drop}
use Rattle.counting.proofs.Lists.{length_none}
use lib.Pow.{pow_pos, pow_mono}
use Rattle.counting.specs.Tests.{bit}
use Rattle.counting.proofs.Tests.{bit_le}
use Rattle.racks.specs.Limits.{FREE}
use Rattle.racks.specs.Table.{free}
use Rattle.racks.proofs.Table.{read-dest}
use Rattle.bits.specs.parts.Bits.{bit_on, is_on, filled, Topped}
use Rattle.bits.proofs.Words.{bit-none, doubled-low, doubled-up}
use Rattle.bits.proofs.Sets.{topped-none}
use Rattle.bits.proofs.Fills.{filled-here, filled-other, filled_else, topped-filled}
use Rattle.queues.specs.parts.Line.{Blank}
use Rattle.queues.specs.parts.Openings.{Word, FreeSet}
use Rattle.queues.proofs.Line.{blank-is}

-- some slots of a table, from low on
module _ (places slots behind : List ℕ) (low : ℕ) (e : drop low places ≡ slots ++ behind) where
  -- each of them is free where it is in the table
  pub part-free : (k : ℕ) → k < length slots → free slots k ≡ free places (low + k)
  unfolding free
  part-free k l =
      let m : low + k < length places = omega (arith, ap length e, length-drop low places, length-append slots behind) in
      ap (λ (x : ℕ). eqb x FREE)
      (sym (read-dest slots k l) ∙ sym (get_or-append slots behind 0 k l) ∙ ap (λ (s : List ℕ). get_or s k 0) (sym e) ∙ get_or-drop low places k 0 ∙ read-dest places (low + k) m)

  -- their word is that of these slots of the table
  pub word-part : (word : ℕ) → Word slots 0 (length slots) word → Word places low (low + length slots) word
  word-part word s =
      let n : low + length slots - low ≡ length slots - 0 = omega arith in
      record {
        shown = λ b l. s.shown b (omega arith) ∙ rw zero-add (part-free b (omega arith));
        rest = λ b l. s.rest b (omega arith);
        small = rw n s.small;
      }

-- the slots left behind w pieces of 64, of which the next is taken: those behind one piece more are left
pub pieces-more : (places left slots left' : List ℕ) (w : ℕ) → left ≡ drop (w * 64) places → left ≡ slots ++ left' → length slots ≡ min 64 (length left)
    → left' ≡ drop ((w + 1) * 64) places
pieces-more places left slots left' w e p n =
    let long : length left ≡ length slots + length left' = ap length p ∙ length-append slots left' in
    elim (dec_le 64 (length left)) [
      | yes m ↦
          let next : w * 64 + 64 ≡ (w + 1) * 64 = omega arith in
          sym (drop_at slots left' 64 (omega arith)) ∙ ap (drop 64) (sym p ∙ e) ∙ drop-drop 64 (w * 64) places ∙ ap (λ (k : ℕ). drop k places) next
      | no m ↦
          length_none left' (omega arith)
          ∙ sym (drop_of_length-le places (omega (arith, ap length e, length-drop (w * 64) places)))
    ]

module _ (places : List ℕ) (high : ℕ) where
  -- a word of no slots
  pub word_none : Word places high high 0
  word_none = record { shown = λ b l. absurd (omega arith); rest = λ b l. bit-none b; small = pow_pos (high - high) }

  -- one slot more, before the others
  module _ (g word : ℕ) (l : g < high) (s : Word places (g + 1) high word) where
    -- the word doubled is one bit longer
    doubled_lt : (one : ℕ) → one ≤ 1 → 2 * word + one < 2 ^ (high - g)
    doubled_lt one f =
        let n : ℕ = high - (g + 1) in
        let i : high - g ≡ suc n = omega arith in
        rw (i, pow-suc 2 n) (omega (arith, s.small))

    -- and so has room for it
    pub doubled_fits : (one : ℕ) → one ≤ 1 → high ≤ 64 → 2 * word + one < 2 ^ 64
    doubled_fits one f h = lt_of_lt_of_le (doubled_lt one f) (pow_mono {i = high - g} {j = 64} (omega arith))

    pub word_more : (one : ℕ) → one ≡ bit (free places g) → Word places g high (2 * word + one)
    word_more one e = record { shown = shown; rest = rest; small = doubled_lt one few }
      where
        few : one ≤ 1
        few = bit_le one (free places g) e

        shown : (b : ℕ) → g + b < high → bit_on (2 * word + one) b ≡ free places (g + b)
        shown zero h = let i : g + 0 ≡ g = omega arith in rw (i, e) (doubled-low word (free places g))
        shown (suc b) h =
            let i : g + suc b ≡ g + 1 + b = omega arith in
            let j : suc b ≡ 1 + b = omega arith in
            rw i (rw j (doubled-up word one b few) ∙ s.shown b (omega arith))

        rest : (b : ℕ) → high ≤ g + b → bit_on (2 * word + one) b ≡ false
        rest zero h = absurd (omega arith)
        rest (suc b) h = let j : suc b ≡ 1 + b = omega arith in rw j (doubled-up word one b few) ∙ s.rest b (omega arith)

-- the front of a list that is still to be read, and its last item read: the front before it is left
module _ (slots left left' : List ℕ) (x : ℕ) (front : left ≡ take (length left) slots) (last : left ≡ left' ++ x ∷ []) where
  pub read-long : (length left ≡ length left' + 1) × (length left' < length slots)
  read-long =
      let e : length left ≡ length left' + 1 = ap length last ∙ length-append left' (x ∷ []) in
      (e, omega (arith, ap length front, length-take (length left) slots))

  pub read-front : left' ≡ take (length left') slots
  read-front =
      sym (take_at left' (x ∷ []) (length left') refl)
      ∙ ap (take (length left')) (sym last ∙ front)
      ∙ take-take (length left') (length left) slots (omega (arith, read-long))

  pub read-item : x ≡ get_or slots (length left') 0
  read-item =
      sym (get_or_at left' x [] 0 (length left') refl)
      ∙ ap (λ (l : List ℕ). get_or l (length left') 0) (sym last ∙ front)
      ∙ get_or-take (length left) slots (length left') 0 (omega (arith, read-long))

-- the first w words are found, and the others are empty
pub record FreeSetTo (places : List ℕ) (w : ℕ) (bits : List ℕ) : Type 0 where
  pub topped : Topped bits
  pub shown : (k : ℕ) → k < w * 64 → k < length places → is_on bits k ≡ free places k
  pub rest : (v : ℕ) → w ≤ v → v < 64 → get_or bits v 0 ≡ 0

module _ (places : List ℕ) where
  -- none is found
  pub free-set-none : {bits : List ℕ} → Blank 66 bits → FreeSetTo places 0 bits
  free-set-none e = record { topped = rw (blank-is e) topped-none; shown = λ k l m. absurd (omega arith); rest = λ v l m. e.zero v }

  -- all are found
  pub free-set-all : {w : ℕ} {bits : List ℕ} → FreeSetTo places w bits → length places ≤ w * 64 → FreeSet places bits
  free-set-all s l = record { topped = s.topped; shown = λ k m. s.shown k (omega arith) m }

  -- one word more
  pub free-set-more : (small : length places ≤ 4096) {w word high : ℕ} {bits : List ℕ} → FreeSetTo places w bits → w * 64 < length places → high ≡ min (w * 64 + 64) (length places)
      → Word places (w * 64) high word → FreeSetTo places (w + 1) (filled bits w word)
  free-set-more small {w} {word} {high} {bits} s l e o =
      record {
        topped = topped-filled s.topped w word h (s.rest w (omega arith) h) (lt_of_lt_of_le o.small (pow_mono {i = high - w * 64} {j = 64} (omega arith)));
        shown = λ k m i. elim (ℕ_discrete (k / 64) w) [
          | yes q ↦
              let j : w * 64 + k % 64 ≡ k = omega arith in
              filled-here s.topped w word h k q ∙ o.shown (k % 64) (omega arith) ∙ ap (free places) j
          | no q ↦ filled-other s.topped w word h k (omega arith) q ∙ s.shown k (omega arith) i
        ];
        rest = λ v m i. filled_else s.topped w word h v (λ q. omega arith) (λ q. omega arith) ∙ s.rest v (omega arith) i;
      }
    where
      h : w < 64
      h = omega arith
