-- Copies made one at a time: along a chain, by the hand, factor by factor. Assumes nothing.
use mathlib.Core.Path.{◌≡◌, refl, sym, ap, ◌∙◌}
use mathlib.Core.Logic.{◌≢◌}
use mathlib.Core.List.{List, [], ◌∷◌, ◌++◌}
use Prim.Native.Nat.{ℕ, zero, suc, ◌+◌, ◌*◌, ◌≤◌, ◌<◌}
use native.Mathlib.Omega.{arith}
use lib.ListN.{length, get_or, take, replicate}
use Rattle.counting.specs.Lists.{Pair}
use Rattle.racks.specs.Limits.{FREE, HAND}
use Rattle.racks.specs.Table.{dest}
use Rattle.answers.specs.Answers.{plus_copy, plus_copies}
use Rattle.answers.specs.declared.Tally.{Tally}
use Rattle.moves.specs.Blocks.{block, put_block, blank}
use Rattle.moves.proofs.Blocks.{length-put, within}
use Rattle.factors.specs.Copies.{shift, copies, copy_list}
use Rattle.factors.specs.parts.Chains.{Chained}
use Rattle.factors.specs.parts.Walks.{COUNTED, steps, Inside, Unmarked, Walked}
use Rattle.copies.specs.parts.Made.{made}
use Rattle.copies.specs.parts.Writes.{due}
use Rattle.copies.proofs.Tallied.{plus-shift, plus-hand}
use Rattle.factors.proofs.Walked.{inside-here, walked-shift, walked-hand}
use Rattle.copies.proofs.Progress.{progress-end, Adding, adding-start, adding-end, adding-room, adding-more, few-copies, marked-none, added_none, added-due, due-copies}
use Rattle.shuffle.specs.Shuffle.{Hands, taken, laid, run_copies, brought, copy_made}
use Rattle.hands.specs.parts.Hands.{handed, slid, HandedAs, WalkBrought, SlotBrought, AllBrought}
use Rattle.shuffle.proofs.Bytes.{taken-hand, taken-slot, laid-hand, laid-slot}

-- one copy
module _ (b from to : ℕ) (cards hand : List ℕ) where
  -- from the hand
  pub made-from-hand : from ≡ HAND → (to' : ℕ) → to' ≡ to → to ≢ HAND → (cards' : List ℕ) → cards' ≡ put_block b to' (take b hand) cards → handed b cards' hand ≡ copy_made b from to (handed b cards hand)
  unfolding handed copy_made
  made-from-hand e to' t q cards' p = rw (e, taken-hand b (handed b cards hand), laid-slot b to (take b hand) (handed b cards hand) q, p, t)

  -- to the hand
  pub made-to-hand : to ≡ HAND → (from' : ℕ) → from' ≡ from → from ≢ HAND → (hand' : List ℕ) → take b hand' ≡ block b from' cards → handed b cards hand' ≡ copy_made b from to (handed b cards hand)
  unfolding handed copy_made
  made-to-hand e from' t q hand' p = rw (e, taken-slot b from (handed b cards hand) q, laid-hand b (block b from cards) (handed b cards hand), p, t)

  -- from slot to slot
  pub made-slots : from ≢ HAND → to ≢ HAND → (from' to' : ℕ) → from' ≡ from → to' ≡ to → (cards' : List ℕ) → cards' ≡ put_block b to' (block b from' cards) cards → handed b cards' hand ≡ copy_made b from to (handed b cards hand)
  unfolding handed copy_made
  made-slots q r from' to' s t cards' p = rw (taken-slot b from (handed b cards hand) q, laid-slot b to (block b from cards) (handed b cards hand) r, p, s, t)

-- copies and then one more
run_snoc : (b : ℕ) (cs : List Pair) (c : Pair) (h : Hands) → run_copies b (cs ++ c ∷ []) h ≡ copy_made b c.0 c.1 (run_copies b cs h)
unfolding run_copies copy_made
run_snoc b [] c h = refl
run_snoc b (x ∷ cs) c h = run_snoc b cs c (laid b x.1 (taken b x.0 h) h)

-- copies and then others
pub run-append : (b : ℕ) (cs ds : List Pair) (h : Hands) → run_copies b (cs ++ ds) h ≡ run_copies b ds (run_copies b cs h)
unfolding copy_made run_copies
run-append b [] ds h = refl
run-append b (x ∷ cs) ds h = run-append b cs ds (laid b x.1 (taken b x.0 h) h)

-- from slot to slot
slid-append : (b : ℕ) (cs ds : List Pair) (cards : List ℕ) → slid b (cs ++ ds) cards ≡ slid b ds (slid b cs cards)
unfolding slid
slid-append b [] ds cards = refl
slid-append b (x ∷ cs) ds cards = slid-append b cs ds (put_block b x.1 (block b x.0 cards) cards)

-- the buffer stays as long as it is
length-slid : (b : ℕ) (cs : List Pair) (cards : List ℕ) → length (slid b cs cards) ≡ length cards
unfolding slid
length-slid b [] cards = refl
length-slid b (c ∷ cs) cards = length-slid b cs (put_block b c.1 (block b c.0 cards) cards) ∙ length-put b c.1 (block b c.0 cards) cards

-- as long as it was
pub slid-size : (b : ℕ) (cs : List Pair) (cards after : List ℕ) → after ≡ slid b cs cards → length after ≡ length cards
slid-size b cs cards after e = ap length e ∙ length-slid b cs cards

-- so a slot is within it
pub slid-within : (b n g : ℕ) (cs : List Pair) (cards after : List ℕ) → after ≡ slid b cs cards → length cards ≡ n * b → g < n → g * b + b ≤ length after
slid-within b n g cs cards after e l h = within b n g after (slid-size b cs cards after e ∙ l) h

-- as the copies are made one after another
made-slid : (b at : ℕ) (cs : List Pair) (cards : List ℕ) → made (λ n from to l. put_block b to (block b from l) l) at cs cards ≡ slid b cs cards
unfolding made slid
made-slid b at [] cards = refl
made-slid b at (c ∷ cs) cards = made-slid b (at + 1) cs (put_block b c.1 (block b c.0 cards) cards)

pub slid-made : (b at : ℕ) (cs : List Pair) (cards l : List ℕ) → l ≡ made (λ n from to l. put_block b to (block b from l) l) at cs cards → l ≡ slid b cs cards
slid-made b at cs cards l e = e ∙ made-slid b at cs cards

-- a chain of slots is run without the hand
pub run-chain : (b : ℕ) (places cards hand : List ℕ) (n x : ℕ) → Inside places n x → length places ≤ 4096
    → run_copies b (shift x (steps (dest places) n x)) (handed b cards hand) ≡ handed b (slid b (shift x (steps (dest places) n x)) cards) hand
unfolding shift steps copy_made run_copies slid Inside
run-chain b places cards hand zero x w l = refl
run-chain b places cards hand (suc n) x w l =
    let y : ℕ = dest places x in
    let cs : List Pair = shift y (steps (dest places) n y) in
    let low : y < length places = inside-here places n y w.1 in
    let i = run-chain b places cards hand n y w.1 l in
    rw (run_snoc b cs (x, y), i, slid-append b cs ((x, y) ∷ []) cards)
    (sym (made-slots b x y (slid b cs cards) hand (λ e. omega (arith, w.0)) (λ e. omega arith) x y refl refl (put_block b y (block b x (slid b cs cards)) (slid b cs cards)) refl))

-- a factor's cards
module _ (b : ℕ) (places : List ℕ) (h n end : ℕ) (inside : Inside places n h) (few : length places ≤ 4096) (cards hand : List ℕ) (long : length hand ≡ 256) where
  -- along a shift
  pub brought-shift : end ≡ FREE → (tally r : Tally) (cards' : List ℕ) → r ≡ plus_copies n tally → cards' ≡ slid b (shift h (steps (dest places) n h)) cards → WalkBrought b places h n end cards hand tally r cards' hand
  brought-shift e tally r cards' i p = record {
    count-is = plus-shift tally n end e r i;
    brings = record { is = ap (λ (l : List ℕ). handed b l hand) p ∙ sym (run-chain b places cards hand n h inside few) ∙ ap (λ (cs : List Pair). run_copies b cs (handed b cards hand)) (sym (walked-shift places h n end e)); long = long };
    size = slid-size b (shift h (steps (dest places) n h)) cards cards' p;
  }

  -- by the hand
  pub brought-hand : end ≢ FREE → end < length places → (tally held shifted r : Tally) (from : ℕ) (hand₁ cards₂ cards₃ : List ℕ) → held ≡ plus_copy tally → shifted ≡ plus_copies n held → r ≡ plus_copy shifted → from ≡ end
      → take b hand₁ ≡ block b from cards → length hand₁ ≡ 256 → cards₂ ≡ slid b (shift h (steps (dest places) n h)) cards → cards₃ ≡ put_block b h (take b hand₁) cards₂
      → WalkBrought b places h n end cards hand tally r cards₃ hand₁
  unfolding run_copies copy_made
  brought-hand q l tally held shifted r from hand₁ cards₂ cards₃ t i a j p m o s =
      let cs : List Pair = shift h (steps (dest places) n h) in
      let low : h < length places = inside-here places n h inside in
      let one : handed b cards hand₁ ≡ copy_made b end HAND (handed b cards hand) = made-to-hand b end HAND cards hand refl from j (λ e. omega arith) hand₁ p in
      let two : handed b cards₂ hand₁ ≡ run_copies b cs (copy_made b end HAND (handed b cards hand)) =
      ap (λ (l : List ℕ). handed b l hand₁) o ∙ sym (run-chain b places cards hand₁ n h inside few) ∙ ap (run_copies b cs) one in
      let three : handed b cards₃ hand₁ ≡ copy_made b HAND h (handed b cards₂ hand₁) = made-from-hand b HAND h cards₂ hand₁ refl h refl (λ e. omega arith) cards₃ s in
      record {
        count-is = plus-hand tally n end q held shifted r t i a;
        brings = record {
          is = three ∙ ap (copy_made b HAND h) two ∙ sym (run_snoc b cs (HAND, h) (copy_made b end HAND (handed b cards hand)))
              ∙ ap (λ (ds : List Pair). run_copies b ds (handed b cards hand)) (sym (walked-hand places h n end q));
          long = m;
        };
        size = ap length s ∙ length-put b h (take b hand₁) cards₂ ∙ slid-size b cs cards cards₂ o;
      }

-- slot k is marked: nothing is due
pub slot-none : (b : ℕ) (places : List ℕ) (k : ℕ) (seen cards hand : List ℕ) (tally : Tally) → get_or seen k 0 ≡ COUNTED → length hand ≡ 256 → SlotBrought b places k seen cards hand tally tally seen cards hand
unfolding copy_made run_copies
slot-none b places k seen cards hand tally e l = record {
  added = added_none places seen COUNTED k tally e;
  brings = record { is = ap (λ (cs : List Pair). run_copies b cs (handed b cards hand)) (sym (marked-none places seen COUNTED k e)); long = l };
  size = refl;
}

-- it is not: its factor is brought
pub slot-brought : (b : ℕ) (places : List ℕ) (k : ℕ) (seen cards hand : List ℕ) → get_or seen k 0 ≢ COUNTED → (h n end : ℕ) (marks : List ℕ) → Walked places COUNTED k seen h n end marks
    → (tally after : Tally) (cards' hand' : List ℕ) → WalkBrought b places h n end cards hand tally after cards' hand' → SlotBrought b places k seen cards hand tally after marks cards' hand'
slot-brought b places k seen cards hand q h n end marks w tally after cards' hand' v = record {
  added = added-due places seen COUNTED k q h n end marks w tally after v.count-is;
  brings = record { is = v.brings.is ∙ ap (λ (cs : List Pair). run_copies b cs (handed b cards hand)) (sym (due-copies places seen COUNTED k q h n end marks w)); long = v.brings.long };
  size = v.size;
}

-- the factors of the slots before k are brought
pub record Bringing (b : ℕ) (places : List ℕ) (k : ℕ) (start seen cards₀ hand₀ cards hand : List ℕ) (tally sum : Tally) : Type 0 where
  pub made : List Pair
  pub adding : Adding places COUNTED k start seen made tally sum
  pub brings : HandedAs b cards hand (run_copies b made (handed b cards₀ hand₀))
  pub size : length cards ≡ length cards₀

-- none is
pub bringing-start : (b : ℕ) (places start cards hand : List ℕ) (tally : Tally) → length hand ≡ 256 → Bringing b places 0 start start cards hand cards hand tally tally
unfolding copy_made run_copies
bringing-start b places start cards hand tally l = record {
  made = [];
  adding = adding-start places start COUNTED tally;
  brings = record { is = refl; long = l };
  size = refl;
}

module _ (b : ℕ) (places : List ℕ) (k : ℕ) (start seen cards₀ hand₀ cards hand : List ℕ) (tally sum : Tally) (p : Bringing b places k start seen cards₀ hand₀ cards hand tally sum) where
  -- behind the last slot all are
  pub bringing-end : k ≡ length places → AllBrought b places cards₀ hand₀ tally sum cards
  unfolding handed
  bringing-end e = record {
    count-is = adding-end places COUNTED k start seen p.made tally sum p.adding e;
    brings = ap (λ (h : Hands). h.cards) p.brings.is ∙ ap (λ (cs : List Pair). (run_copies b cs (handed b cards₀ hand₀)).cards) (sym (progress-end places COUNTED k start seen p.made p.adding.progress e));
    size = p.size;
  }

  module _ (ok : Chained places) (fresh : Unmarked places COUNTED start) (low : k < length places) where
    -- the tally has room for the copies of slot k
    pub bringing-room : tally.copies ≡ 0 → sum.copies + length (copies places (due places COUNTED seen k)) ≤ 6144
    bringing-room z = omega (arith, adding-room places COUNTED k start seen p.made tally sum p.adding fresh low z, few-copies ok)

    -- those of slot k too
    pub bringing-more : (sum₂ : Tally) (seen₂ cards₂ hand₂ : List ℕ) → SlotBrought b places k seen cards hand sum sum₂ seen₂ cards₂ hand₂ → Bringing b places (k + 1) start seen₂ cards₀ hand₀ cards₂ hand₂ tally sum₂
    bringing-more sum₂ seen₂ cards₂ hand₂ v = record {
      made = p.made ++ copies places (due places COUNTED seen k);
      adding = adding-more places COUNTED k start seen p.made tally sum p.adding fresh low sum₂ seen₂ v.added;
      brings = record {
        is = v.brings.is ∙ ap (run_copies b (copies places (due places COUNTED seen k))) p.brings.is ∙ sym (run-append b p.made (copies places (due places COUNTED seen k)) (handed b cards₀ hand₀));
        long = v.brings.long;
      };
      size = v.size ∙ p.size;
    }

take-zeros : (b n : ℕ) → b ≤ n → take b (replicate {A = ℕ} n 0) ≡ replicate b 0
take-zeros zero n l = refl
take-zeros (suc b) zero l = absurd (omega arith)
take-zeros (suc b) (suc n) l = ap {B = List ℕ} (λ r. 0 ∷ r) (take-zeros b n (omega arith))

-- the hand is blank at first
pub first-hand : (b : ℕ) (cards : List ℕ) → b ≤ 256 → handed b cards (replicate 256 0) ≡ record { cards = cards; hand = blank b }
unfolding handed blank
first-hand b cards l = rw (take-zeros b 256 l)

-- the cards after all copies
pub all-brought : (b : ℕ) (places cards cards' : List ℕ) (tally after : Tally) → b ≤ 256 → AllBrought b places cards (replicate 256 0) tally after cards' → cards' ≡ brought b places cards
unfolding brought
all-brought b places cards cards' tally after l a = a.brings ∙ ap (λ (h : Hands). (run_copies b (copy_list places) h).cards) (first-hand b cards l)
