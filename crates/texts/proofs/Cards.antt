-- Laws of the cards' text: the bytes of a slot, the slots one by one, how long they are. Assumes nothing.
use mathlib.Core.Path.{◌≡◌, refl}
use mathlib.Core.List.{List, [], ◌∷◌}
use Prim.Native.Nat.{ℕ, zero, suc, ◌+◌, ◌*◌, ◌≤◌, ◌<◌}
use native.Mathlib.Omega.{arith}
use native.Mathlib.Nat.{zero-mul, suc-mul}
use native.Mathlib.Numerals.{add-one}
use lib.ListN.{length, length-append}
use Rattle.counting.specs.Lists.{join, each, tabulate}
use Rattle.counting.proofs.Lists.{join_more}
use Rattle.moves.specs.Blocks.{block}
use Rattle.moves.proofs.Blocks.{below, block-long}
use Rattle.texts.specs.Text.{hex}
use Rattle.texts.specs.Lines.{card_text}
use Rattle.texts.specs.parts.Writing.{Reaches, Wrote}
use Rattle.texts.proofs.Writing.{wrote-length, wrote_then}
use Rattle.texts.proofs.Digits.{length-hex}

-- two digits for each byte
pub length-hexes : (l : List ℕ) → length (join (each hex l)) ≡ 2 * length l
unfolding join each
length-hexes [] = refl
length-hexes (x ∷ l) = simp length-append (omega (arith, length-hex x, length-hexes l))

module _ (b g : ℕ) (cards : List ℕ) (fits : g * b + b ≤ length cards) where
  -- a slot has b bytes
  length-bytes : length (block b g cards) ≡ b
  length-bytes = block-long b g cards (omega arith)

  -- a card's text is a space and two digits for each byte
  pub length-card : length (card_text b cards g) ≡ 1 + 2 * b
  unfolding card_text
  length-card = omega (arith, length-hexes (block b g cards), length-bytes)

module _ (b : ℕ) (cards : List ℕ) where
  -- the text of s slots: a space and two digits for each byte, for each slot
  pub length-cards : (s n : ℕ) → s ≤ n → length cards ≡ n * b → length (join (tabulate s (card_text b cards))) ≡ s * (1 + 2 * b)
  unfolding join tabulate
  length-cards zero n h sized = rw zero-mul
  length-cards (suc s) n h sized =
      rw (join_more s (card_text b cards), suc-mul)
      (omega (
        arith,
        length-append (join (tabulate s (card_text b cards))) (card_text b cards s),
        length-card b s cards (omega (arith, below b s n (omega arith))),
        length-cards s n (omega arith) sized,
      ))

  -- no slots, no text
  pub cards-first : (l : List ℕ) (at : ℕ) → Wrote (join (tabulate 0 (card_text b cards))) l at l at
  unfolding join tabulate
  cards-first l at = record { stored = refl; behind = omega arith }

  module _ {l m : List ℕ} {start at : ℕ} (g : ℕ) (w : Wrote (join (tabulate g (card_text b cards))) l start m at) where
    -- the next slot's text fits
    pub card-room : (s : ℕ) → length cards ≡ s * b → g < s → Reaches (join (tabulate s (card_text b cards))) start l → Reaches (card_text b cards g) at m
    card-room s sized h room =
        omega (
          arith,
          length-cards g s (omega arith) sized,
          length-cards s s (omega arith) sized,
          below (1 + 2 * b) g s h,
          length-card b g cards (omega (arith, below b g s h)),
          wrote-length w,
          w.behind,
        )

    -- it is written
    pub card-next : {n : List ℕ} {k : ℕ} → Wrote (card_text b cards g) m at n k → Wrote (join (tabulate (g + 1) (card_text b cards))) l start n k
    card-next v = rw (add-one, join_more g (card_text b cards)) (wrote_then w v)
