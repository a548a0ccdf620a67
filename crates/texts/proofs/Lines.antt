-- Laws of the lines: how long each is, how long it is at most, and the phase lines one by one. Assumes nothing.
use mathlib.Core.Path.{◌≡◌, refl}
use mathlib.Core.List.{List, [], ◌∷◌, ◌++◌}
use Prim.Native.Nat.{ℕ, suc, ◌+◌, ◌*◌, ◌≤◌, ◌<◌}
use native.Mathlib.Omega.{arith}
use lib.ListN.{length, length-append}
use Rattle.counting.specs.Lists.{Pair, join, each, tabulate}
use Rattle.counting.specs.Every.{All}
use Rattle.counting.specs.Every.All.{none, more}
use Rattle.answers.specs.declared.Tally.{Tally}
use Rattle.carrying.specs.parts.Carrying.{AllSlots}
use Rattle.texts.specs.Text.{decimal}
use Rattle.texts.specs.Lines.{arrow, phase_lines, copies_line, card_text, cards_line, end_line, refused_line, phase_line}
use Rattle.texts.proofs.Digits.{length-decimal-5}
use Rattle.texts.proofs.Arrows.{arrows-small}
use Rattle.texts.proofs.Cards.{length-cards}

-- the first phase line, and those after it
pub phase_lines_lem : (k : ℕ) (pairs : List Pair) (rest : List (List Pair)) → phase_lines k (pairs ∷ rest) ≡ phase_line k pairs ++ phase_lines (suc k) rest
unfolding phase_lines
phase_lines_lem k pairs rest = refl

-- a phase line: 8 bytes, the phase number, the arrows
pub length-phase : (k : ℕ) (pairs : List Pair) → length (phase_line k pairs) ≡ 8 + length (decimal k) + length (join (each arrow pairs))
unfolding phase_line
length-phase k pairs = simp length-append (omega arith)

-- the phase lines from number k on: at most 13 bytes for each, and 12 for each pair
pub phases-small : (k : ℕ) (ps : List (List Pair)) → k + length ps ≤ 100000 → All (AllSlots 65536) ps → length (phase_lines k ps) ≤ 13 * length ps + 12 * length (join ps)
unfolding phase_lines join
phases-small k [] h none = omega arith
phases-small k (pairs ∷ rest) h (more p r) =
    omega (
      arith,
      length-append (phase_line k pairs) (phase_lines (suc k) rest),
      length-append pairs (join rest),
      length-phase k pairs,
      length-decimal-5 k (omega arith),
      arrows-small pairs p,
      phases-small (suc k) rest (omega arith) r,
    )

-- the copies line: 8 bytes and the arrows
pub length-copies : (ms : List Pair) → length (copies_line ms) ≡ 8 + length (join (each arrow ms))
unfolding copies_line
length-copies ms = simp length-append (omega arith)

-- at most 8 bytes, and 12 for each copy
pub copies-small : (ms : List Pair) → AllSlots 65536 ms → length (copies_line ms) ≤ 8 + 12 * length ms
copies-small ms all = omega (arith, length-copies ms, arrows-small ms all)

-- the cards line: 7 bytes and the cards
pub length-cards_line : (s b : ℕ) (cards : List ℕ) → length (cards_line s b cards) ≡ 7 + length (join (tabulate s (card_text b cards)))
unfolding cards_line
length-cards_line s b cards = simp length-append (omega arith)

-- for each card a space and two digits for each byte
pub length-cards-whole : (s b : ℕ) (cards : List ℕ) → length cards ≡ s * b → length (cards_line s b cards) ≡ 7 + s * (1 + 2 * b)
length-cards-whole s b cards sized = omega (arith, length-cards_line s b cards, length-cards b cards s s (omega arith) sized)

-- the end line: 28 bytes and the three counts
pub length-end : (t : Tally) → length (end_line t) ≡ 28 + length (decimal t.phases) + length (decimal t.moves) + length (decimal t.copies)
unfolding end_line
length-end t = simp length-append (omega arith)

-- at most 43 bytes
pub end-small : (t : Tally) → t.phases < 100000 → t.moves < 100000 → t.copies < 100000 → length (end_line t) ≤ 43
end-small t p m c = omega (arith, length-end t, length-decimal-5 t.phases p, length-decimal-5 t.moves m, length-decimal-5 t.copies c)

-- the line of a refusal: 9 bytes and the number
pub length-refused : (n : ℕ) → length (refused_line n) ≡ 9 + length (decimal n)
unfolding refused_line
length-refused n = simp length-append (omega arith)

-- at most 14 bytes
pub refused-small : (n : ℕ) → n < 100000 → length (refused_line n) ≤ 14
refused-small n h = omega (arith, length-refused n, length-decimal-5 n h)
