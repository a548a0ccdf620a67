-- The lines of the listing, each by what it says. Assumes nothing: these are definitions.
use Rattle.std.specs.Prelude.{List, [], ◌∷◌, ◌++◌, ℕ, suc, eqb}
use Rattle.counting.specs.Tests.{pick}
use Rattle.counting.specs.Lists.{Pair, tabulate, join, each}
use Rattle.racks.specs.Limits.{HAND}
use Rattle.answers.specs.declared.Tally.{Tally}
use Rattle.moves.specs.Blocks.{block}
use Rattle.texts.specs.Text.{text, decimal, hex}

-- a slot, or `h` for the hand
unfoldable pub slot_text : ℕ → List ℕ
slot_text x = pick (eqb x HAND) (text "h") (decimal x)

-- a move or a copy: a space, then from>to
unfoldable pub arrow : Pair → List ℕ
arrow m = text " " ++ slot_text m.0 ++ text ">" ++ slot_text m.1

-- a phase: its number, then from>to in plan order
unfoldable pub phase_line : ℕ → List Pair → List ℕ
phase_line k pairs = text "phase " ++ decimal k ++ text ":" ++ join (each arrow pairs) ++ text "\n"

-- the phase lines, the first with number k
unfoldable pub phase_lines : ℕ → List (List Pair) → List ℕ
phase_lines k [] = []
phase_lines k (pairs ∷ rest) = phase_line k pairs ++ phase_lines (suc k) rest

-- the copy list; with none, the line is `copies:`
unfoldable pub copies_line : List Pair → List ℕ
copies_line copies = text "copies:" ++ join (each arrow copies) ++ text "\n"

-- a space, then slot g's bytes, with nothing between them
unfoldable pub card_text : ℕ → List ℕ → ℕ → List ℕ
card_text b cards g = text " " ++ join (each hex (block b g cards))

-- each slot's final bytes
unfoldable pub cards_line : ℕ → ℕ → List ℕ → List ℕ
cards_line s b cards = text "cards:" ++ join (tabulate s (card_text b cards)) ++ text "\n"

-- the three counts
unfoldable pub end_line : Tally → List ℕ
end_line t =
    text "end: phases " ++ decimal t.phases ++ text " moves " ++ decimal t.moves ++ text " copies " ++ decimal t.copies
    ++ text "\n"

-- a refusal prints only one line
unfoldable pub refused_line : ℕ → List ℕ
refused_line n = text "refused " ++ decimal n ++ text "\n"
