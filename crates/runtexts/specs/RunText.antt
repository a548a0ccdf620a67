-- The text of a run. Assumes nothing: these are definitions.
use Rattle.std.specs.Prelude.{List, ◌++◌, ℕ}
use Rattle.racks.specs.Racks.{Rack, slots}
use Rattle.moves.specs.Moves.{Held}
use Rattle.moves.specs.Phases.{phases}
use Rattle.factors.specs.Copies.{copy_list}
use Rattle.shuffle.specs.Shuffle.{settled_held}
use Rattle.runs.specs.Run.{gathered, counts}
use Rattle.texts.specs.Lines.{phase_lines, copies_line, cards_line, end_line}

-- the most bytes of a file that the program takes
abbrev pub FILE : ℕ
FILE = 32768

-- a run: phases, copies, cards, end
unfoldable pub run_text : List Rack → ℕ → Held → List ℕ
run_text racks b h =
    phase_lines 1 (phases racks h.places)
    ++ copies_line (copy_list (gathered racks b h).places)
    ++ cards_line (slots racks) b (settled_held racks b (gathered racks b h)).cards
    ++ end_line (counts racks b h)
