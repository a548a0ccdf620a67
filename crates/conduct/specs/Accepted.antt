-- "Any table that passes these rules is a legal state, at the start or midway." Assumes nothing: these are definitions.
use Rattle.std.specs.Prelude.{◌≡◌, List, ℕ}
use Rattle.counting.specs.Checks.{first}
use Rattle.racks.specs.Racks.{Rack, of_caps}
use Rattle.racks.specs.Numbers.{card_checks}
use Rattle.moves.specs.Moves.{Held}

-- an accepted job: capacities, B, a table and its cards of which 1 to 6 find nothing to refuse
abbrev pub Accepted : List ℕ → ℕ → Held → Type 0
Accepted caps b h = first (card_checks (of_caps caps) b h.places h.cards) ≡ 0

-- what is said of racks, B, a table and its cards holds of every accepted job
abbrev pub OfAccepted : (List Rack → ℕ → Held → Type 0) → Type 0
OfAccepted said = (caps : List ℕ) (b : ℕ) (h : Held) → Accepted caps b h → said (of_caps caps) b h
