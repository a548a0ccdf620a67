-- Which cards are away, by the table of each slot's rack. Assumes nothing.
use mathlib.Core.Path.{◌≡◌, sym, ap, ◌∙◌}
use mathlib.Core.Bool.{Bool, ◌||◌}
use mathlib.Core.List.{List}
use Prim.Native.Nat.{ℕ, ◌+◌}
use lib.ListN.{length}
use Rattle.counting.specs.Count.{some}
use Rattle.counting.proofs.Tests.{or-code}
use Rattle.counting.proofs.Some.{some_more, some_cong}
use Rattle.racks.specs.Racks.{Rack, slots}
use Rattle.racks.specs.Table.{away}
use Rattle.racks.specs.Numbers.{some_away}
use Rattle.racks.specs.parts.Legal.{Legal}
use Rattle.tables.specs.parts.Tables.{away_by, Filled}
use Rattle.tables.proofs.Targets.{away_by_lem}
use Rattle.copies.specs.parts.Writes.{some_away_by}

module _ (racking places : List ℕ) (g : ℕ) where
  -- one slot more
  pub some_next : (found away : Bool) → found ≡ some g (away_by racking places) → away ≡ away_by racking places g → (found || away) ≡ some (g + 1) (away_by racking places)
  some_next found away e f = or-code found away ∙ rw (e, f) (sym (some_more g (away_by racking places)))

  -- all slots
  pub some-whole : (found : Bool) → g ≡ length places → found ≡ some g (away_by racking places) → found ≡ some_away_by racking places
  unfolding some_away_by
  some-whole found e f = f ∙ ap (λ (n : ℕ). some n (away_by racking places)) e

-- by a table that has each slot's rack, some card is away exactly where one is
pub some-away_by : (racks : List Rack) (racking places : List ℕ) → Filled racks racking → Legal racks places → some_away_by racking places ≡ some_away racks places
unfolding some_away_by some_away
some-away_by racks racking places filled v =
    ap (λ (n : ℕ). some n (away_by racking places)) v.long
    ∙ some_cong (slots racks) (away_by racking places) (away racks places) (away_by_lem racks places racking v filled)
