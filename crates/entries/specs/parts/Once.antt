-- The quick pass over the entries of a table: a mark for each user slot, open until an entry has named it. Assumes nothing: these are
-- definitions.
use Rattle.std.specs.Prelude.{◌≡◌, Bool, true, List, ℕ, ◌+◌, ◌≤◌, eqb, ltb, length, get_or, set}
use Rattle.counting.specs.Tests.{pick}
use Rattle.racks.specs.Limits.{SLOTS, MARKS, FREE}
use Rattle.racks.specs.Racks.{Rack, slots, is_user}

-- where the mark of slot g's entry x stands, of S slots: a free slot has one of its own past all of them; what names no slot has the one
-- behind the last
unfoldable pub mark_at : ℕ → ℕ → ℕ → ℕ
mark_at S g x = pick (eqb x FREE) (SLOTS + 1 + g) (pick (ltb S x) S x)

-- an open mark, 1, is that of a user slot
pub record OnceMarked (racks : List Rack) (marks : List ℕ) : Type 0 where
  pub users : (v : ℕ) → v ≤ slots racks → get_or marks v 0 ≡ 1 → is_user racks v ≡ true
  pub long : length marks ≡ MARKS

-- a mark is shut; whether it was open
pub record MarkTaken (marks : List ℕ) (at : ℕ) (fits : Bool) (after : List ℕ) : Type 0 where
  pub fits-is : fits ≡ eqb (get_or marks at 0) 1
  pub marks-are : after ≡ set marks at 0
