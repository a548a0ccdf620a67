-- The pass over the entries, as the code makes it: a table of marks, 0 for what is no user slot, 1 for a user slot, 2 for one that an
-- entry has named. What stands behind the marks of the most slots is not read. Assumes nothing: these are definitions.
use Rattle.std.specs.Prelude.{◌≡◌, Bool, List, ℕ, ◌≤◌, ◌<◌, eqb, ltb, length, get_or, set, Result, Ok, Err, Option, Some, None}
use Rattle.counting.specs.Tests.{bit, pick}
use Rattle.counting.specs.Count.{some, least}
use Rattle.counting.specs.Checks.{first, done}
use Rattle.answers.specs.Answers.{Refusal, placeless}
use Rattle.answers.specs.declared.Refusal as given
use Rattle.racks.specs.Limits.{SLOTS, FREE}
use Rattle.racks.specs.Racks.{Rack, is_user}
use Rattle.racks.specs.Table.{names}
use Rattle.racks.specs.Numbers.{repeats, entry_checks, refusal_in}

-- the list has the value from low up to high, elsewhere what it had, and its length
pub record FilledFrom (low high value : ℕ) (before after : List ℕ) : Type 0 where
  pub inside : (g : ℕ) → low ≤ g → g < high → get_or after g 0 ≡ value
  pub below : (g : ℕ) → g < low → get_or after g 0 ≡ get_or before g 0
  pub above : (g : ℕ) → high ≤ g → low ≤ g → get_or after g 0 ≡ get_or before g 0
  pub long : length after ≡ length before

-- the list has 0 for as many slots as there may be
pub record Cleared (list : List ℕ) : Type 0 where
  pub marks : (g : ℕ) → g < SLOTS → get_or list g 0 ≡ 0
  pub long : SLOTS ≤ length list

-- of as many slots as there may be, the list has 1 at each user slot and 0 at the others; what stands behind them is not said
pub record UsersMarked (racks : List Rack) (list : List ℕ) : Type 0 where
  pub marks : (g : ℕ) → g < SLOTS → get_or list g 0 ≡ bit (is_user racks g)
  pub long : SLOTS ≤ length list

-- the mark of slot v after the first g entries
unfoldable pub mark_of : List Rack → List ℕ → ℕ → ℕ → ℕ
mark_of racks places g v = pick (is_user racks v) (pick (some g (names places v)) 2 1) 0

-- the number of an entry by its slot's mark: 5 for no user slot, 6 for one that is named already
unfoldable pub number_of : ℕ → ℕ
number_of mark = pick (eqb mark 0) 5 (pick (eqb mark 1) 0 6)

-- the mark of the slot that entry x names: 0 where there can be no such slot
unfoldable pub mark_in : List ℕ → ℕ → ℕ
mark_in marks x = pick (ltb x SLOTS) (get_or marks x 0) 0

-- the number of entry x
unfoldable pub entry_number : List ℕ → ℕ → ℕ
entry_number marks x = pick (eqb x FREE) 0 (number_of (mark_in marks x))

-- the marks after entry x
unfoldable pub named : List ℕ → ℕ → List ℕ
named marks x = pick (eqb (mark_in marks x) 1) (set marks x 2) marks

-- what one entry gives, and what it does to the marks
pub record Entered (marks : List ℕ) (x number : ℕ) (after : List ℕ) : Type 0 where
  pub number_is : number ≡ entry_number marks x
  pub marks-are : after ≡ named marks x

-- the number that naming an entry gives: 5 where it is refused, 6 where it repeats an earlier one
abbrev pub naming_number : Result Bool given.Refusal → ℕ
naming_number (Ok again) = pick again 6 0
naming_number (Err e) = 5

-- 5 and 6 of a whole table
unfoldable pub entries_number : List Rack → List ℕ → ℕ
entries_number racks places = first (entry_checks racks places)

-- and the place that goes with it
unfoldable pub entries_refusal : List Rack → List ℕ → Refusal
entries_refusal racks places = refusal_in racks places (entries_number racks places)

-- 6 and the entry that was found to repeat an earlier one, where one was
abbrev pub twice_in : Option ℕ → Refusal
twice_in (Some g) = record { number = 6; place = g }
twice_in None = placeless 0

-- 6 at the first of the entries that it is given to: what was found before entry g, and the number of that entry
unfoldable pub first_twice : Refusal → ℕ → ℕ → Refusal
first_twice was number g = pick (done was.number) (pick (eqb number 6) (record { number = 6; place = g }) was) was

-- of the first g entries: 6 and the lowest that repeats an earlier one, where there is one
unfoldable pub twice_to : List ℕ → ℕ → Refusal
twice_to places g = pick (some g (repeats places)) (record { number = 6; place = least g (repeats places) }) (placeless 0)
