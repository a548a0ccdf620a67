-- The table check: a call of its own. Assumes nothing: these are definitions.
use Rattle.std.specs.Prelude.{List, ◌≡◌, ℕ}
use Rattle.counting.specs.Checks.{first}
use Rattle.racks.specs.Racks.{Rack, of_caps}
use Rattle.racks.specs.Numbers.{table_checks, refusal_in}
use Rattle.answers.specs.Answers.{answer, no_counts}
use Rattle.answers.specs.declared.Answer.{Answer}

-- **Table check.** 0, 1, 3, 4, 5 or 6, the place of 5 and 6, and no counts
unfoldable pub checked : List Rack → List ℕ → Answer
checked racks places = answer (refusal_in racks places (first (table_checks racks places))) no_counts

-- the contract of `check_table`: what it gives for the capacities and the table that are lent
abbrev pub CheckTable : List ℕ → List ℕ → Answer → Type 0
CheckTable caps places r = r ≡ checked (of_caps caps) places
