-- What the inner functions of the copy list promise: copies counted, and written into a list. Assumes nothing: these are definitions.
use Rattle.std.specs.Prelude.{◌≡◌, Bool, not, List, [], ◌∷◌, ℕ, ◌+◌, ◌*◌, eqb, ltb, length, get_or}
use Rattle.std.proofs.lemmas.List.Edits.{sets}
use Rattle.counting.specs.Tests.{pick}
use Rattle.counting.specs.Count.{some}
use Rattle.counting.specs.Checks.{first, known}
use Rattle.counting.specs.Lists.{Pair, flat}
use Rattle.racks.specs.Numbers.{some_away, too_short}
use Rattle.racks.specs.Job.{racks_of}
use Rattle.racks.specs.declared.Job.{Job}
use Rattle.answers.specs.Answers.{placeless, copies_of, plus_copies, Listed, listed}
use Rattle.answers.specs.declared.Tally.{Tally}
use Rattle.tables.specs.parts.Tables.{away_by, refusal_by, table_number}
use Rattle.factors.specs.Copies.{factor, copies, copy_list}
use Rattle.factors.specs.parts.Walks.{LISTED, Marked, SomeMarked}

-- a card is away, by a table of each slot's rack
unfoldable pub some_away_by : List ℕ → List ℕ → Bool
some_away_by racking places = some (length places) (away_by racking places)

-- the list with copies written from copy `at` on, two numbers each
unfoldable pub put_copies : List ℕ → ℕ → List Pair → List ℕ
put_copies list at cs = sets list (2 * at) (flat cs)

-- the slots that are due at slot k: its factor, unless that is marked
unfoldable pub due : List ℕ → ℕ → List ℕ → ℕ → List ℕ
due places mark seen k = pick (eqb (get_or seen k 0) mark) [] (factor places k)

-- the copies due at slot k are counted, its slots marked
pub record Counted (places : List ℕ) (mark k at : ℕ) (seen : List ℕ) (count : ℕ) (marks : List ℕ) : Type 0 where
  pub count-is : count ≡ at + length (copies places (due places mark seen k))
  pub marked : Marked mark (due places mark seen k) seen marks

-- the copies due at slot k are added to the tally, its slots marked
pub record Added (places : List ℕ) (mark k : ℕ) (seen : List ℕ) (tally after : Tally) (marks : List ℕ) : Type 0 where
  pub count-is : after ≡ plus_copies (length (copies places (due places mark seen k))) tally
  pub marked : Marked mark (due places mark seen k) seen marks

-- the same, and they are written behind those that the tally had
pub record CopiesWritten (places : List ℕ) (mark k : ℕ) (list seen : List ℕ) (tally after : Tally) (list' marks : List ℕ) : Type 0 where
  pub added : Added places mark k seen tally after marks
  pub list-is : list' ≡ put_copies list tally.copies (copies places (due places mark seen k))

-- the whole list is written from the front, and added to the tally; no other mark is made
pub record AllWritten (places list seen : List ℕ) (tally after : Tally) (list' marks : List ℕ) : Type 0 where
  pub count-is : after ≡ plus_copies (length (copy_list places)) tally
  pub list-is : list' ≡ put_copies list 0 (copy_list places)
  pub marked : SomeMarked LISTED seen marks

-- a list of so many numbers has room for the copies
unfoldable pub fits : ℕ → List ℕ → Bool
fits room places = not (ltb room (2 * length (copy_list places)))

-- the outcome where the table is accepted and nothing is away: 13, or the list and its copies
unfoldable pub listed_here : List ℕ → List ℕ → Listed
listed_here places lent =
    listed (placeless (first ((too_short lent (flat (copy_list places)), 13) ∷ []))) (copies_of (length (copy_list places))) (flat (copy_list places)) lent

-- the number of the copy list, by a job: that of the table, then 12 and 13
unfoldable pub copy_number : Job → List ℕ → List ℕ → ℕ
copy_number job places lent = first (known (table_number job places) ∷ (some_away (racks_of job) places, 12) ∷ (too_short lent (flat (copy_list places)), 13) ∷ [])

-- the copy list, by a job
unfoldable pub copied_by : Job → List ℕ → List ℕ → Listed
copied_by job places lent =
    listed (refusal_by job places (copy_number job places lent)) (copies_of (length (copy_list places))) (flat (copy_list places)) lent
