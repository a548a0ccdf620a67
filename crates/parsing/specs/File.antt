-- "Job file": N, B, the m_p, the entries, the card bytes, and the order of the reader's checks. Assumes nothing: these are definitions.
use Rattle.std.specs.Prelude.{Bool, not, List, [], ◌∷◌, ◌++◌, ℕ, suc, ◌-◌, ◌*◌, eqb, ltb, length, get_or, drop}
use Rattle.counting.specs.Tests.{◌and◌, ◌or◌, pick}
use Rattle.counting.specs.Count.{least}
use Rattle.counting.specs.Lists.{each}
use Rattle.counting.specs.Checks.{Check, first, known, done}
use Rattle.racks.specs.Limits.{FREE}
use Rattle.racks.specs.Racks.{Rack, of_caps, slots, is_user}
use Rattle.racks.specs.Numbers.{bad_count, bad_bytes, bad_size, bad_twice, place_for}
use Rattle.answers.specs.Answers.{Refusal, no_counts, answer, written}
use Rattle.answers.specs.declared.Answer.{Answer}
use Rattle.numerals.specs.Numeral.{Numerals, numerals}

-- 1 for N
unfoldable pub wrong_n : List ℕ → ℕ → ℕ
wrong_n before n = first ((bad_count n, 1) ∷ [])

-- 2 for B
unfoldable pub wrong_b : List ℕ → ℕ → ℕ
wrong_b before b = first ((bad_bytes b, 2) ∷ [])

-- 3 for m_p and the running total
unfoldable pub wrong_m : List ℕ → ℕ → ℕ
wrong_m before m = first ((bad_size (of_caps (before ++ m ∷ [])), 3) ∷ [])

-- 5 for an entry: not 0, and one less than it is no user slot
unfoldable pub wrong_entry : List Rack → List ℕ → ℕ → ℕ
wrong_entry racks before x = first ((not (eqb x 0) and not (is_user racks (x - 1)), 5) ∷ [])

-- an entry as the places table has it: 0 free, else destination + 1
unfoldable pub entry_of : ℕ → ℕ
entry_of x = pick (eqb x 0) FREE (x - 1)

-- the first n entries of racks, from a position on
abbrev pub first_entries : List Rack → ℕ → List ℕ → ℕ → Numerals
first_entries racks n file at = numerals (wrong_entry racks) n file at []

-- the entries up to entry g are refused with 5
unfoldable pub bad_up_to : List Rack → List ℕ → ℕ → ℕ → Bool
bad_up_to racks file at g = eqb (first_entries racks (suc g) file at).number 5

-- the place that goes with number n, of entries from a position on: with 5 the first that is refused with it, else as in the table that they give
unfoldable pub entry_place : List Rack → List ℕ → ℕ → ℕ → ℕ
entry_place racks file at n =
    pick (eqb n 5) (least (slots racks) (bad_up_to racks file at))
    (place_for racks (each entry_of (first_entries racks (slots racks) file at).values) n)

-- number n and its place, of entries from a position on
unfoldable pub refusal_at : List Rack → List ℕ → ℕ → ℕ → Refusal
refusal_at racks file at n = record { number = n; place = entry_place racks file at n }

module _ (file : List ℕ) where
  -- N
  unfoldable pub read_n : Numerals
  read_n = numerals wrong_n 1 file 0 []

  -- B
  unfoldable pub read_b : Numerals
  read_b = numerals wrong_b 1 file read_n.next []

  -- the m_p
  unfoldable pub read_m : Numerals
  read_m = numerals wrong_m (get_or read_n.values 0 0) file read_b.next []

  -- the racks that they give
  unfoldable pub file_racks : List Rack
  file_racks = of_caps read_m.values

  -- S entries
  unfoldable pub read_entries : Numerals
  read_entries = first_entries file_racks (slots file_racks) file read_m.next

  -- B, once read
  unfoldable pub file_bytes : ℕ
  file_bytes = get_or read_b.values 0 0

  -- the places table
  unfoldable pub file_places : List ℕ
  file_places = each entry_of read_entries.values

  -- the bytes behind the last entry: the cards, where there are S·B
  unfoldable pub file_cards : List ℕ
  file_cards = drop read_entries.next file

  -- each numeral as read; after the last entry 6, then 15 or 16 for the card bytes
  unfoldable pub file_checks : List Check
  file_checks =
      known read_n.number
      ∷ known read_b.number
      ∷ known read_m.number
      ∷ known read_entries.number
      ∷ (bad_twice file_places, 6)
      ∷ (ltb (length file_cards) (slots file_racks * file_bytes), 15)
      ∷ (ltb (slots file_racks * file_bytes) (length file_cards), 16)
      ∷ []

-- number n and its place: the entry's index, not a byte
unfoldable pub file_refusal : List ℕ → ℕ → Refusal
file_refusal file n = refusal_at (file_racks file) file (read_m file).next n

-- the outcome of reading: N, B and S, the two lent lists at exit, where the card bytes begin, and the part of the file that they are
pub record Read : Type 0 where
  pub answer : Answer
  pub racks : ℕ
  pub bytes : ℕ
  pub slots : ℕ
  pub caps : List ℕ
  pub places : List ℕ
  pub start : ℕ
  pub cards : List ℕ

-- then 17: room for capacities below N, or for places below S
unfoldable pub read_checks : List ℕ → List ℕ → List ℕ → List Check
read_checks file caps places =
    file_checks file
    ++ (ltb (length caps) (length (file_racks file)) or ltb (length places) (slots (file_racks file)), 17)
    ∷ []

-- **Job file.** On a refusal every other number but the place is 0, the lists are as lent and the part is empty
unfoldable pub read : List ℕ → List ℕ → List ℕ → Read
read file caps places =
    let n = first (read_checks file caps places) in
    record {
      answer = answer (file_refusal file n) no_counts;
      racks = pick (done n) (length (file_racks file)) 0;
      bytes = pick (done n) (file_bytes file) 0;
      slots = pick (done n) (slots (file_racks file)) 0;
      caps = written n caps (read_m file).values;
      places = written n places (file_places file);
      start = pick (done n) (read_entries file).next 0;
      cards = pick (done n) (file_cards file) [];
    }
