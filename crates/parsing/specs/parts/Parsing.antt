-- What the parts of the file reader promise. Assumes nothing: these are definitions.
use Rattle.std.specs.Prelude.{◌≡◌, false, List, [], ◌∷◌, ℕ, ◌-◌, ◌≤◌, ltb, length, take, drop, Result, Ok, Err, IfOk}
use Rattle.counting.specs.Tests.{pick}
use Rattle.counting.specs.Lists.{each}
use Rattle.counting.specs.Checks.{Check, first, known}
use Rattle.racks.specs.Limits.{USERS, TOTAL, BYTES, RACKS, SLOTS}
use Rattle.racks.specs.Racks.{Rack, of_caps, slots}
use Rattle.racks.specs.Numbers.{bad_size, bad_twice, rack_checks}
use Rattle.answers.specs.Answers.{placeless, refusal_of, refused}
use Rattle.answers.specs.declared.Refusal as given
use Rattle.numerals.specs.Numeral.{Numerals, numerals}
use Rattle.parsing.specs.File.{wrong_m, entry_of, first_entries, refusal_at, read_n, read_b, read_m, file_racks, file_bytes, file_places, file_checks}
use Rattle.parsing.specs.Answers.{file_answer, file_answered}
use Rattle.parsing.specs.declared.FileJob.{FileJob}
use Rattle.parsing.specs.declared.parts.Head.{Head}

-- the highest m_p that is not refused, with `total` user slots before it
unfoldable pub room_for : ℕ → ℕ
room_for total = pick (ltb (TOTAL - total) USERS) (TOTAL - total) USERS

-- the numerals that were read, by the position behind them and the list that they were put in; none where they are refused
unfoldable pub taken_of : Result ℕ given.Refusal → List ℕ → Numerals
taken_of (Ok next) values = record { number = 0; values = values; next = next }
taken_of (Err e) values = record { number = (refusal_of e).number; values = []; next = 0 }

-- the m_p at the front of the list, in order; no place goes with their refusal
pub record CapsRead (file : List ℕ) (at n : ℕ) (read : Result ℕ given.Refusal) (caps : List ℕ) : Type 0 where
  pub is : taken_of read (take n caps) ≡ numerals wrong_m n file at []
  pub bare : refused read ≡ placeless (refused read).number
  pub good : IfOk read (λ _. bad_size (of_caps (take n caps)) ≡ false)
  pub long : length caps ≡ RACKS

-- 1, 2, 3, 14, 15 or 20 for N, B and the m_p
unfoldable pub head_checks : List ℕ → List Check
head_checks file = known (read_n file).number ∷ known (read_b file).number ∷ known (read_m file).number ∷ []

-- a front that is done: N, B, the position behind, and the m_p at the front of the list, in order
pub record Headed (file : List ℕ) (head : Head) (caps : List ℕ) : Type 0 where
  pub racks-are : head.racks ≡ length (file_racks file)
  pub few : head.racks ≤ RACKS
  pub bytes-are : head.bytes ≡ file_bytes file
  pub small : head.bytes ≤ BYTES
  pub next-is : head.next ≡ (read_m file).next
  pub caps-are : take head.racks caps ≡ (read_m file).values
  pub good : first (rack_checks (file_racks file)) ≡ 0

-- what reading the front gives
pub record HeadRead (file : List ℕ) (read : Result Head given.Refusal) (caps : List ℕ) : Type 0 where
  pub refusal_is : refused read ≡ placeless (first (head_checks file))
  pub headed : IfOk read (λ head. Headed file head caps)
  pub long : length caps ≡ RACKS

-- the S entries of racks, from a position on
unfoldable pub entries : List Rack → List ℕ → ℕ → Numerals
entries racks file at = first_entries racks (slots racks) file at

-- 14, 15, 20 or 5 for the entries, then 6
unfoldable pub entries_checks : Numerals → List Check
entries_checks read = known read.number ∷ (bad_twice (each entry_of read.values), 6) ∷ []

-- what reading the entries gives: where it is done, the position behind them, and the places at the front of the list
pub record EntriesRead (racks : List Rack) (file : List ℕ) (at : ℕ) (read : Result ℕ given.Refusal) (places : List ℕ) : Type 0 where
  pub refusal_is : refused read ≡ refusal_at racks file at (first (entries_checks (entries racks file at)))
  pub next-is : IfOk read (λ next. next ≡ (entries racks file at).next)
  pub places-are : IfOk read (λ _. take (slots racks) places ≡ each entry_of (entries racks file at).values)
  pub long : length places ≡ SLOTS

-- how many bytes lie behind a position
unfoldable pub left_of : List ℕ → ℕ → ℕ
left_of file at = length (drop at file)

-- 15 or 16 for the card bytes
unfoldable pub end_number : List ℕ → ℕ → ℕ → ℕ
end_number file at want = first ((ltb (left_of file at) want, 15) ∷ (ltb want (left_of file at), 16) ∷ [])

-- what the whole file gives, 17 aside: the answer, and where it is done the lists
pub record Parsed (file : List ℕ) (found : Result FileJob given.Refusal) (caps places : List ℕ) : Type 0 where
  pub is : file_answered found ≡ file_answer file (first (file_checks file))
  pub caps-are : IfOk found (λ job. take job.racks caps ≡ (read_m file).values)
  pub places-are : IfOk found (λ job. take job.slots places ≡ file_places file)
  pub few : IfOk found (λ job. (job.racks ≤ RACKS) × (job.slots ≤ SLOTS))
  pub long : (length caps ≡ RACKS) × (length places ≡ SLOTS)
