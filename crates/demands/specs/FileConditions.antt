-- "Job file": the conditions of the file reader's numbers as propositions, in its own order. Assumes nothing: these are definitions.
use Rattle.std.specs.Prelude.{◌≡◌, ◌≢◌, ◌⊎◌, List, [], ◌∷◌, ◌++◌, ℕ, zero, suc, ◌+◌, ◌-◌, ◌*◌, ◌^◌, ◌≤◌, ◌<◌, length, get_or}
use Rattle.counting.specs.Count.{sum}
use Rattle.racks.specs.Racks.{Rack, of_caps, slots}
use Rattle.numerals.specs.Numeral.{numeral}
use Rattle.parsing.specs.File.{read_n, read_b, read_m, file_racks, file_bytes, file_places, file_cards}
use Rattle.demands.specs.Rows.{Row, ◌then◌}
use Rattle.demands.specs.Conditions.{UserSlot, WrongN, WrongB, TooMany, TwoNameOne}

-- group i of the numeral at a position follows: each group before it is in the file and has its top bit set
abbrev pub Follows : List ℕ → ℕ → ℕ → Type 0
Follows file at i = (j : ℕ) → j < i → (at + j < length file) × (128 ≤ get_or file (at + j) 0)

-- 14: padded beyond its shortest form: the last of several groups is 0
abbrev pub Padded : List ℕ → ℕ → Type 0
Padded file at = (i : ℕ) × (0 < i) × (i < 3) × Follows file at i × (at + i < length file) × (get_or file (at + i) 0 ≡ 0)

-- 20: of more than three groups: a fourth follows, there or not
abbrev pub TooLong : List ℕ → ℕ → Type 0
TooLong file at = Follows file at 3

-- 15: the file ends too early: a group follows that is not there
abbrev pub CutShort : List ℕ → ℕ → Type 0
CutShort file at = (i : ℕ) × (i < 3) × Follows file at i × (length file ≤ at + i)

-- the numeral ends well with group i: its top bit is not set, and it is not 0 unless it is the only one
abbrev pub EndsWith : List ℕ → ℕ → ℕ → Type 0
EndsWith file at i = (i < 3) × Follows file at i × (at + i < length file) × (get_or file (at + i) 0 < 128) × ((i ≡ 0) ⊎ (get_or file (at + i) 0 ≢ 0))

-- the seven bits of group j, by their weight: lowest first
unfoldable pub seven_bits : List ℕ → ℕ → ℕ → ℕ
seven_bits file at j = (get_or file (at + j) 0 - 128) * 128 ^ j

-- the value of a numeral that ends with group i
unfoldable pub value_of : List ℕ → ℕ → ℕ → ℕ
value_of file at i = sum i (seven_bits file at) + get_or file (at + i) 0 * 128 ^ i

-- 5: an entry is not 0 and one less than it is no user slot
abbrev pub WrongFileEntry : List Rack → ℕ → Type 0
WrongFileEntry racks x = (x ≢ 0) × (¬ UserSlot racks (x - 1))

-- the rows of the numeral at a position: its form
abbrev pub form_rows : List ℕ → ℕ → List Row
form_rows file at = (14, Padded file at) ∷ (20, TooLong file at) ∷ (15, CutShort file at) ∷ []

-- what is asked of a value, when those before it are known: 1 of N, 2 of B, 3 of m_p and the running total, 5 of an entry
abbrev pub ask_n : List ℕ → ℕ → List Row
ask_n before n = (1, WrongN n) ∷ []

abbrev pub ask_b : List ℕ → ℕ → List Row
ask_b before b = (2, WrongB b) ∷ []

abbrev pub ask_m : List ℕ → ℕ → List Row
ask_m before m = (3, TooMany (of_caps (before ++ m ∷ []))) ∷ []

abbrev pub ask_entry : List Rack → List ℕ → ℕ → List Row
ask_entry racks before x = (5, WrongFileEntry racks x) ∷ []

-- the rows of n numerals from a position on, each checked as read: its form, then its value
unfoldable pub numeral_rows : (List ℕ → ℕ → List Row) → ℕ → List ℕ → ℕ → List ℕ → List Row
numeral_rows ask zero file at before = []
numeral_rows ask (suc n) file at before =
    let x = numeral file at in
    form_rows file at then ask before x.value then numeral_rows ask n file x.next (before ++ x.value ∷ [])

-- the rows of the first n entries
abbrev pub entry_rows : List ℕ → ℕ → List Row
entry_rows file n = numeral_rows (ask_entry (file_racks file)) n file (read_m file).next []

-- the rows of a file: N, B, the m_p, the entries; after the last entry 6, then 15 or 16 for the card bytes
abbrev pub file_rows : List ℕ → List Row
file_rows file =
    numeral_rows ask_n 1 file 0 []
    then numeral_rows ask_b 1 file (read_n file).next []
    then numeral_rows ask_m (get_or (read_n file).values 0 0) file (read_b file).next []
    then entry_rows file (slots (file_racks file))
    then (6, TwoNameOne (file_places file))
    ∷ (15, length (file_cards file) < slots (file_racks file) * file_bytes file)
    ∷ (16, slots (file_racks file) * file_bytes file < length (file_cards file))
    ∷ []

-- 17: room for capacities below N, or for places below S
abbrev pub NoRoom : List ℕ → List ℕ → List ℕ → Type 0
NoRoom file caps places = (length caps < length (file_racks file)) ⊎ (length places < slots (file_racks file))

-- 18: the file is above 32,768 bytes
abbrev pub FileTooLarge : List ℕ → Type 0
FileTooLarge file = 32768 < length file
