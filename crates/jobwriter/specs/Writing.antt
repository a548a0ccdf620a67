-- "Job file", written: the file of a job, and the call that writes it. Assumes nothing: these are definitions.
use Rattle.std.specs.Prelude.{List, [], ◌∷◌, ◌++◌, ◌≡◌, ℕ, zero, suc, ◌+◌, ◌%◌, ◌/◌, eqb, ltb, length}
use Rattle.counting.specs.Tests.{pick}
use Rattle.counting.specs.Lists.{each, join}
use Rattle.counting.specs.Checks.{Check, first}
use Rattle.racks.specs.Limits.{FREE}
use Rattle.racks.specs.Racks.{Rack, of_caps}
use Rattle.racks.specs.Numbers.{card_checks, too_short, refusal_in}
use Rattle.answers.specs.Answers.{Sized, sized, sized_of}
use Rattle.answers.specs.Answers.{SizeAnswer}

-- a number in groups of seven bits, lowest first, the top bit set where another follows, at most n groups: the shortest form
unfoldable pub groups_of : ℕ → ℕ → List ℕ
groups_of zero x = []
groups_of (suc n) x = pick (ltb x 128) (x ∷ []) ((128 + x % 128) ∷ groups_of n (x / 128))

-- a number of a file: at most three groups
unfoldable pub numeral_of : ℕ → List ℕ
numeral_of x = groups_of 3 x

-- numbers of a file, one after another
abbrev pub numerals_of : List ℕ → List ℕ
numerals_of xs = join (each numeral_of xs)

-- an entry as the file has it: 0 free, else destination + 1
unfoldable pub file_entry : ℕ → ℕ
file_entry x = pick (eqb x FREE) 0 (x + 1)

-- m_p
abbrev pub cap_of : Rack → ℕ
cap_of rack = rack.users

-- the numbers of the file: N, B, the m_p, then S entries
unfoldable pub file_numbers : List Rack → ℕ → List ℕ → List ℕ
file_numbers racks b places = length racks ∷ b ∷ each cap_of racks ++ each file_entry places

-- the file of a job: its numbers, then the card bytes
unfoldable pub file_for : List Rack → ℕ → List ℕ → List ℕ → List ℕ
file_for racks b places cards = numerals_of (file_numbers racks b places) ++ cards

-- 1 to 6, then 19: the buffer is shorter than the file
unfoldable pub write_checks : List Rack → ℕ → List ℕ → List ℕ → List ℕ → List Check
write_checks racks b places cards lent = card_checks racks b places cards ++ (too_short lent (file_for racks b places cards), 19) ∷ []

-- **Write file.** The file from the front of the lent buffer, and its length; all else there is unchanged
unfoldable pub filed : List Rack → ℕ → List ℕ → List ℕ → List ℕ → Sized
filed racks b places cards lent =
    sized (refusal_in racks places (first (write_checks racks b places cards lent))) (file_for racks b places cards) lent

-- the contract of `write_file`: what it gives, and the lent buffer at exit
abbrev pub WriteFile : List ℕ → ℕ → List ℕ → List ℕ → List ℕ → SizeAnswer → List ℕ → Type 0
WriteFile caps b places cards lent r lent' = sized_of r lent' ≡ filed (of_caps caps) b places cards lent
