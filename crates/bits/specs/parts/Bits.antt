-- Words of 64 bits; and sets of numbers below 4,096, a bit for each in 64 words, with a 65th word that says which of them have a bit on, and one more that is not the set's.
-- Assumes nothing: these are definitions.
use Rattle.std.specs.Prelude.{◌≡◌, Bool, true, false, not, List, ℕ, ◌+◌, ◌*◌, ◌/◌, ◌%◌, ◌^◌, ◌≤◌, ◌<◌, eqb, length, get_or, set}
use Rattle.std.specs.Int.Bits.{bit_and, bit_or, bit_xor}
use Rattle.counting.specs.Tests.{pick}

-- the numbers of a set are below this
abbrev pub NUMBERS : ℕ
NUMBERS = 4096

-- how many words a set has: one for each 64 numbers, one with a bit for each of those that is not empty, and one more, which is its user's
abbrev pub WORDS : ℕ
WORDS = 66

-- where the word stands that has a bit for each word that is not empty
abbrev pub TOP : ℕ
TOP = 64

-- bit b of a word is on
unfoldable pub bit_on : ℕ → ℕ → Bool
bit_on word b = eqb (word / 2 ^ b % 2) 1

-- the word with every bit on
abbrev pub ALL : ℕ
ALL = 18446744073709551615

-- a word with bit b on
unfoldable pub turned_on : ℕ → ℕ → ℕ
turned_on word b = bit_or word (2 ^ b)

-- a word with bit b off
unfoldable pub turned_off : ℕ → ℕ → ℕ
turned_off word b = bit_xor word (bit_and word (2 ^ b))

-- number g is in the set
unfoldable pub is_on : List ℕ → ℕ → Bool
is_on words g = bit_on (get_or words (g / 64) 0) (g % 64)

-- the set with g: its bit in its word, and the word's bit in the last one
unfoldable pub included : List ℕ → ℕ → List ℕ
included words g =
    let w = g / 64 in
    let words' = set words w (turned_on (get_or words w 0) (g % 64)) in
    set words' 64 (turned_on (get_or words' 64 0) w)

-- the set without g: its bit is off, and where its word has none left so is the word's bit in the last one
unfoldable pub cleared : List ℕ → ℕ → List ℕ
cleared words g =
    let w = g / 64 in
    let word = turned_off (get_or words w 0) (g % 64) in
    let words' = set words w word in
    pick (eqb word 0) (set words' 64 (turned_off (get_or words' 64 0) w)) words'

-- the set with a word of numbers where it had none: the word, and its bit in the last one where it has a bit on
unfoldable pub filled : List ℕ → ℕ → ℕ → List ℕ
filled words w word =
    let words' = set words w word in
    pick (eqb word 0) words' (set words' 64 (turned_on (get_or words' 64 0) w))

-- 64 words, a 65th in which a word's bit is on exactly where the word has one, and a 66th
pub record Topped (words : List ℕ) : Type 0 where
  pub long : length words ≡ WORDS
  pub small : (w : ℕ) → get_or words w 0 < 2 ^ 64
  pub tops : (w : ℕ) → w < 64 → bit_on (get_or words 64 0) w ≡ not (eqb (get_or words w 0) 0)

-- r is the first number from low on that passes a test, or high where none below high does
pub record NextOn (test : ℕ → Bool) (low high r : ℕ) : Type 0 where
  pub up : low ≤ r
  pub within : r ≤ high
  pub passed : (k : ℕ) → low ≤ k → k < r → test k ≡ false
  pub hit : r < high → test r ≡ true

-- a walk over a set has come to t: bit k of rest is on where number at + k, of at's word and not before t, is in the set; none from t up to at is
pub record Walking (words : List ℕ) (t at rest : ℕ) : Type 0 where
  pub few : at ≤ NUMBERS
  pub within : t ≤ (at / 64 + 1) * 64
  pub passed : (k : ℕ) → t ≤ k → k < at → is_on words k ≡ false
  pub gone : (k : ℕ) → at + k < t → bit_on rest k ≡ false
  pub ahead : (k : ℕ) → t ≤ at + k → (at + k) / 64 ≡ at / 64 → bit_on rest k ≡ is_on words (at + k)
  pub over : (k : ℕ) → at / 64 < (at + k) / 64 → bit_on rest k ≡ false

-- a word behind that of `at` has a member of the set
pub record Later (words : List ℕ) (at : ℕ) : Type 0 where
  pub member : ℕ
  pub behind : (at / 64 + 1) * 64 ≤ member
  pub within : member < NUMBERS
  pub on : is_on words member ≡ true

-- a walk can go on: something of the word is left, or a later one has a number
pub record Onward (words : List ℕ) (at rest : ℕ) : Type 0 where
  pub later : rest ≡ 0 → Later words at

-- a walk goes on, to a later word maybe, wherever it has come to; something is left then
pub record WalkedOn (words : List ℕ) (at rest at' rest' : ℕ) : Type 0 where
  pub kept : (t : ℕ) → Walking words t at rest → Walking words t at' rest'
  pub left : rest' ≡ 0 → ⊥
