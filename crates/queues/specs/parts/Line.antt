-- What a call keeps of each rack, in one list of numbers: where each kind stands, and how it is read. Assumes nothing: these are definitions.
use Rattle.std.specs.Prelude.{◌≡◌, List, ℕ, ◌+◌, length, get_or, take}

-- the queues
abbrev pub QUEUES : ℕ
QUEUES = 0

-- where each queue begins
abbrev pub HEADS : ℕ
HEADS = 4160

-- where each queue ends
abbrev pub TAILS : ℕ
TAILS = 4224

-- how many free slots each rack has
abbrev pub ROOMS : ℕ
ROOMS = 4288

-- how many numbers the line has
abbrev pub LINE : ℕ
LINE = 4352

-- which of the words beside the line has a bit for each rack that waits
abbrev pub WAITING : ℕ
WAITING = 65

-- a list of n zeros
pub record Blank (n : ℕ) (list : List ℕ) : Type 0 where
  pub zero : (k : ℕ) → get_or list k 0 ≡ 0
  pub long : length list ≡ n

-- the queues of all racks
unfoldable pub queue_of : List ℕ → List ℕ
queue_of line = take HEADS line

-- where rack p's queue begins
abbrev pub head_of : List ℕ → ℕ → ℕ
head_of line p = get_or line (HEADS + p) 0

-- where rack p's queue ends
abbrev pub tail_of : List ℕ → ℕ → ℕ
tail_of line p = get_or line (TAILS + p) 0

-- how many free slots rack p has
abbrev pub room_of : List ℕ → ℕ → ℕ
room_of line p = get_or line (ROOMS + p) 0
