-- Spans of slots: the entries that lie in a range, and their slots put into a list of pairs. Assumes nothing: these are definitions.
use Rattle.std.specs.Prelude.{◌≡◌, Bool, List, ℕ, ◌+◌, ◌-◌, ◌*◌, ◌≤◌, leb, ltb, length}
use Rattle.counting.specs.Tests.{◌and◌, pick}
use Rattle.counting.specs.Count.{count, least}
use Rattle.counting.specs.Lists.{column}
use Rattle.racks.specs.Limits.{SLOTS, FREE}
use Rattle.racks.specs.Table.{dest}
use Rattle.spans.specs.declared.parts.Range.{Range}
use Rattle.spans.specs.declared.parts.Hits.{Hits}

-- how far x lies behind first, where 0 follows on 65,535
unfoldable pub behind : ℕ → ℕ → ℕ
behind first x = pick (leb first x) (x - first) (x + (65535 - first) + 1)

-- x lies in the range: not before its first number, and less than its width behind it
unfoldable pub lies : Range → ℕ → Bool
lies range x = leb range.first x and ltb (x - range.first) range.width

-- the range's last number is 65,535 at the most
abbrev pub RangeFits : Range → Type 0
RangeFits range = range.first + range.width ≤ 65536

-- the entries of the cards bound for the rack from first up to end
abbrev pub range_of : ℕ → ℕ → Range
range_of first end = record { first = first; width = end - first }

-- the entry of a free slot, and no other
abbrev pub free_range : Range
free_range = record { first = FREE; width = 1 }

-- slot g's entry lies in the range
unfoldable pub entry_in : List ℕ → Range → ℕ → Bool
entry_in places range g = lies range (dest places g)

-- what the n slots from low on have of a range: how many, and how far from low the lowest is; n where there is none
abbrev pub hits_in : List ℕ → Range → ℕ → ℕ → Hits
hits_in places range low n =
    record { count = count n (λ j. entry_in places range (low + j)); lowest = least n (λ j. entry_in places range (low + j)) }

-- the slots of a span can be put into the pairs before stop
pub record Puttable (places : List ℕ) (range : Range) (low n : ℕ) (lent : List ℕ) (stop : ℕ) : Type 0 where
  pub within : low + n ≤ length places
  pub small : length places ≤ SLOTS
  pub fits : RangeFits range
  pub room : 2 * stop ≤ length lent

-- slots put into the list as first numbers of the pairs from k on, and the next pair
pub record SlotsPut (before : List ℕ) (k : ℕ) (slots : List ℕ) (next : ℕ) (after : List ℕ) : Type 0 where
  pub list : after ≡ column 0 before k slots
  pub next-is : next ≡ k + length slots

-- how many of the n slots from low on have an entry that lies in the range
unfoldable pub entries_in : List ℕ → Range → ℕ → ℕ → ℕ
entries_in places range low n = count n (λ j. entry_in places range (low + j))
