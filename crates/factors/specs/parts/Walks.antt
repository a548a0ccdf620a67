-- What the walks through factors promise: the sources in a table, marks, the slots that follow. Assumes nothing: these are definitions.
use Rattle.std.specs.Prelude.{◌≡◌, ◌≢◌, ◌⊎◌, List, [], ◌∷◌, ◌++◌, ℕ, zero, suc, ◌+◌, ◌≤◌, ◌<◌, eqb, length, get_or, set}
use Rattle.counting.specs.Tests.{pick}
use Rattle.counting.specs.Lists.{Pair, among, last}
use Rattle.racks.specs.Limits.{FREE, HAND, SLOTS, SOURCES}
use Rattle.racks.specs.Table.{dest}
use Rattle.tables.specs.parts.Tables.{named_slot}
use Rattle.factors.specs.Copies.{source, onward, back, shift, factor, copies}

-- the mark of a slot whose copies are counted or made: no rack has this number, so that the racking serves as marks, uncleared
abbrev pub COUNTED : ℕ
COUNTED = 64

-- the mark of a slot whose copies are listed: no rack has this number, so that the racking serves as marks, uncleared
abbrev pub LISTED : ℕ
LISTED = 65

-- how many slots the recursion along a chain goes through at a time
abbrev pub STRETCH : ℕ
STRETCH = 128

-- a list for the sources of n slots, as it is made or cleared: no card comes to any of them
pub record NoSources (n : ℕ) (noted : List ℕ) : Type 0 where
  pub none : (d : ℕ) → d < n → get_or noted d 0 ≡ FREE
  pub long : SOURCES ≤ length noted

-- the list has, for each slot, the slot whose card is bound for it: the inverse of the places table; a place behind all slots is for what comes from free ones
pub record Sources (places noted : List ℕ) : Type 0 where
  pub sources : (d : ℕ) → d < length places → get_or noted d 0 ≡ source places d
  pub long : SOURCES ≤ length noted

-- the notes with slot g as the source of slot x; behind all slots where x is 65,535
unfoldable pub put_source : List ℕ → ℕ → ℕ → List ℕ
put_source noted x g = set noted (named_slot SLOTS x) g

-- the n slots that follow x by f
unfoldable pub steps : (ℕ → ℕ) → ℕ → ℕ → List ℕ
steps f zero x = []
steps f (suc n) x = f x ∷ steps f n (f x)

-- the slot that is n steps after x by f
unfoldable pub stepped : (ℕ → ℕ) → ℕ → ℕ → ℕ
stepped f zero x = x
stepped f (suc n) x = stepped f n (f x)

-- x and the n slots that follow it are slots of the table
unfoldable pub Inside : List ℕ → ℕ → ℕ → Type 0
Inside places zero x = x < length places
Inside places (suc n) x = (x < length places) × Inside places n (dest places x)

-- the copies of n slots after h, the last card first; where `end` is a slot, its card goes to the hand before them and from there to h after them
unfoldable pub walked : List ℕ → ℕ → ℕ → ℕ → List Pair
walked places h n end = pick (eqb end FREE) (shift h (steps (dest places) n h)) ((end, HAND) ∷ shift h (steps (dest places) n h) ++ (HAND, h) ∷ [])

-- how many they are
unfoldable pub walk_count : ℕ → ℕ → ℕ
walk_count n end = pick (eqb end FREE) n (n + 2)

-- the slot whose card goes to the hand, by the slot whose card comes to the first, and the n slots that follow: on a lone slot none
unfoldable pub hand_end : ℕ → ℕ → ℕ
hand_end from n = pick (eqb n 0) FREE from

-- these slots have the mark, all others are as they were
pub record Marked (mark : ℕ) (slots before after : List ℕ) : Type 0 where
  pub marks : (v : ℕ) → get_or after v 0 ≡ pick (among v slots) mark (get_or before v 0)
  pub long : length after ≡ length before

-- some slots have the mark, all others are as they were
pub record SomeMarked (mark : ℕ) (before after : List ℕ) : Type 0 where
  pub slots : List ℕ
  pub marked : Marked mark slots before after

-- no slot of the table has this mark
pub record Unmarked (places : List ℕ) (mark : ℕ) (seen : List ℕ) : Type 0 where
  pub none : (v : ℕ) → v < length places → get_or seen v 0 ≢ mark
  pub long : length seen ≡ SLOTS

-- the slots that follow slot h by a table, marked: the last of them, how many they are, and the entry there
pub record Passed (table : List ℕ) (mark h : ℕ) (seen : List ℕ) (head left end : ℕ) (marks : List ℕ) : Type 0 where
  pub head-is : head ≡ last h (onward table h)
  pub left_is : left ≡ length (onward table h)
  pub end_is : end ≡ dest table (last h (onward table h))
  pub marked : Marked mark (onward table h) seen marks

-- the way on from slot h, marked: it comes to h again, and `end` is the last slot where that is another, or it ends at a free slot
pub record MarkedOn (places : List ℕ) (mark h : ℕ) (seen : List ℕ) (head left end : ℕ) (marks : List ℕ) : Type 0 where
  pub head-is : head ≡ h
  pub left_is : left ≡ length (onward places h)
  pub ends : ((dest places (last h (onward places h)) ≡ h) × (end ≡ hand_end (last h (onward places h)) left)) ⊎ ((dest places (last h (onward places h)) ≡ FREE) × (end ≡ FREE))
  pub marked : Marked mark (h ∷ onward places h) seen marks

-- the way back from slot k, marked
pub record MarkedBack (places : List ℕ) (mark k : ℕ) (seen : List ℕ) (head left : ℕ) (marks : List ℕ) : Type 0 where
  pub head-is : head ≡ last k (back places k)
  pub left_is : left ≡ length (back places k)
  pub marked : Marked mark (back places k) seen marks

-- the walk through the factor of slot k: its first slot, how many follow, whose card goes to the hand; its slots are marked
pub record Walked (places : List ℕ) (mark k : ℕ) (seen : List ℕ) (head left end : ℕ) (marks : List ℕ) : Type 0 where
  pub copies-are : copies places (factor places k) ≡ walked places head left end
  pub inside : Inside places left head
  pub held : end ≢ FREE → end < length places
  pub marked : Marked mark (factor places k) seen marks
