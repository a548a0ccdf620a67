-- One slot of the pass that grants the cards, as the code makes it. Assumes nothing: these are definitions.
use Rattle.std.specs.Prelude.{◌≡◌, Bool, List, ℕ, ◌+◌, ◌*◌, ◌≤◌, ◌<◌, ltb, length, get_or, set}
use Rattle.counting.specs.Tests.{◌and◌, pick, bit}
use Rattle.racks.specs.Limits.{RACKS, SLOTS}
use Rattle.tables.specs.parts.Tables.{target, away_by, Aimed}

-- the target of slot g takes its card: it is away, and the target's share is not used up
unfoldable pub takes_card : List ℕ → List ℕ → ℕ → List ℕ → List ℕ → Bool
takes_card racking places g nexts stops =
    let p = target racking places g in
    away_by racking places g and ltb (get_or nexts p 0) (get_or stops p 0)

-- slot g can be looked at, in a racking for all slots: the target's next pair can be doubled in 16 bits, its share lies in the list, and the
-- list is not empty
pub record Grantable (racking places : List ℕ) (g : ℕ) (nexts stops lent : List ℕ) : Type 0 where
  pub aims : Aimed racking places g
  pub wide : SLOTS ≤ length racking
  pub few : get_or nexts (target racking places g) 0 ≤ SLOTS
  pub fits : 2 * get_or stops (target racking places g) 0 ≤ length lent
  pub some : 0 < length lent
  pub long : length nexts ≡ RACKS

-- what slot g leaves: where its card is taken, g is the first number of the target's next pair, and the pair behind that is next; else all stays
pub record CardGranted (racking places : List ℕ) (g : ℕ) (nexts stops lent : List ℕ) (one : ℕ) (nexts' lent' : List ℕ) : Type 0 where
  pub one-is : one ≡ bit (takes_card racking places g nexts stops)
  pub nexts-are : nexts' ≡ set nexts (target racking places g) (get_or nexts (target racking places g) 0 + bit (takes_card racking places g nexts stops))
  pub list : lent' ≡ pick (takes_card racking places g nexts stops) (set lent (2 * get_or nexts (target racking places g) 0) g) lent
