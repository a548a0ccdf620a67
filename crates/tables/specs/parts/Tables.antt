-- What the tables of bytes hold, and the refusal of a lent table, by the job. Assumes nothing: these are definitions.
use Rattle.std.specs.Prelude.{◌≡◌, Bool, not, List, ◌∷◌, ℕ, ◌*◌, ◌≤◌, ◌<◌, eqb, length, get_or}
use Rattle.counting.specs.Tests.{◌or◌, pick}
use Rattle.counting.specs.Checks.{first}
use Rattle.answers.specs.Answers.{Refusal}
use Rattle.racks.specs.Limits.{RACKS, BYTES, SLOTS, FREE}
use Rattle.racks.specs.Racks.{Rack, slots, rack_of}
use Rattle.racks.specs.Table.{dest}
use Rattle.racks.specs.parts.Legal.{Legal}
use Rattle.racks.specs.Numbers.{bad_bytes, bad_places, bad_cards, entry_checks, places_checks, refusal_in}
use Rattle.racks.specs.Job.{racks_of, Sound}
use Rattle.racks.specs.declared.Job.{Job}

-- the slot that entry x of slot g names; where slot g is free, itself
unfoldable pub named_slot : ℕ → ℕ → ℕ
named_slot g x = pick (eqb x FREE) g x

-- by each slot's rack: the rack where the card in slot g must end; where the slot is free, its own
unfoldable pub target : List ℕ → List ℕ → ℕ → ℕ
target racking places g = get_or racking (named_slot g (dest places g)) 0

-- by each slot's rack, slot g has a card that is away
unfoldable pub away_by : List ℕ → List ℕ → ℕ → Bool
away_by racking places g = not (eqb (get_or racking g 0) (target racking places g))

-- slot g can be looked at with the racking: it and the slot that its entry names (itself where it is free) are slots, and have racks there
pub record Aimed (racking places : List ℕ) (g : ℕ) : Type 0 where
  pub slot : g < length places
  pub small : g < SLOTS
  pub rack : get_or racking g 0 < RACKS
  pub named : named_slot g (dest places g) < SLOTS
  pub racked : target racking places g < RACKS

-- the racking: the list has each slot's rack
abbrev pub Filled : List Rack → List ℕ → Type 0
Filled racks racking = (g : ℕ) → g < slots racks → get_or racking g 0 ≡ rack_of racks g

-- the racking as it is filled: each slot's rack, in a list for all slots
pub record Racked (racks : List Rack) (racking : List ℕ) : Type 0 where
  pub filled : Filled racks racking
  pub long : length racking ≡ SLOTS

-- what acceptance gives: a sound job, a legal table, and each slot's rack in a list for all slots
pub record Open (job : Job) (places racking : List ℕ) : Type 0 where
  pub sound : Sound job
  pub legal : Legal (racks_of job) places
  pub filled : Filled (racks_of job) racking
  pub long : length racking ≡ SLOTS

-- and with cards: they are S·B bytes, and B is not too large
pub record OpenCards (job : Job) (b : ℕ) (places cards racking : List ℕ) : Type 0 where
  pub table : Open job places racking
  pub bytes : b ≤ BYTES
  pub long : length cards ≡ slots (racks_of job) * b

-- number n and its place in a table, by a job
abbrev pub refusal_by : Job → List ℕ → ℕ → Refusal
refusal_by job places n = refusal_in (racks_of job) places n

-- the number of a table, by a job: 4 to 6
unfoldable pub table_number : Job → List ℕ → ℕ
table_number job places = first (places_checks (racks_of job) places)

-- what the check of a table gives: the number and its place, and where the number is 0 a legal table
pub record Judged (job : Job) (places : List ℕ) (refusal : Refusal) : Type 0 where
  pub refusal_is : refusal ≡ refusal_by job places (table_number job places)
  pub legal : refusal.number ≡ 0 → Legal (racks_of job) places

-- what it gives with the racking: the number and its place, and where the number is 0 what acceptance gives
pub record Checked (job : Job) (places : List ℕ) (refusal : Refusal) (racking : List ℕ) : Type 0 where
  pub refusal_is : refusal ≡ refusal_by job places (table_number job places)
  pub opened : refusal.number ≡ 0 → Open job places racking

-- the number of a table and its cards, by a job, whatever b is: 4 to 6
unfoldable pub lent_number : Job → ℕ → List ℕ → List ℕ → ℕ
lent_number job b places cards =
    first ((bad_places (racks_of job) places or bad_cards (racks_of job) b cards, 4) ∷ entry_checks (racks_of job) places)

-- and where b is looked at too: 2, then 4 to 6
unfoldable pub cards_number : Job → ℕ → List ℕ → List ℕ → ℕ
cards_number job b places cards =
    first
    ((bad_bytes b, 2)
    ∷ (bad_places (racks_of job) places or bad_cards (racks_of job) b cards, 4)
    ∷ entry_checks (racks_of job) places)

-- what the check of a table and its cards gives: the number and its place, and where the number is 0 what acceptance gives
pub record CardsChecked (job : Job) (b : ℕ) (places cards : List ℕ) (refusal : Refusal) (racking : List ℕ) : Type 0 where
  pub refusal_is : refusal ≡ refusal_by job places (cards_number job b places cards)
  pub opened : refusal.number ≡ 0 → OpenCards job b places cards racking
