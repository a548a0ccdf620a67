-- "Numbers given back": the conditions of the rules' table as propositions, in its words and order, and the rows of each call. Assumes nothing: these are definitions.
-- N is `length racks`, m_p is `users racks p`, S is `slots racks`, entry g is `dest places g`, the rack of a slot is `rack_of racks`.
use Rattle.std.specs.Prelude.{◌≡◌, ◌≢◌, ◌⊎◌, List, [], ◌∷◌, ℕ, ◌+◌, ◌*◌, ◌≤◌, ◌<◌, length}
use Rattle.racks.specs.Racks.{Rack, users, total, base, slots, rack_of}
use Rattle.racks.specs.Table.{dest}
use Rattle.demands.specs.Rows.{Row}

-- slot g is a user slot: one of the first m_p of some rack p
abbrev pub UserSlot : List Rack → ℕ → Type 0
UserSlot racks g = (p : ℕ) × (p < length racks) × (base racks p ≤ g) × (g < base racks p + users racks p)

-- 1: N is 0 or above 64
abbrev pub WrongN : ℕ → Type 0
WrongN n = (n ≡ 0) ⊎ (64 < n)

-- 2: B is 0 or above 256
abbrev pub WrongB : ℕ → Type 0
WrongB b = (b ≡ 0) ⊎ (256 < b)

-- 3: some m_p above 1,023, or the total above 4,032
abbrev pub TooMany : List Rack → Type 0
TooMany racks = ((p : ℕ) × (p < length racks) × (1023 < users racks p)) ⊎ (4032 < total racks)

-- 4: places is not S long
abbrev pub WrongPlaces : List Rack → List ℕ → Type 0
WrongPlaces racks places = length places ≢ slots racks

-- 4: cards is not S·B long
abbrev pub WrongCards : List Rack → ℕ → List ℕ → Type 0
WrongCards racks b cards = length cards ≢ slots racks * b

-- entry g is bad: neither 65,535 nor a user slot
abbrev pub WrongAt : List Rack → List ℕ → ℕ → Type 0
WrongAt racks places g = (g < length places) × ((dest places g ≢ 65535) × (¬ UserSlot racks (dest places g)))

-- 5: an entry is neither 65,535 nor a user slot
abbrev pub WrongEntry : List Rack → List ℕ → Type 0
WrongEntry racks places = (g : ℕ) × WrongAt racks places g

-- 6: two entries name one slot
abbrev pub TwoNameOne : List ℕ → Type 0
TwoNameOne places = (g : ℕ) × (h : ℕ) × (g < length places) × (h < length places) × (g ≢ h) × (dest places g ≢ 65535) × (dest places g ≡ dest places h)

-- 7: a slot number in the call is S or more
abbrev pub NoSlot : List Rack → ℕ → Type 0
NoSlot racks g = slots racks ≤ g

-- 8: the source slot is free
abbrev pub SourceFree : List ℕ → ℕ → Type 0
SourceFree places from = dest places from ≡ 65535

-- 9: the source's card is on its rack already
abbrev pub SourceHome : List Rack → List ℕ → ℕ → Type 0
SourceHome racks places from = rack_of racks from ≡ rack_of racks (dest places from)

-- 10: the target is not on the card's destination rack
abbrev pub Elsewhere : List Rack → List ℕ → ℕ → ℕ → Type 0
Elsewhere racks places from to = rack_of racks to ≢ rack_of racks (dest places from)

-- 11: the target is not free
abbrev pub TargetTaken : List ℕ → ℕ → Type 0
TargetTaken places to = dest places to ≢ 65535

-- 12: a card is away: its destination is on another rack
abbrev pub CardAway : List Rack → List ℕ → Type 0
CardAway racks places = (g : ℕ) × (g < slots racks) × ((dest places g ≢ 65535) × (rack_of racks g ≢ rack_of racks (dest places g)))

-- 13, and 19 of the writer: the lent list is too short for what would be written
abbrev pub TooShort : List ℕ → List ℕ → Type 0
TooShort lent out = length lent < length out

-- the rows of a call that is lent a table
abbrev pub table_rows : List Rack → List ℕ → List Row
table_rows racks places =
    (1, WrongN (length racks))
    ∷ (3, TooMany racks)
    ∷ (4, WrongPlaces racks places)
    ∷ (5, WrongEntry racks places)
    ∷ (6, TwoNameOne places)
    ∷ []

-- the rows of a call that is lent the cards too
abbrev pub card_rows : List Rack → ℕ → List ℕ → List ℕ → List Row
card_rows racks b places cards =
    (1, WrongN (length racks))
    ∷ (2, WrongB b)
    ∷ (3, TooMany racks)
    ∷ (4, WrongPlaces racks places ⊎ WrongCards racks b cards)
    ∷ (5, WrongEntry racks places)
    ∷ (6, TwoNameOne places)
    ∷ []

-- the rows of a move's two ends
abbrev pub end_rows : List Rack → List ℕ → ℕ → ℕ → List Row
end_rows racks places from to =
    (7, NoSlot racks from ⊎ NoSlot racks to)
    ∷ (8, SourceFree places from)
    ∷ (9, SourceHome racks places from)
    ∷ (10, Elsewhere racks places from to)
    ∷ (11, TargetTaken places to)
    ∷ []
