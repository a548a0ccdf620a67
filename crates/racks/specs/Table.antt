-- "Racks, slots, tables": what an entry of the places table says, and what racks owe. Assumes nothing: these are definitions.
use Rattle.std.specs.Prelude.{Bool, not, List, ℕ, eqb, get_or}
use Rattle.counting.specs.Tests.{◌and◌}
use Rattle.counting.specs.Count.{count}
use Rattle.racks.specs.Limits.{FREE}
use Rattle.racks.specs.Racks.{Rack, slots, rack_of}

-- where the card in slot g must end: its entry; 65,535 where slot g has no card, or is no slot
abbrev pub dest : List ℕ → ℕ → ℕ
dest places g = get_or places g FREE

-- slot g is free
unfoldable pub free : List ℕ → ℕ → Bool
free places g = eqb (dest places g) FREE

-- the card in slot g is settled: its destination is its own slot
unfoldable pub settled : List ℕ → ℕ → Bool
settled places g = eqb (dest places g) g

-- the rack where the card in slot g must end
unfoldable pub rack_to : List Rack → List ℕ → ℕ → ℕ
rack_to racks places g = rack_of racks (dest places g)

-- slot g's card is on its rack
unfoldable pub on_rack : List Rack → List ℕ → ℕ → Bool
on_rack racks places g = eqb (rack_of racks g) (rack_to racks places g)

-- slot g has a card that is away: its destination is on another rack
unfoldable pub away : List Rack → List ℕ → ℕ → Bool
away racks places g = not (free places g) and not (on_rack racks places g)

-- how many cards are away
unfoldable pub aways : List Rack → List ℕ → ℕ
aways racks places = count (slots racks) (away racks places)

-- slot g has a card that is away to rack p
unfoldable pub away_to : List Rack → List ℕ → ℕ → ℕ → Bool
away_to racks places p g = away racks places g and eqb (rack_to racks places g) p

-- slot g is on rack i and has a card that is away to rack p
unfoldable pub bound : List Rack → List ℕ → ℕ → ℕ → ℕ → Bool
bound racks places i p g = away_to racks places p g and eqb (rack_of racks g) i

-- what rack i owes rack p: the cards now in i bound for p
unfoldable pub owes : List Rack → List ℕ → ℕ → ℕ → ℕ
owes racks places i p = count (slots racks) (bound racks places i p)

-- slot g is a free slot of rack p
unfoldable pub free_on : List Rack → List ℕ → ℕ → ℕ → Bool
free_on racks places p g = free places g and eqb (rack_of racks g) p

-- entry h names slot d
unfoldable pub names : List ℕ → ℕ → ℕ → Bool
names places d h = eqb (dest places h) d
