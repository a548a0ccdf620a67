-- Each target's share of the plan: its pairs stand together, behind those of the targets before it. Assumes nothing: these are definitions.
use Rattle.std.specs.Prelude.{◌≡◌, List, ℕ, ◌+◌, ◌<◌, length, get_or, take}
use Rattle.counting.specs.Count.{sum, select}
use Rattle.racks.specs.Limits.{RACKS}
use Rattle.racks.specs.Racks.{Rack}
use Rattle.racks.specs.Table.{away_to}
use Rattle.plans.specs.Plan.{open_slots, plan_for, plan}

-- how many pairs target p has
unfoldable pub share_of : List Rack → List ℕ → ℕ → ℕ
share_of racks places p = length (plan_for racks places p)

-- where its share begins, counted in pairs: behind those of the targets before it
unfoldable pub start_of : List Rack → List ℕ → ℕ → ℕ
start_of racks places p = sum p (share_of racks places)

-- of the first g slots those whose cards target p takes: the lowest with a card away to it, as many as its share has pairs
unfoldable pub cards_to : List Rack → List ℕ → ℕ → ℕ → List ℕ
cards_to racks places g p = take (share_of racks places p) (select g (away_to racks places p))

-- the free slots that these cards take, from the lowest up
unfoldable pub opens_to : List Rack → List ℕ → ℕ → List ℕ
opens_to racks places p = take (share_of racks places p) (open_slots racks places p)

-- the list says where each target's share stops
pub record Stopped (racks : List Rack) (places stops : List ℕ) : Type 0 where
  pub stops-are : (p : ℕ) → p < length racks → get_or stops p 0 ≡ start_of racks places (p + 1)
  pub long : length stops ≡ RACKS

-- the lists say where each target's next pair stands, which is where its share begins, and where its share stops; `pairs` is how many there are
pub record Shared (racks : List Rack) (places nexts stops : List ℕ) (pairs : ℕ) : Type 0 where
  pub starts-are : (p : ℕ) → p < length racks → get_or nexts p 0 ≡ start_of racks places p
  pub long : length nexts ≡ RACKS
  pub stopped : Stopped racks places stops
  pub all : pairs ≡ length (plan racks places)
