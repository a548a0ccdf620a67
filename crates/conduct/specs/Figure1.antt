-- The plan as figure 1 of document 001 has it: computeMoves' numbers, and the slots that the rules give them. Assumes nothing: these are definitions.
use Rattle.std.specs.Prelude.{List, ℕ, length, take}
use Rattle.counting.specs.Count.{select}
use Rattle.counting.specs.Lists.{Pair, tabulate, join, pair_up}
use Rattle.racks.specs.Racks.{Rack, slots}
use Rattle.racks.specs.Table.{away_to, bound, owes}
use Rattle.plans.specs.Plan.{open_slots, room}
use Rattle.conduct.specs.Figure1Loop.{recv}

-- in[i] on rack p
unfoldable pub due_to : List Rack → List ℕ → ℕ → ℕ → ℕ
due_to racks places p i = owes racks places i p

-- of the cards in rack i bound for rack p, the recv[i] in the lowest slots; r starts from p's free slots
unfoldable pub received : List Rack → List ℕ → ℕ → ℕ → List ℕ
received racks places p i = take (recv (room racks places p) (due_to racks places p) i) (select (slots racks) (bound racks places i p))

-- what rack p receives, from rack 0 to rack N - 1, into its free slots from the lowest up
unfoldable pub figure1_for : List Rack → List ℕ → ℕ → List Pair
figure1_for racks places p = pair_up (join (tabulate (length racks) (received racks places p))) (open_slots racks places p)

-- and all racks so
unfoldable pub figure1 : List Rack → List ℕ → List Pair
figure1 racks places = join (tabulate (length racks) (figure1_for racks places))

-- the same by slots alone: the cards away to p, ascending, with p's free slots, ascending, as far as both go
unfoldable pub by_slot_for : List Rack → List ℕ → ℕ → List Pair
by_slot_for racks places p = pair_up (select (slots racks) (away_to racks places p)) (open_slots racks places p)

unfoldable pub by_slot : List Rack → List ℕ → List Pair
by_slot racks places = join (tabulate (length racks) (by_slot_for racks places))
