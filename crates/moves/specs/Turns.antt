-- Moves one after another. Assumes nothing: these are definitions.
use Rattle.std.specs.Prelude.{◌≡◌, true, false, List, [], ◌∷◌, ℕ, ◌<◌}
use Rattle.counting.specs.Lists.{Pair}
use Rattle.racks.specs.Racks.{Rack, slots}
use Rattle.racks.specs.Table.{free}
use Rattle.plans.specs.Allowed.{Allowed}
use Rattle.moves.specs.Moves.{moved_places}

-- each move of a list is allowed when its turn comes
pub data InTurn (racks : List Rack) : List ℕ → List Pair → Type 0 where
  stop : {places : List ℕ} → InTurn racks places []
  next : {places : List ℕ} {m : Pair} {ms : List Pair} → Allowed racks places m → InTurn racks (moved_places m places) ms → InTurn racks places (m ∷ ms)

-- a card goes to a free slot, on any rack: both ends are slots, the source has a card, the target is free
pub record ToFree (racks : List Rack) (places : List ℕ) (m : Pair) : Type 0 where
  pub from_lt : m.0 < slots racks
  pub to_lt : m.1 < slots racks
  pub is_held : free places m.0 ≡ false
  pub is_free : free places m.1 ≡ true

-- each move of a list is to a slot that is free when its turn comes
pub data Moving (racks : List Rack) : List ℕ → List Pair → Type 0 where
  still : {places : List ℕ} → Moving racks places []
  move : {places : List ℕ} {m : Pair} {ms : List Pair} → ToFree racks places m → Moving racks (moved_places m places) ms → Moving racks places (m ∷ ms)
