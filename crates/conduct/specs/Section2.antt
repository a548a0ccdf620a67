-- Section 2 of document 002: shifts, cycles and the copies that make them. Assumes nothing: these are statements; proofs/Section2 proves them.
use Rattle.std.specs.Prelude.{◌≡◌, ◌≢◌, List, [], ◌∷◌, ◌++◌, reverse, ℕ, ◌+◌, ◌*◌, ◌≤◌, ◌<◌, length}
use Rattle.counting.specs.Count.{count}
use Rattle.counting.specs.Lists.{Pair, join, each, matching, last}
use Rattle.counting.specs.Every.{All, Pairwise, In, Distinct}
use Rattle.racks.specs.Limits.{FREE, HAND}
use Rattle.racks.specs.Table.{dest}
use Rattle.moves.specs.Blocks.{block}
use Rattle.factors.specs.Copies.{copies, factors, copy_list}
use Rattle.factors.specs.Factors.{Before, unsettled, turning}
use Rattle.shuffle.specs.Shuffle.{brought}

-- slot x and the slots behind it: each slot's card goes to the next
abbrev pub Leads : List ℕ → ℕ → List ℕ → Type 0
Leads places x [] = Unit {0}
Leads places x (y ∷ l) = (dest places x ≡ y) × Leads places y l

-- the copies from each slot to the next, in the chain's order
unfoldable pub links : ℕ → List ℕ → List Pair
links x [] = []
links x (y ∷ l) = (x, y) ∷ links y l

-- a shift [x, ..]: no card goes to its first slot, its last is free; the last card is copied first; n slots cost n - 1 copies
pub record Shift (places : List ℕ) (x : ℕ) (l : List ℕ) : Type 0 where
  pub starts : (g : ℕ) → g < length places → dest places g ≢ x
  pub follows : Leads places x l
  pub ends : dest places (last x l) ≡ FREE
  pub copies-are : copies places (x ∷ l) ≡ reverse (links x l)
  pub cost : length (copies places (x ∷ l)) + 1 ≡ length (x ∷ l)

-- a cycle (x, y, ..): its first slot is its lowest, where the last one's card goes; that card is in the hand meanwhile; n slots cost n + 1 copies
pub record Cycle (places : List ℕ) (x y : ℕ) (l : List ℕ) : Type 0 where
  pub lowest : (v : ℕ) → In v (x ∷ y ∷ l) → x ≤ v
  pub follows : Leads places x (y ∷ l)
  pub ends : dest places (last y l) ≡ x
  pub copies-are : copies places (x ∷ y ∷ l) ≡ (last y l, HAND) ∷ reverse (links x (y ∷ l)) ++ (HAND, x) ∷ []
  pub cost : length (copies places (x ∷ y ∷ l)) ≡ length (x ∷ y ∷ l) + 1

-- a settled card gives no steps
pub record Settled (places : List ℕ) (x : ℕ) : Type 0 where
  pub stays : dest places x ≡ x
  pub none : copies places (x ∷ []) ≡ []

-- a factor is one of these; a lone free slot is a shift of one
pub data Factor (places : List ℕ) : List ℕ → Type 0 where
  is_shift : {x : ℕ} {l : List ℕ} → Shift places x l → Factor places (x ∷ l)
  is_cycle : {x y : ℕ} {l : List ℕ} → Cycle places x y l → Factor places (x ∷ y ∷ l)
  is_settled : {x : ℕ} → Settled places x → Factor places (x ∷ [])

-- the local redistribution of an accepted table: its copy list
pub record Redistribution (places : List ℕ) : Type 0 where
  -- it has the copies of the factors
  pub joined : copy_list places ≡ join (each (copies places) (factors places))
  pub each-is : All (Factor places) (factors places)
  -- every slot is in one factor, once; and factors come by their lowest slot
  pub every-slot : (x : ℕ) → x < length places → In x (join (factors places))
  pub no_other : (x : ℕ) → In x (join (factors places)) → x < length places
  pub once : Distinct (join (factors places))
  pub by-lowest : Pairwise Before (factors places)
  -- one copy for each card that is not settled and one more for each cycle; at most 3/2 S
  pub copies-count : length (copy_list places) ≡ count (length places) (unsettled places) + matching (turning places) (factors places)
  pub at_most : 2 * length (copy_list places) ≤ 3 * length places
  -- whatever the cards' bytes, it brings each card into its slot
  pub brings : (b : ℕ) (cards : List ℕ) → length cards ≡ length places * b → (g d : ℕ) → g < length places → dest places g ≡ d → d ≢ FREE
      → block b d (brought b places cards) ≡ block b g cards
