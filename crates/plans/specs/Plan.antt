-- "Phase plan." Assumes nothing: these are definitions.
use Rattle.std.specs.Prelude.{Bool, not, List, [], ◌∷◌, ◌++◌, ◌≡◌, ℕ, ◌-◌, min, eqb, length, take}
use Rattle.counting.specs.Count.{count, select}
use Rattle.counting.specs.Lists.{Pair, tabulate, join, pair_up, flat}
use Rattle.counting.specs.Checks.{Check, first}
use Rattle.answers.specs.declared.Answer.{Answer}
use Rattle.racks.specs.Racks.{Rack, slots, of_caps}
use Rattle.racks.specs.Table.{bound, owes, free_on}
use Rattle.racks.specs.Numbers.{table_checks, too_short, refusal_in}
use Rattle.answers.specs.Answers.{moves_of, Listed, listed, listed_of}

-- rack i is another than p
unfoldable pub other : ℕ → ℕ → Bool
other p i = not (eqb i p)

-- the sources of rack p: the racks other than p, in ascending order
unfoldable pub sources : List Rack → ℕ → List ℕ
sources racks p = select (length racks) (other p)

-- of the cards in rack i bound for rack p, those in the n lowest slots
unfoldable pub lowest : List Rack → List ℕ → ℕ → ℕ → ℕ → List ℕ
lowest racks places p n i = take n (select (slots racks) (bound racks places i p))

-- the slots that rack p, with r free slots to give, grants the sources in turn: min(r, cards in i bound for p) to source i, and r falls by that
unfoldable pub granted : List Rack → List ℕ → ℕ → ℕ → List ℕ → List ℕ
granted racks places p r [] = []
granted racks places p r (i ∷ is) =
    let n = min r (owes racks places i p) in
    lowest racks places p n i ++ granted racks places p (r - n) is

-- the free slots of rack p at the start of the phase, from the lowest up; the spare counts
unfoldable pub open_slots : List Rack → List ℕ → ℕ → List ℕ
open_slots racks places p = select (slots racks) (free_on racks places p)

-- r: how many they are
unfoldable pub room : List Rack → List ℕ → ℕ → ℕ
room racks places p = count (slots racks) (free_on racks places p)

-- the cards that arrive at rack p, by source rack and then by source slot
unfoldable pub arrivals : List Rack → List ℕ → ℕ → List ℕ
arrivals racks places p = granted racks places p (room racks places p) (sources racks p)

-- the pairs of target p: the arriving cards take its free slots from the lowest up
unfoldable pub plan_for : List Rack → List ℕ → ℕ → List Pair
plan_for racks places p = pair_up (arrivals racks places p) (open_slots racks places p)

-- the plan of a phase: by target rack, source rack, source slot
unfoldable pub plan : List Rack → List ℕ → List Pair
plan racks places = join (tabulate (length racks) (plan_for racks places))

-- 1, 3 to 6, and 13
unfoldable pub plan_checks : List Rack → List ℕ → List ℕ → List Check
plan_checks racks places lent = table_checks racks places ++ (too_short lent (flat (plan racks places)), 13) ∷ []

-- **Phase plan.** The moves count is the number of pairs
unfoldable pub planned : List Rack → List ℕ → List ℕ → Listed
planned racks places lent =
    let n = first (plan_checks racks places lent) in
    let pairs = plan racks places in
    listed (refusal_in racks places n) (moves_of (length pairs)) (flat pairs) lent

-- the contract of `phase_plan`: what it gives, and the lent list at exit
abbrev pub PhasePlan : List ℕ → List ℕ → List ℕ → Answer → List ℕ → Type 0
PhasePlan caps places lent r lent' = listed_of r lent' ≡ planned (of_caps caps) places lent
