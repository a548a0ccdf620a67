-- The first-fit plan, on racks that each have a spare, is what the laws of phases ask for. Assumes nothing.
use mathlib.Core.List.{List}
use Rattle.racks.specs.Racks.{Rack}
use Rattle.racks.specs.parts.Legal.{Spared}
use Rattle.plans.proofs.Plans.{plan-allowed, plan-apart}
use Rattle.plans.proofs.Possible.{plan-some}
use Rattle.moves.proofs.Phases.{Planner, some-away}

-- its pairs are allowed moves, no two share an end, and by theorem 2 there is one while a card is away
pub first-fit : {racks : List Rack} → Spared racks → Planner racks
first-fit {racks} s =
    record {
      allowed = λ places l. plan-allowed racks places;
      apart = λ places l. plan-apart racks places;
      has_pair = λ places l e. let (g, k, a) = some-away racks places e in plan-some racks places l s g k a;
    }
