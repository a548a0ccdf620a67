-- Budgeted moves by a job made from capacities are the capacities'. Assumes nothing.
use mathlib.Core.Path.{◌≡◌}
use mathlib.Core.List.{List}
use Prim.Native.Nat.{ℕ, min}
use Rattle.std.specs.Prelude.{Err}
use Rattle.counting.specs.Checks.{first}
use Rattle.answers.specs.Answers.{placeless, refusal_of, answered, moves_of}
use Rattle.answers.specs.declared.Refusal as given
use Rattle.racks.specs.Racks.{Rack, of_caps}
use Rattle.racks.specs.Table.{aways}
use Rattle.racks.specs.Numbers.{size_checks}
use Rattle.racks.specs.Job.{good_job}
use Rattle.racks.specs.declared.Job.{Job}
use Rattle.moves.specs.Moves.{Held, carried, outcome_of}
use Rattle.moves.specs.Phases.{budget, budgeted}
use Rattle.carrying.proofs.Outcomes.{outcome-cards, outcome-sizes}
use Rattle.budgets.specs.parts.Budgeted.{budgeted_by}

pub budgeted_by_lem : (caps : List ℕ) (b : ℕ) (job : Job) → (first (size_checks (of_caps caps) b) ≡ 0) × (job ≡ good_job (of_caps caps)) → (h : Held) (k : ℕ) → budgeted_by job b h k ≡ budgeted (of_caps caps) b h k
unfolding budgeted_by budgeted
budgeted_by_lem caps b job m h k =
    outcome-cards caps b job m (λ (r : List Rack). moves_of (min k (aways r h.places))) (λ (r : List Rack). carried b (budget r k h.places) h) h

-- capacities, or B, that are refused give their refusal
pub budgeted-sizes : (caps : List ℕ) (b : ℕ) (e : given.Refusal) → refusal_of e ≡ placeless (first (size_checks (of_caps caps) b)) → (h : Held) (k : ℕ) → outcome_of (answered (Err e)) h.places h.cards ≡ budgeted (of_caps caps) b h k
unfolding budgeted
budgeted-sizes caps b e is h k = outcome-sizes caps b e is (moves_of (min k (aways (of_caps caps) h.places))) (carried b (budget (of_caps caps) k h.places) h) h
