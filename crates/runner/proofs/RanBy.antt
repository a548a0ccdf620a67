-- The whole run by its job is the capacities'. Assumes nothing.
use mathlib.Core.Path.{◌≡◌}
use mathlib.Core.List.{List}
use Prim.Native.Nat.{ℕ}
use Rattle.std.specs.Prelude.{Err}
use Rattle.counting.specs.Checks.{first}
use Rattle.answers.specs.Answers.{placeless, refusal_of, answered}
use Rattle.answers.specs.declared.Refusal as given
use Rattle.racks.specs.Racks.{Rack, of_caps}
use Rattle.racks.specs.Numbers.{size_checks}
use Rattle.racks.specs.Job.{good_job}
use Rattle.racks.specs.declared.Job.{Job}
use Rattle.moves.specs.Moves.{Held, outcome_of}
use Rattle.carrying.proofs.Outcomes.{outcome-cards, outcome-sizes}
use Rattle.shuffle.specs.Shuffle.{settled_held}
use Rattle.runs.specs.Run.{gathered, counts, ran}
use Rattle.runner.specs.parts.Ran.{ran_by}

-- the whole run by a job made from capacities is the capacities'
pub ran_by_lem : (caps : List ℕ) (b : ℕ) (job : Job) → (first (size_checks (of_caps caps) b) ≡ 0) × (job ≡ good_job (of_caps caps)) → (h : Held) → ran_by job b h ≡ ran (of_caps caps) b h
unfolding ran_by ran
ran_by_lem caps b job m h = outcome-cards caps b job m (λ (r : List Rack). counts r b h) (λ (r : List Rack). settled_held r b (gathered r b h)) h

-- capacities, or B, that are refused give their refusal
pub ran-sizes : (caps : List ℕ) (b : ℕ) (e : given.Refusal) → refusal_of e ≡ placeless (first (size_checks (of_caps caps) b)) → (h : Held) → outcome_of (answered (Err e)) h.places h.cards ≡ ran (of_caps caps) b h
unfolding ran
ran-sizes caps b e is h = outcome-sizes caps b e is (counts (of_caps caps) b h) (settled_held (of_caps caps) b (gathered (of_caps caps) b h)) h
