-- The contracts of this layer's calls allow one outcome each. Assumes nothing.
use mathlib.Core.Path.{ap, sym, ◌∙◌}
use mathlib.Core.List.{List}
use Prim.Native.Nat.{ℕ}
use Rattle.std.specs.Prelude.{Ok, Err}
use Rattle.counting.specs.One.{One}
use Rattle.counting.specs.Checks.{first}
use Rattle.answers.specs.Answers.{Refusal}
use Rattle.answers.proofs.Answers.{refuses}
use Rattle.answers.proofs.One.{refusal-one}
use Rattle.racks.specs.Racks.{Rack, of_caps}
use Rattle.racks.specs.Numbers.{rack_checks, size_checks}
use Rattle.racks.specs.Job.{Made, JobOf, JobOfCards}

made-one : (racks : List Rack) (n : ℕ) → One (Made racks n)
made-one racks n (Ok j) (Ok k) p q = ap Ok (p.1 ∙ sym q.1)
made-one racks n (Ok j) (Err f) p q = absurd (refuses f (ap (λ (x : Refusal). x.number) q ∙ p.0))
made-one racks n (Err e) (Ok k) p q = absurd (refuses e (ap (λ (x : Refusal). x.number) p ∙ q.0))
made-one racks n (Err e) (Err f) p q = ap Err (refusal-one e f (p ∙ sym q))

pub job_of-one : (caps : List ℕ) → One (JobOf caps)
job_of-one caps = made-one (of_caps caps) (first (rack_checks (of_caps caps)))

pub job_of_cards-one : (caps : List ℕ) (b : ℕ) → One (JobOfCards caps b)
job_of_cards-one caps b = made-one (of_caps caps) (first (size_checks (of_caps caps) b))
