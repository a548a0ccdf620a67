-- Laws of the place that goes with a number. Assumes nothing.
use mathlib.Core.Path.{◌≡◌, refl}
use mathlib.Core.Bool.{Bool, false}
use mathlib.Core.List.{List, [], ◌∷◌}
use Prim.Native.Nat.{ℕ}
use lib.Dec.{eqb}
use Rattle.counting.specs.Checks.{first}
use Rattle.counting.proofs.Checks.{first_of, first-end}
use Rattle.answers.specs.Answers.{placeless}
use Rattle.racks.specs.Racks.{Rack}
use Rattle.racks.specs.Numbers.{refusal_in}

-- n is neither 5 nor 6
abbrev pub NoPlace : ℕ → Type 0
NoPlace n = (eqb n 5 ≡ false) × (eqb n 6 ≡ false)

-- such a number has no place
pub place_none : (racks : List Rack) (places : List ℕ) (n : ℕ) → NoPlace n → refusal_in racks places n ≡ placeless n
place_none racks places n f = rw (f.0, f.1)

-- nor has a check alone of such a number
pub placeless-alone : (b : Bool) (n : ℕ) → NoPlace n → NoPlace (first ((b, n) ∷ []))
placeless-alone b n p = first_of NoPlace b n [] (λ _. p) (first-end NoPlace (refl, refl))
