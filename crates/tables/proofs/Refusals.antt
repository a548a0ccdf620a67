-- A number and its place, by the job. Assumes nothing.
use mathlib.Core.Path.{◌≡◌, refl, ap, sym, ◌∙◌}
use mathlib.Core.List.{List, ◌∷◌}
use Prim.Native.Nat.{ℕ}
use Rattle.counting.specs.Checks.{Check, first, known}
use Rattle.counting.proofs.Checks.{known-here}
use Rattle.answers.specs.Answers.{Refusal, placeless}
use Rattle.racks.specs.Job.{racks_of}
use Rattle.racks.specs.declared.Job.{Job}
use Rattle.racks.proofs.Places.{NoPlace, place_none}
use Rattle.tables.specs.parts.Tables.{refusal_by}

module _ (job : Job) (places : List ℕ) where
  -- its number
  pub number_by : {x : Refusal} {n : ℕ} → x ≡ refusal_by job places n → x.number ≡ n
  number_by e = ap (λ (x : Refusal). x.number) e

  -- a number that is neither 5 nor 6 has no place
  pub placeless_by : (n m : ℕ) → NoPlace n → n ≡ m → placeless n ≡ refusal_by job places m
  placeless_by n m f e = sym (place_none (racks_of job) places n f) ∙ ap (refusal_by job places) e

  -- none is refused: 0, which has no place
  pub none_by : (n : ℕ) {x : Refusal} → x ≡ refusal_by job places n → x.number ≡ 0 → placeless 0 ≡ refusal_by job places n
  none_by n e z = placeless_by 0 n (refl, refl) (sym z ∙ number_by e)

  -- a refusal is given, whatever is checked after it
  pub kept_by : (n : ℕ) (rest : List Check) (x : Refusal) → x ≡ refusal_by job places n → (x.number ≡ 0 → ⊥) → x ≡ refusal_by job places (first (known n ∷ rest))
  kept_by n rest x e f = e ∙ ap (refusal_by job places) (sym (known-here n rest (λ z. f (number_by e ∙ z))))
