-- A numeral between two limits. Assumes nothing: these are definitions.
use Rattle.std.specs.Prelude.{List, [], ◌∷◌, ℕ, eqb, ltb}
use Rattle.counting.specs.Tests.{◌or◌, pick}
use Rattle.counting.specs.Checks.{first, known, done}
use Rattle.answers.specs.Answers.{Refusal}
use Rattle.numerals.specs.Numeral.{Got, refused, numeral}

-- a numeral read and checked: first its form, then by `bad`
unfoldable pub checked_numeral : (ℕ → ℕ) → List ℕ → ℕ → Got
checked_numeral bad file at =
    let x = numeral file at in
    let n = first (known x.number ∷ known (bad x.value) ∷ []) in
    pick (done n) x (refused n)

-- n for a numeral below `low` or above `high`
unfoldable pub outside : ℕ → ℕ → ℕ → ℕ → ℕ
outside low high n x = first ((ltb x low or ltb high x, n) ∷ [])

-- a numeral between two limits
unfoldable pub ranged : ℕ → ℕ → ℕ → List ℕ → ℕ → Got
ranged low high n = checked_numeral (outside low high n)

-- the place that goes with number n: that of the refusal whose number it is; a numeral that is refused for its form has none
unfoldable pub place_with : Refusal → ℕ → ℕ
place_with refusal n = pick (eqb n refusal.number) refusal.place 0
