-- Members of a list: every one meets P, every two in their order meet R; a number is one, none comes twice. Assumes nothing: these are definitions.
use Rattle.std.specs.Prelude.{◌≡◌, ◌⊎◌, List, [], ◌∷◌, ℕ}

-- every member meets P
pub data All {A : Type 0} (P : A → Type 0) : List A → Type 0 where
  none : All P []
  more : {x : A} {l : List A} → P x → All P l → All P (x ∷ l)

-- every member stands in R to each that comes after it
pub data Pairwise {A : Type 0} (R : A → A → Type 0) : List A → Type 0 where
  end : Pairwise R []
  link : {x : A} {l : List A} → All (R x) l → Pairwise R l → Pairwise R (x ∷ l)

-- x is a member
abbrev pub In : ℕ → List ℕ → Type 0
In x [] = ⊥
In x (y ∷ l) = (x ≡ y) ⊎ In x l

-- no member comes twice
abbrev pub Distinct : List ℕ → Type 0
Distinct [] = Unit {0}
Distinct (x ∷ l) = (¬ In x l) × Distinct l
