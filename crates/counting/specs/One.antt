-- What a contract leaves open. Assumes nothing: these are definitions.
use Rattle.std.specs.Prelude.{◌≡◌}

-- any two that are allowed are equal
abbrev pub One : {A : Type 0} → (A → Type 0) → Type 0
One {A} allowed = (x y : A) → allowed x → allowed y → x ≡ y

-- any two that are allowed are seen as equal
abbrev pub OneSeen : {A B : Type 0} → (A → B) → (A → Type 0) → Type 0
OneSeen {A} seen allowed = (x y : A) → allowed x → allowed y → seen x ≡ seen y
