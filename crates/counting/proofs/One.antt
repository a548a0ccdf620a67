-- Laws of contracts that allow one outcome. Assumes nothing.
use mathlib.Core.Path.{◌≡◌, ap, sym, ◌∙◌}
use Rattle.counting.specs.One.{One}

-- what is equal to one outcome is one
pub one-is : {A : Type 0} (z : A) → One (λ (x : A). x ≡ z)
one-is z x y p q = p ∙ sym q

-- two that f tells alike are one: it tells all that there is of them
abbrev pub OneToOne : {A B : Type 0} → (A → B) → Type 0
OneToOne {A} f = (x y : A) → f x ≡ f y → x ≡ y

-- what is told by such an f is one where what is told is
pub one_told : {A B : Type 0} (f : A → B) → OneToOne f → {allowed : B → Type 0} → One allowed → One (λ (x : A). allowed (f x))
one_told f same o x y p q = same x y (o (f x) (f y) p q)

-- f tells all of what can be read back from what it tells
pub read-back : {A B : Type 0} (f : A → B) (back : B → A) → ((x : A) → back (f x) ≡ x) → OneToOne f
read-back f back i x y e = sym (i x) ∙ ap back e ∙ i y

pub one_by : {A B : Type 0} (f : A → B) (back : B → A) → ((x : A) → back (f x) ≡ x) → {allowed : B → Type 0} → One allowed → One (λ (x : A). allowed (f x))
one_by f back i = one_told f (read-back f back i)
