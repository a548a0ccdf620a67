-- Laws of numerals read and checked one after another. Assumes nothing.
use mathlib.Core.Path.{◌≡◌, refl, ap, sym, subst, ◌∙◌}
use mathlib.Core.Bool.{true, false, not}
use mathlib.Core.List.{List, [], ◌∷◌, ◌++◌}
use Prim.Native.Nat.{ℕ, zero, suc, ◌+◌, ◌<◌, ◌≤◌}
use native.Mathlib.Omega.{arith}
use native.Mathlib.Nat.{suc-add}
use native.Mathlib.Decide.{ℕ_discrete, dec_le}
use lib.Dec.{eqb, ltb}
use borrow.Author.Tests.{eq-eqb, ne_eqb, eqb-true, eqb-false, lt-ltb, le-ltb}
use Rattle.counting.specs.Checks.{first, known, done}
use Rattle.counting.proofs.Tests.{pick_same, by-test, or_l, or_r, or-none}
use Rattle.counting.proofs.Checks.{first-here, first-later, first-none, first_of}
use Rattle.numerals.specs.Numeral.{Got, refused, numeral, Numerals, numerals}
use Rattle.answers.specs.Answers.{Refusal, placeless, refusal_of}
use Rattle.answers.specs.declared.Refusal as given
use Rattle.answers.specs.declared.Refusal.TheVariants as case
use Rattle.numerals.specs.parts.Bounds.{checked_numeral, outside, place_with}
use Rattle.numerals.proofs.Groups.{next-some, groups-number}

-- a numeral read, its value and the position behind it
abbrev pub got : ℕ → ℕ → Got
got v p = record { number = 0; value = v; next = p }

-- the numerals stopped by a refusal
abbrev pub stopped : ℕ → Numerals
stopped n = record { number = n; values = []; next = 0 }

-- the numerals read
abbrev pub reading : List ℕ → ℕ → Numerals
reading values next = record { number = 0; values = values; next = next }

-- two refusals in their order
abbrev pub either : ℕ → ℕ → ℕ
either a b = first (known a ∷ known b ∷ [])

either_l : (a b : ℕ) → (a ≡ 0 → ⊥) → either a b ≡ a
either_l a b f = first-here _ a _ (ap not (ne_eqb a 0 f))

-- a refusal alone
pub alone : (b : ℕ) → first (known b ∷ []) ≡ b
unfolding first
alone b = elim (ℕ_discrete b 0) [ yes e ↦ rw e | no f ↦ rw (ne_eqb b 0 f) ]

either_r : (b : ℕ) → either 0 b ≡ b
unfolding first
either_r b = alone b

-- where neither refuses, both are 0
pub either-0 : (a b : ℕ) → either a b ≡ 0 → (a ≡ 0) × (b ≡ 0)
either-0 a b z = elim (ℕ_discrete a 0) [
  | no f ↦ absurd (f (sym (either_l a b f) ∙ z))
  | yes e ↦ (e, sym (either_r b) ∙ ap (λ (n : ℕ). either n b) (sym e) ∙ z)
]

-- a refusal whose number is neither 5 nor 6 has no place
no_place : (e : given.Refusal) → ((refusal_of e).number ≡ 5 → ⊥) → ((refusal_of e).number ≡ 6 → ⊥) → (refusal_of e).place ≡ 0
no_place case.BadCount f g = refl
no_place case.BadBytes f g = refl
no_place case.BadSize f g = refl
no_place case.BadLength f g = refl
no_place (case.BadEntry entry) f g = absurd (f refl)
no_place (case.NamedTwice entry) f g = absurd (g refl)
no_place case.NoSlot f g = refl
no_place case.SourceFree f g = refl
no_place case.SourceHome f g = refl
no_place case.Elsewhere f g = refl
no_place case.TargetTaken f g = refl
no_place case.SomeAway f g = refl
no_place case.TooShort f g = refl
no_place case.FileForm f g = refl
no_place case.FileEnds f g = refl
no_place case.FileLeftOver f g = refl
no_place case.FileRoom f g = refl
no_place case.FileLarge f g = refl
no_place case.BufferShort f g = refl
no_place case.FileGroups f g = refl

module _ (file : List ℕ) (at : ℕ) where
  -- a refusal is no 0
  refused-some : (n : ℕ) → refused n ≡ numeral file at → n ≡ 0 → ⊥
  unfolding numeral
  refused-some n e z =
      omega (arith, next-some 3 file at 0 1 (sym (ap (λ (g : Got). g.number) e) ∙ z), ap (λ (g : Got). g.next) e)

  -- what a numeral is refused with for its form has no place
  form-number : (n : ℕ) → refused n ≡ numeral file at → (n ≡ 5 → ⊥) × (n ≡ 6 → ⊥)
  unfolding numeral
  form-number n e =
      subst (λ (m : ℕ). (m ≡ 5 → ⊥) × (m ≡ 6 → ⊥)) (sym (ap (λ (g : Got). g.number) e))
      (groups-number (λ m. (m ≡ 5 → ⊥) × (m ≡ 6 → ⊥)) (λ z. omega arith, λ z. omega arith) (λ z. omega arith, λ z. omega arith) (λ z. omega arith, λ z. omega arith) (λ z. omega arith, λ z. omega arith) 3 file at 0 1)

  pub form-place : (e x : given.Refusal) → refused (refusal_of e).number ≡ numeral file at → (refusal_of e).place ≡ place_with (refusal_of x) (refusal_of e).number
  unfolding place_with
  form-place e x is =
      let n = (refusal_of e).number in
      let k = form-number n is in
      no_place e k.0 k.1
      ∙ by-test (eqb n (refusal_of x).number)
      (λ t. let q = eqb-true n (refusal_of x).number t in rw t (sym (no_place x (λ z. k.0 (q ∙ z)) (λ z. k.1 (q ∙ z)))))
      (λ t. rw t)

  module _ (bad : ℕ → ℕ) where
    -- what a numeral gives that is refused by its form, that passes, and that is bad
    pub checked-form : (n : ℕ) → refused n ≡ numeral file at → refused n ≡ checked_numeral bad file at
    unfolding checked_numeral
    checked-form n e = rw (← e, either_l n (bad 0) (refused-some n e), ne_eqb n 0 (refused-some n e))

    -- it passes
    pub checked_value : (v p : ℕ) → got v p ≡ numeral file at → bad v ≡ 0 → got v p ≡ checked_numeral bad file at
    unfolding checked_numeral
    checked_value v p e z = rw (← e, either_r (bad v), z)

    -- it is bad
    pub checked-bad : (v p n : ℕ) → got v p ≡ numeral file at → bad v ≡ n → (n ≡ 0 → ⊥) → refused n ≡ checked_numeral bad file at
    unfolding checked_numeral
    checked-bad v p n e b f = rw (← e, either_r (bad v), b, ne_eqb n 0 f)

  module _ (f : ℕ → ℕ) where
    -- the number that it is refused with
    abbrev with-f : ℕ
    with-f = either (numeral file at).number (f (numeral file at).value)

    checked-done : done with-f ≡ true → checked_numeral f file at ≡ numeral file at
    unfolding checked_numeral
    checked-done t = rw t

    checked_not : done with-f ≡ false → checked_numeral f file at ≡ refused with-f
    unfolding checked_numeral
    checked_not t = rw t

    -- back again: a numeral that passes was read, and is not bad
    pub passed-numeral : (v p : ℕ) → got v p ≡ checked_numeral f file at → got v p ≡ numeral file at
    passed-numeral v p e = by-test (done with-f)
        (λ t. e ∙ checked-done t)
        (λ t. absurd (eqb-false with-f 0 t (sym (ap (λ (g : Got). g.number) (e ∙ checked_not t)))))

    -- it is not bad
    pub passed-good : (v p : ℕ) → got v p ≡ checked_numeral f file at → f v ≡ 0
    passed-good v p e = by-test (done with-f)
        (λ t. sym (either_r (f v)) ∙ ap (λ (g : Got). either g.number (f g.value)) (e ∙ checked-done t) ∙ eqb-true with-f 0 t)
        (λ t. absurd (eqb-false with-f 0 t (sym (ap (λ (g : Got). g.number) (e ∙ checked_not t)))))

    -- one that is refused is refused by its form or is bad
    pub refused_by : (n : ℕ) → refused n ≡ checked_numeral f file at → (n ≡ with-f) × (n ≡ 0 → ⊥)
    refused_by n e = by-test (done with-f)
        (λ t. let q = e ∙ checked-done t in (sym (either_l n (f 0) (refused-some n q)) ∙ ap (λ (g : Got). either g.number (f g.value)) q, refused-some n q))
        (λ t. let q : n ≡ with-f = ap (λ (g : Got). g.number) (e ∙ checked_not t) in (q, λ z. eqb-false with-f 0 t (sym q ∙ z)))

  module _ (bad : List ℕ → ℕ → ℕ) (left : ℕ) (before : List ℕ) where
    -- one numeral more, by what it gives
    pub numerals-on : (v p : ℕ) → got v p ≡ numeral file at → bad before v ≡ 0 → numerals bad (suc left) file at before ≡ numerals bad left file p (before ++ v ∷ [])
    unfolding numerals
    numerals-on v p e z = rw (← e, either_r (bad before v), z)

    numerals_wrong : (v p m : ℕ) → got v p ≡ numeral file at → bad before v ≡ m → (m ≡ 0 → ⊥) → numerals bad (suc left) file at before ≡ stopped m
    unfolding numerals
    numerals_wrong v p m e b f = rw (← e, either_r (bad before v), b, ne_eqb m 0 f)

    -- the numeral stops them where the code's check f refuses it, and what f refuses is bad
    module _ (f : ℕ → ℕ) (as-bad : (v : ℕ) → (f v ≡ 0 → ⊥) → bad before v ≡ f v) where
      stop-number : (m : ℕ) → (m ≡ with-f f) × (m ≡ 0 → ⊥) → either (numeral file at).number (bad before (numeral file at).value) ≡ m
      stop-number m r =
          let a = (numeral file at).number in
          let v = (numeral file at).value in
          elim (ℕ_discrete a 0) [
            | no n ↦ either_l a (bad before v) n ∙ sym (either_l a (f v) n) ∙ sym r.0
            | yes z ↦
                let q : m ≡ f v = r.0 ∙ ap (λ (n : ℕ). either n (f v)) z ∙ either_r (f v) in
                ap (λ (n : ℕ). either n (bad before v)) z ∙ either_r (bad before v) ∙ as-bad v (λ y. r.1 (q ∙ y)) ∙ sym q
          ]

      -- so they are stopped
      pub numerals-stop : (m : ℕ) → refused m ≡ checked_numeral f file at → numerals bad (suc left) file at before ≡ stopped m
      unfolding numerals
      numerals-stop m e = rw (stop-number m (refused_by f m e), ne_eqb m 0 (refused_by f m e).1)

    -- they go on behind a numeral that passes
    pub numerals-go : (f : ℕ → ℕ) (v p : ℕ) → got v p ≡ checked_numeral f file at → bad before v ≡ 0 → numerals bad (suc left) file at before ≡ numerals bad left file p (before ++ v ∷ [])
    numerals-go f v p e z = numerals-on v p (passed-numeral f v p e) z

    -- they are stopped by one that is bad
    pub numerals-bad : (f : ℕ → ℕ) (v p m : ℕ) → got v p ≡ checked_numeral f file at → bad before v ≡ m → (m ≡ 0 → ⊥) → numerals bad (suc left) file at before ≡ stopped m
    numerals-bad f v p m e b n = numerals_wrong v p m (passed-numeral f v p e) b n

-- the place of a refusal goes with its own number
pub own-place : (x : Refusal) → x.place ≡ place_with x x.number
unfolding place_with
own-place x = rw (eq-eqb x.number x.number refl)

-- a number with a place
abbrev placed : ℕ → ℕ → Refusal
placed n p = record { number = n; place = p }

-- what is refused as one that has no place has none
pub bare-place : (e : given.Refusal) (m : ℕ) → (refusal_of e).place ≡ place_with (placeless m) (refusal_of e).number → refusal_of e ≡ placeless (refusal_of e).number
unfolding place_with
bare-place e m q = ap (placed (refusal_of e).number) (q ∙ pick_same (eqb (refusal_of e).number m) 0)

-- between two limits, by the tests that the code makes
module _ (low high n x : ℕ) where
  -- below
  pub outside_low : x < low → outside low high n x ≡ n
  unfolding outside
  outside_low l = first-here _ n _ (or_l _ (lt-ltb x low l))

  -- above
  pub outside_high : high < x → outside low high n x ≡ n
  unfolding outside
  outside_high l = first-here _ n _ (or_r (ltb x low) (lt-ltb high x l))

  -- between
  pub outside-none : low ≤ x → x ≤ high → outside low high n x ≡ 0
  unfolding outside
  outside-none l h = first-later _ n _ (or-none (le-ltb x low l) (le-ltb high x h)) ∙ first-none

  -- and back
  pub inside : 0 < n → outside low high n x ≡ 0 → (low ≤ x) × (x ≤ high)
  inside s z = (
    elim (dec_le low x) [ yes l ↦ l | no l ↦ absurd (omega (arith, outside_low (omega arith))) ],
    elim (dec_le x high) [ yes l ↦ l | no l ↦ absurd (omega (arith, outside_high (omega arith))) ],
  )

-- what holds of 0, 14, 15, 20 and of what `bad` gives holds of the number of numerals
pub numerals-number : (P : ℕ → Type 0) → P 0 → P 14 → P 15 → P 20 → (bad : List ℕ → ℕ → ℕ) → ((before : List ℕ) (x : ℕ) → P (bad before x))
    → (n : ℕ) (file : List ℕ) (at : ℕ) (before : List ℕ) → P (numerals bad n file at before).number
unfolding numerals numeral
numerals-number P z p q r bad h zero file at before = z
numerals-number P z p q r bad h (suc n) file at before =
    let x = numeral file at in
    let no = either x.number (bad before x.value) in
    by-test (done no)
    (λ t. rw t (numerals-number P z p q r bad h n file x.next (before ++ x.value ∷ [])))
    (λ t. rw t (first_of P _ x.number _ (λ _. groups-number P z p q r 3 file at 0 1) (rw (alone (bad before x.value)) (h before x.value))))

-- numerals that are refused are refused alike with more behind them
pub numerals_longer : (bad : List ℕ → ℕ → ℕ) (n m : ℕ) (file : List ℕ) (at : ℕ) (before : List ℕ) → ((numerals bad n file at before).number ≡ 0 → ⊥)
    → (numerals bad (n + m) file at before).number ≡ (numerals bad n file at before).number
unfolding numerals
numerals_longer bad zero m file at before f = absurd (f refl)
numerals_longer bad (suc n) m file at before f =
    let x = numeral file at in
    by-test (done (either x.number (bad before x.value)))
    (λ t. rw (suc-add, t) (numerals_longer bad n m file x.next (before ++ x.value ∷ []) (λ e. f (rw t e))))
    (λ t. rw (suc-add, t))
