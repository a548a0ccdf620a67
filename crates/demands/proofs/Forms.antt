-- The form of a numeral in a file: how its groups end, and what is read then. Assumes nothing.
use mathlib.Core.Path.{◌≡◌, refl, ap, sym, ◌∙◌, subst}
use mathlib.Core.Logic.Iff
use mathlib.Core.Logic.{◌≢◌, ◌↔◌, ◌⊎◌, inl, inr}
use mathlib.Core.List.{List, [], ◌∷◌}
use Prim.Native.Nat.{ℕ, zero, suc, ◌+◌, ◌-◌, ◌*◌, ◌^◌, ◌≤◌, ◌<◌}
use native.Mathlib.Omega.{arith}
use native.Mathlib.Decide.{ℕ_discrete, dec_le}
use native.Mathlib.Nat.{pow-suc, zero-mul, add-zero}
use native.Mathlib.Numerals.{add-one}
use lib.Dec.{eqb}
use lib.ListN.{length, get_or}
use Rattle.counting.specs.Count.{sum}
use Rattle.counting.specs.Checks.{first}
use Rattle.counting.proofs.Select.{sum-zero, sum-suc}
use Rattle.numerals.specs.Numeral.{Got, refused, groups, numeral, last_group}
use Rattle.numerals.proofs.Groups.{last_some, last-14, last-only, group-15, group-last, group-more, group-20}
use Rattle.demands.specs.Rows.{Given}
use Rattle.demands.specs.FileConditions.{Follows, Padded, TooLong, CutShort, EndsWith, seven_bits, value_of, form_rows}
use Rattle.demands.proofs.Rows.{given-none, given_row}
use Rattle.demands.proofs.Says.{says_eq}

-- the number of a numeral's form: read, padded, too long or cut short
abbrev OneOf : ℕ → Type 0
OneOf n = (n ≡ 0) ⊎ ((n ≡ 14) ⊎ ((n ≡ 20) ⊎ (n ≡ 15)))

-- three checks by such a number give that number
three-is : (n : ℕ) → OneOf n → first ((eqb n 14, 14) ∷ (eqb n 20, 20) ∷ (eqb n 15, 15) ∷ []) ≡ n
unfolding first
three-is n (inl e) = rw e
three-is n (inr (inl e)) = rw e
three-is n (inr (inr (inl e))) = rw e
three-is n (inr (inr (inr e))) = rw e

module _ (n : ℕ) {A B C : Type 0} (a : (n ≡ 14) ↔ A) (b : (n ≡ 20) ↔ B) (c : (n ≡ 15) ↔ C) where
  -- and so it is given by three rows
  given-three : OneOf n → Given n ((14, A) ∷ (20, B) ∷ (15, C) ∷ [])
  given-three one = subst (λ (k : ℕ). Given k ((14, A) ∷ (20, B) ∷ (15, C) ∷ [])) (three-is n one)
      (given_row _ (λ e. omega arith) (Iff.trans (says_eq n 14) a)
      (given_row _ (λ e. omega arith) (Iff.trans (says_eq n 20) b)
      (given_row _ (λ e. omega arith) (Iff.trans (says_eq n 15) c) given-none)))

-- a power of 128 is 1 only where the exponent is 0
no_power : (i : ℕ) → i ≢ 0 → 128 ^ i ≢ 1
no_power zero f e = f refl
no_power (suc i) f e = omega arith

less : (n : ℕ) → suc n - 1 ≡ n
less n = omega arith

add-on : (m n : ℕ) → m + n + 1 ≡ m + (n + 1)
add-on m n = omega arith

module _ (file : List ℕ) (at : ℕ) where
  -- what is read where the numeral ends well with group i
  abbrev pub read_to : ℕ → Got
  read_to i = record { number = 0; value = value_of file at i; next = at + i + 1 }

  -- how a numeral ends, and what is then read
  pub data Form (got : Got) : Type 0 where
    padded : Padded file at → got ≡ refused 14 → Form got
    long : TooLong file at → got ≡ refused 20 → Form got
    cut : CutShort file at → got ≡ refused 15 → Form got
    good : (i : ℕ) → EndsWith file at i → got ≡ read_to i → Form got

  -- one group more follows
  follows-more : (i : ℕ) → Follows file at i → at + i < length file → 128 ≤ get_or file (at + i) 0 → Follows file at (i + 1)
  follows-more i f l h j k = elim (ℕ_discrete j i) [ yes e ↦ rw e (l, h) | no e ↦ f j (omega arith) ]

  -- and so the value and the weight grow
  value-more : (i value weight : ℕ) → value ≡ sum i (seven_bits file at) → weight ≡ 128 ^ i
      → value + (get_or file (at + i) 0 - 128) * weight ≡ sum (i + 1) (seven_bits file at)
  unfolding seven_bits
  value-more i value weight v w = rw (v, w, add-one i) (sym (sum-suc i (seven_bits file at)))

  weight-more : (i weight : ℕ) → weight ≡ 128 ^ i → weight * 128 ≡ 128 ^ (i + 1)
  weight-more i weight w = rw (w, add-one i) (sym (pow-suc 128 i))

  -- the last group is read: i come before it
  form-last : (i value weight : ℕ) → i < 3 → Follows file at i → at + i < length file → get_or file (at + i) 0 < 128
      → value ≡ sum i (seven_bits file at) → weight ≡ 128 ^ i → Form (last_group value weight (get_or file (at + i) 0) (at + i + 1))
  unfolding value_of
  form-last i value weight k f l h v w =
      let x : ℕ = get_or file (at + i) 0 in
      let fine : (i ≡ 0) ⊎ (x ≢ 0) → record { number = 0; value = value + x * weight; next = at + i + 1 } ≡ last_group value weight x (at + i + 1)
      → Form (last_group value weight x (at + i + 1)) =
      λ o e. good i (k, f, l, h, o) (sym e ∙ rw (v, w)) in
      elim (ℕ_discrete x 0) [
        | no n ↦ fine (inr n) (last_some value weight x (at + i + 1) n)
        | yes z ↦ elim (ℕ_discrete i 0) [
          | yes o ↦ fine (inl o) (rw (z, zero-mul weight, add-zero value) (last-only value weight 0 (at + i + 1) refl (w ∙ ap (λ (n : ℕ). 128 ^ n) o)))
          | no o ↦ padded (i, omega arith, k, f, l, z) (sym (last-14 value weight x (at + i + 1) z (λ q. no_power i o (sym w ∙ q))))
        ]
      ]

  -- `left` groups may still come: i are read
  form-from : (left i value weight : ℕ) → i + left ≡ 3 → Follows file at i → value ≡ sum i (seven_bits file at) → weight ≡ 128 ^ i
      → Form (groups left file (at + i) value weight)
  form-from zero i value weight e f v w =
      let q : i ≡ 3 = omega arith in
      long (rw q at f) (group-20 file 0 (at + i) value weight refl)
  form-from (suc left) i value weight e f v w =
      let x : ℕ = get_or file (at + i) 0 in
      elim (dec_le (length file) (at + i)) [
        | yes l ↦ cut (i, omega arith, f, l) (group-15 file (suc left) (at + i) value weight (omega arith) l)
        | no l ↦ elim (dec_le 128 x) [
          | yes h ↦
              let on : groups (suc left) file (at + i) value weight ≡ groups left file (at + (i + 1)) (value + (x - 128) * weight) (weight * 128) =
              group-more file (suc left) (at + i) value weight (omega arith) (omega arith) h
              ∙ ap (λ (n : ℕ). groups n file (at + i + 1) (value + (x - 128) * weight) (weight * 128)) (less left)
              ∙ ap (λ (n : ℕ). groups left file n (value + (x - 128) * weight) (weight * 128)) (add-on at i) in
              subst Form (sym on) (form-from left (i + 1) (value + (x - 128) * weight) (weight * 128) (omega arith) (follows-more i f (omega arith) h) (value-more i value weight v w) (weight-more i weight w))
          | no h ↦
              let on = group-last file (suc left) (at + i) value weight (omega arith) (omega arith) (omega arith) in
              subst Form (sym on) (form-last i value weight (omega arith) f (omega arith) (omega arith) v w)
        ]
      ]

  pub form : Form (numeral file at)
  unfolding numeral
  form = subst (λ (k : ℕ). Form (groups 3 file k 0 1)) (omega arith) (form-from 3 0 0 1 refl (λ j l. absurd (omega arith)) (sym (sum-zero (seven_bits file at))) refl)

  -- no group follows group i
  abbrev Stop : ℕ → Type 0
  Stop i = (i < 3) × Follows file at i × (at + i < length file → 128 ≤ get_or file (at + i) 0 → ⊥)

  -- a numeral stops at one group
  stop-same : (i j : ℕ) → Stop i → Stop j → i ≡ j
  stop-same i j s t = elim (dec_le i j) [
    | yes l ↦ elim (dec_le j i) [ yes m ↦ omega arith | no m ↦ let h = t.1 i (omega arith) in absurd (s.2 h.0 h.1) ]
    | no l ↦ let h = s.1 j (omega arith) in absurd (t.2 h.0 h.1)
  ]

  stop-long : (i : ℕ) → Stop i → TooLong file at → ⊥
  stop-long i s f = let h = f i s.0 in s.2 h.0 h.1

  stop-good : (i : ℕ) → EndsWith file at i → Stop i
  stop-good i w = (w.0, w.1, λ l h. omega (arith, w.3))

  stop-cut : (c : CutShort file at) → Stop c.0
  stop-cut (i, k, f, l) = (k, f, λ m h. omega arith)

  stop-padded : (c : Padded file at) → Stop c.0
  stop-padded (i, o, k, f, l, z) = (k, f, λ m h. omega arith)

  -- so it ends in one of four ways
  padded-long : Padded file at → TooLong file at → ⊥
  padded-long p f = stop-long p.0 (stop-padded p) f

  padded-cut : Padded file at → CutShort file at → ⊥
  padded-cut p c = let q = stop-same p.0 c.0 (stop-padded p) (stop-cut c) in omega (arith, p.4, c.3, q)

  padded-good : Padded file at → (i : ℕ) → EndsWith file at i → ⊥
  padded-good (j, o, k, f, l, z) i w =
      let q : j ≡ i = stop-same j i (stop-padded (j, o, k, f, l, z)) (stop-good i w) in
      elim w.4 [ inl e ↦ omega arith | inr n ↦ n (rw q at z) ]

  long-cut : TooLong file at → CutShort file at → ⊥
  long-cut f c = stop-long c.0 (stop-cut c) f

  long-good : TooLong file at → (i : ℕ) → EndsWith file at i → ⊥
  long-good f i w = stop-long i (stop-good i w) f

  cut-good : CutShort file at → (i : ℕ) → EndsWith file at i → ⊥
  cut-good c i w = let q = stop-same c.0 i (stop-cut c) (stop-good i w) in omega (arith, c.3, w.2, q)

  -- a numeral that ends well is read
  pub numeral-good : (i : ℕ) → EndsWith file at i → numeral file at ≡ read_to i
  numeral-good i w = elim form [
    | padded p e ↦ absurd (padded-good p i w)
    | long f e ↦ absurd (long-good f i w)
    | cut c e ↦ absurd (cut-good c i w)
    | good j u e ↦ e ∙ ap read_to (stop-same j i (stop-good j u) (stop-good i w))
  ]

  -- and one that is read ends well
  pub numeral-ends : (numeral file at).number ≡ 0 → (i : ℕ) × EndsWith file at i
  numeral-ends z = elim form [
    | padded p e ↦ absurd (omega (arith, ap (λ (g : Got). g.number) e))
    | long f e ↦ absurd (omega (arith, ap (λ (g : Got). g.number) e))
    | cut c e ↦ absurd (omega (arith, ap (λ (g : Got). g.number) e))
    | good i w e ↦ (i, w)
  ]

  -- 14, 20, 15 or none of them
  pub given-form : Given (numeral file at).number (form_rows file at)
  given-form = elim form [
    | padded p e ↦ let z = ap (λ (g : Got). g.number) e in
        given-three _ (λ _. p, λ _. z) (λ q. absurd (omega arith), λ f. absurd (padded-long p f)) (λ q. absurd (omega arith), λ c. absurd (padded-cut p c)) (inr (inl z))
    | long f e ↦ let z = ap (λ (g : Got). g.number) e in
        given-three _ (λ q. absurd (omega arith), λ p. absurd (padded-long p f)) (λ _. f, λ _. z) (λ q. absurd (omega arith), λ c. absurd (long-cut f c)) (inr (inr (inl z)))
    | cut c e ↦ let z = ap (λ (g : Got). g.number) e in
        given-three _ (λ q. absurd (omega arith), λ p. absurd (padded-cut p c)) (λ q. absurd (omega arith), λ f. absurd (long-cut f c)) (λ _. c, λ _. z) (inr (inr (inr z)))
    | good i w e ↦ let z = ap (λ (g : Got). g.number) e in
        given-three _ (λ q. absurd (omega arith), λ p. absurd (padded-good p i w)) (λ q. absurd (omega arith), λ f. absurd (long-good f i w)) (λ q. absurd (omega arith), λ c. absurd (cut-good c i w)) (inl z)
  ]
