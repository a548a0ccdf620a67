-- Numerals that are read stand in the file as they are written: in their shortest form. Assumes nothing.
use mathlib.Core.Path.{◌≡◌, refl, ap, sym, ◌∙◌, subst}
use mathlib.Core.List.{List, [], ◌∷◌, ◌++◌, append-nil}
use Prim.Native.Nat.{ℕ, zero, suc, ◌+◌, ◌-◌, ◌*◌, ◌/◌, ◌%◌, ◌≤◌, ◌<◌}
use native.Mathlib.Omega.{arith}
use native.Mathlib.Decide.{ℕ_discrete, dec_le}
use native.Mathlib.Nat.{mod-eq_of_lt, div-eq_of_lt, add-mul-mod_self_right, add-mul-div_right}
use native.Mathlib.Numerals.{add-one}
use lib.ListN.{length, get_or, drop}
use lib.Seq.{drop-cons}
use borrow.Author.Tests.{le-leb, lt-leb}
use Rattle.counting.specs.Lists.{each, join}
use Rattle.numerals.specs.Numeral.{Got, last_group, groups, numeral, Numerals, numerals}
use Rattle.numerals.proofs.Groups.{last-14, group-15, group-last, group-20}
use Rattle.parsing.proofs.Legal.{one_more_lem}
use Rattle.jobwriter.specs.Writing.{groups_of, numeral_of}
use Rattle.roundtrip.specs.RoundTrip.{Bytes}
use Rattle.roundtrip.proofs.Numerals.{groups-one, groups-on, last-good, numbers-append}

-- a group in front of a number that is not 0
groups-up : (n y m : ℕ) → y < 128 → 0 < m → groups_of (suc n) (y + m * 128) ≡ (128 + y) ∷ groups_of n m
groups-up n y m l s =
    let r : (y + m * 128) % 128 ≡ y = add-mul-mod_self_right y m 128 ∙ mod-eq_of_lt l in
    let q : (y + m * 128) / 128 ≡ m = add-mul-div_right y m (omega arith) ∙ ap (λ (k : ℕ). k + m) (div-eq_of_lt l) ∙ omega arith in
    groups-on n (y + m * 128) (omega arith) ∙ rw (r, q)

-- a last group of 0 that is read is the only one
last-only-one : (value weight x next : ℕ) → (last_group value weight x next).number ≡ 0 → x ≡ 0 → weight ≡ 1
last-only-one value weight x next z e = elim (ℕ_discrete weight 1) [
  | yes w ↦ w
  | no f ↦ absurd (omega (arith, ap (λ (g : Got). g.number) (last-14 value weight x next e f)))
]

-- what was read at a position: a number of at most n groups, which stands there in its shortest form
record Formed (n : ℕ) (file : List ℕ) (at value weight : ℕ) (r : Got) : Type 0 where
  pub number : ℕ
  pub value-is : r.value ≡ value + number * weight
  pub alone : number ≡ 0 → weight ≡ 1
  pub form : drop at file ≡ groups_of n number ++ drop r.next file

-- groups at a position inside the file
module _ (file : List ℕ) (n at value weight : ℕ) (l : at < length file) where
  -- the group that stands there
  abbrev x : ℕ
  x = get_or file at 0

  -- it is the last
  formed-last : x < 128 → (groups (suc n) file at value weight).number ≡ 0 → Formed (suc n) file at value weight (groups (suc n) file at value weight)
  formed-last h z =
      let q = group-last file (suc n) at value weight (omega arith) l h in
      let w = last-only-one value weight x (at + 1) (sym (ap (λ (g : Got). g.number) q) ∙ z) in
      subst (Formed (suc n) file at value weight) (sym (q ∙ last-good value weight x (at + 1) w))
      (record {
        number = x;
        value-is = refl;
        alone = w;
        form = rw (groups-one n x h, add-one at) (drop-cons file at 0 l);
      })

  -- others follow it
  groups-more : 128 ≤ x → groups (suc n) file at value weight ≡ groups n file (suc at) (value + (x - 128) * weight) (weight * 128)
  unfolding groups
  groups-more h = rw (lt-leb (length file) at l, le-leb 128 x h)

  -- and make up a larger number with it
  formed-more : 128 ≤ x → x < 256 → (r : Got) → Formed n file (suc at) (value + (x - 128) * weight) (weight * 128) r → Formed (suc n) file at value weight r
  formed-more h u r f =
      let m : 0 < f.number = elim (ℕ_discrete f.number 0) [ yes e ↦ absurd (omega (arith, f.alone e)) | no e ↦ omega arith ] in
      let y : 128 + (x - 128) ≡ x = omega arith in
      record {
        number = x - 128 + f.number * 128;
        value-is = f.value-is ∙ omega arith;
        alone = λ e. absurd (omega arith);
        form = rw (groups-up n (x - 128) f.number (omega arith) m, y, drop-cons file at 0 l, f.form);
      }

-- groups that are read
formed : (n : ℕ) (file : List ℕ) → Bytes file → (at value weight : ℕ) → (groups n file at value weight).number ≡ 0 → Formed n file at value weight (groups n file at value weight)
formed zero file bytes at value weight z = absurd (omega (arith, ap (λ (g : Got). g.number) (group-20 file 0 at value weight refl)))
formed (suc n) file bytes at value weight z = elim (dec_le (length file) at) [
  | yes l ↦ absurd (omega (arith, ap (λ (g : Got). g.number) (group-15 file (suc n) at value weight (omega arith) l)))
  | no l ↦ elim (dec_le 128 (get_or file at 0)) [
    | no h ↦ formed-last file n at value weight (omega arith) (omega arith) z
    | yes h ↦
        let q = groups-more file n at value weight (omega arith) h in
        subst (Formed (suc n) file at value weight) (sym q)
        (formed-more file n at value weight (omega arith) h (bytes at (omega arith)) _ (formed n file bytes (suc at) _ _ (sym (ap (λ (g : Got). g.number) q) ∙ z)))
  ]
]

-- a numeral that is read stands there as it is written
pub numeral-form : (file : List ℕ) → Bytes file → (at : ℕ) → (numeral file at).number ≡ 0 → drop at file ≡ numeral_of (numeral file at).value ++ drop (numeral file at).next file
unfolding numeral numeral_of
numeral-form file bytes at z =
    let f = formed 3 file bytes at 0 1 z in
    let e : f.number ≡ (groups 3 file at 0 1).value = omega (arith, f.value-is) in
    f.form ∙ ap (λ (x : ℕ). groups_of 3 x ++ drop (groups 3 file at 0 1).next file) e

-- one number, as it is written
one_number : (x : ℕ) → join (each numeral_of (x ∷ [])) ≡ numeral_of x
unfolding each join
one_number x = append-nil (numeral_of x)

-- and so do numerals, behind those before them
numerals-more : (bad : List ℕ → ℕ → ℕ) (file : List ℕ) → Bytes file → (n at : ℕ) (before : List ℕ) → (numerals bad n file at before).number ≡ 0
    → join (each numeral_of before) ++ drop at file ≡ join (each numeral_of (numerals bad n file at before).values) ++ drop (numerals bad n file at before).next file
numerals-more bad file bytes zero at before z = unfold numerals in refl
numerals-more bad file bytes (suc n) at before z =
    let o = one_more_lem bad file n at before z in
    let v = (numeral file at).value in
    let p = (numeral file at).next in
    ap (λ (l : List ℕ). join (each numeral_of before) ++ l) (numeral-form file bytes at o.1 ∙ ap (λ (l : List ℕ). l ++ drop p file) (sym (one_number v)))
    ∙ sym (numbers-append before (v ∷ []) (drop p file))
    ∙ numerals-more bad file bytes n p (before ++ v ∷ []) (sym (ap (λ (r : Numerals). r.number) o.0) ∙ z)
    ∙ ap (λ (r : Numerals). join (each numeral_of r.values) ++ drop r.next file) (sym o.0)

-- what was read at a position stands there as it is written
abbrev pub Stands : List ℕ → ℕ → Numerals → Type 0
Stands file at r = drop at file ≡ join (each numeral_of r.values) ++ drop r.next file

-- numerals that are read do
pub numerals-form : (bad : List ℕ → ℕ → ℕ) (file : List ℕ) → Bytes file → (n at : ℕ) → (numerals bad n file at []).number ≡ 0 → Stands file at (numerals bad n file at [])
unfolding each join
numerals-form bad file bytes n at z = numerals-more bad file bytes n at [] z
