-- Laws of a numeral in groups of seven bits: by the tests that the code makes, and how large it gets. Assumes nothing.
use mathlib.Core.Path.{◌≡◌, ap, ◌∙◌}
use mathlib.Core.Bool.{Bool, true, false, not}
use mathlib.Core.List.{List}
use Prim.Native.Nat.{ℕ, zero, suc, ◌+◌, ◌-◌, ◌*◌, ◌≤◌, ◌<◌}
use native.Mathlib.Omega.{arith}
use native.Mathlib.Nat.{mul-le-mul_right, zero-mul, add-zero}
use native.Mathlib.Numerals.{add-one}
use lib.Dec.{leb, eqb}
use lib.ListN.{length, get_or}
use borrow.Author.Tests.{eq-eqb, ne_eqb, le-leb, lt-leb}
use Rattle.counting.specs.Tests.{◌and◌, pick}
use Rattle.counting.proofs.Tests.{by-test, and-off_l, and-off_r, both}
use Rattle.numerals.specs.Numeral.{Got, refused, groups, last_group}

-- the last group, by the tests that the code makes
module _ (value weight x next : ℕ) where
  -- a last group that is not 0
  pub last_some : (x ≡ 0 → ⊥) → record { number = 0; value = value + x * weight; next = next } ≡ last_group value weight x next
  unfolding last_group
  last_some f = rw (and-off_l (not (eqb weight 1)) (ne_eqb x 0 f))

  -- a last group of 0 that is not the only one
  pub last-14 : x ≡ 0 → (weight ≡ 1 → ⊥) → refused 14 ≡ last_group value weight x next
  unfolding last_group
  last-14 e f = rw (both (eq-eqb x 0 e) (ap not (ne_eqb weight 1 f)))

  -- a last group that is the only one
  pub last_first : weight ≡ 1 → record { number = 0; value = value + x * weight; next = next } ≡ last_group value weight x next
  unfolding last_group
  last_first f = rw (and-off_r (eqb x 0) (ap not (eq-eqb weight 1 f)))

  -- a group of 0 alone
  pub last-only : x ≡ 0 → weight ≡ 1 → record { number = 0; value = value; next = next } ≡ last_group value weight x next
  unfolding last_group
  last-only e f = rw (and-off_r (eqb x 0) (ap not (eq-eqb weight 1 f)), e, zero-mul weight, add-zero value)

-- one group more, by the tests that the code makes
module _ (file : List ℕ) (left at value weight : ℕ) (some : 0 < left) where
  one_less : left ≡ suc (left - 1)
  one_less = omega arith

  -- the file ends
  pub group-15 : length file ≤ at → groups left file at value weight ≡ refused 15
  unfolding groups
  group-15 h = rw (one_less, le-leb (length file) at h)

  -- no other group follows
  pub group-last : at < length file → get_or file at 0 < 128 → groups left file at value weight ≡ last_group value weight (get_or file at 0) (at + 1)
  unfolding groups last_group
  group-last h l = rw (one_less, lt-leb (length file) at h, lt-leb 128 (get_or file at 0) l, add-one at)

  -- another group follows
  pub group-more : at < length file → 128 ≤ get_or file at 0
      → groups left file at value weight ≡ groups (left - 1) file (at + 1) (value + (get_or file at 0 - 128) * weight) (weight * 128)
  unfolding groups
  group-more h l =
      ap (λ n. groups n file at value weight) one_less ∙ rw (lt-leb (length file) at h, le-leb 128 (get_or file at 0) l, add-one at)

-- a group too many
pub group-20 : (file : List ℕ) (left at value weight : ℕ) → left ≡ 0 → groups left file at value weight ≡ refused 20
unfolding groups
group-20 file left at value weight e = rw e

-- how large a numeral can be with `left` groups to come
pub record Weighed (left value weight : ℕ) : Type 0 where
  pub few : left ≤ 3
  pub first : 3 ≤ left → weight ≤ 1
  pub second : 2 ≤ left → weight ≤ 128
  pub third : 1 ≤ left → weight ≤ 16384
  pub low : value < weight

-- before the first group
pub weighed-none : Weighed 3 0 1
weighed-none = record { few = omega arith; first = λ _. omega arith; second = λ _. omega arith; third = λ _. omega arith; low = omega arith }

-- after one group more
pub weighed-more : (left value weight y : ℕ) → 0 < left → y ≤ 127 → Weighed left value weight → Weighed (left - 1) (value + y * weight) (weight * 128)
weighed-more left value weight y s l w =
    record {
      few = omega (arith, w.few);
      first = λ h. absurd (omega (arith, w.few));
      second = λ h. omega (arith, w.first (omega arith));
      third = λ h. omega (arith, w.second (omega arith));
      low = omega (arith, mul-le-mul_right weight l, w.low);
    }

-- a product of a group and its weight
pub product_small : (y weight : ℕ) → y ≤ 128 → weight ≤ 16384 → y * weight ≤ 2097152
product_small y weight l h = omega (arith, mul-le-mul_right weight l)

-- the position behind a numeral that is read is not 0
pub next-some : (more : ℕ) (file : List ℕ) (at value weight : ℕ) → (groups more file at value weight).number ≡ 0 → 0 < (groups more file at value weight).next
unfolding groups last_group
next-some zero file at value weight e = absurd (omega arith)
next-some (suc more) file at value weight e = go (leb (length file) at) (leb 128 (get_or file at 0)) (eqb (get_or file at 0) 0 and not (eqb weight 1)) _ _ (next-some more file (suc at) _ _) (omega arith) e
  where
    go : (a b d : Bool) (g h : Got) → (g.number ≡ 0 → 0 < g.next) → 0 < h.next → (pick a (refused 15) (pick b g (pick d (refused 14) h))).number ≡ 0 → 0 < (pick a (refused 15) (pick b g (pick d (refused 14) h))).next
    go true b d g h f l e = absurd (omega arith)
    go false true d g h f l e = f e
    go false false true g h f l e = absurd (omega arith)
    go false false false g h f l e = l

-- what holds of 0, 14, 15 and 20 holds of a numeral's number
pub groups-number : (P : ℕ → Type 0) → P 0 → P 14 → P 15 → P 20 → (left : ℕ) (file : List ℕ) (at value weight : ℕ) → P (groups left file at value weight).number
unfolding groups last_group
groups-number P z p q r zero file at value weight = r
groups-number P z p q r (suc left) file at value weight =
    let x = get_or file at 0 in
    by-test (leb (length file) at) (λ e. rw e q) (λ e. by-test (leb 128 x)
    (λ f. rw (e, f) (groups-number P z p q r left file (suc at) (value + (x - 128) * weight) (weight * 128)))
    (λ f. by-test (eqb x 0 and not (eqb weight 1)) (λ g. rw (e, f, g) p) (λ g. rw (e, f, g) z)))
