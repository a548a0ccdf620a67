-- Entries and capacities: as the file has them and as the lists of a job have them, each way. Assumes nothing.
use mathlib.Core.Path.{◌≡◌, refl, ap, sym, ◌∙◌}
use mathlib.Core.Bool.{Bool, false, not}
use mathlib.Core.List.{List, [], ◌∷◌}
use Prim.Native.Nat.{ℕ, suc, ◌+◌, ◌-◌, ◌≤◌, ◌<◌}
use native.Mathlib.Omega.{arith}
use native.Mathlib.Decide.{ℕ_discrete}
use lib.Dec.{eqb}
use lib.ListN.{length, get_or, take, length-take}
use lib.Seq.{take-suc, get_or-take}
use borrow.Author.Tests.{ne_eqb}
use Rattle.counting.specs.Tests.{◌or◌}
use Rattle.counting.specs.Lists.{each}
use Rattle.counting.specs.Checks.{first}
use Rattle.counting.proofs.Select.{sum_mono, sum_cong}
use Rattle.counting.proofs.Checks.{first-later, first-none}
use Rattle.racks.specs.Limits.{FREE}
use Rattle.racks.specs.Racks.{Rack, one_spare, of_caps, users, total, slots, is_user}
use Rattle.racks.specs.Table.{dest, free}
use Rattle.racks.specs.Numbers.{bad_size, bad_entry}
use Rattle.racks.proofs.Geometry.{user_lt}
use Rattle.racks.proofs.Caps.{length-caps, users-caps, size-good, total-is}
use Rattle.racks.proofs.Legal.{entry-cases}
use Rattle.parsing.specs.File.{wrong_m, wrong_entry, entry_of}
use Rattle.parsing.proofs.Capacities.{size-users, size-total}
use Rattle.parsing.proofs.Entries.{wrong-same}
use Rattle.jobwriter.specs.Writing.{file_entry, cap_of}
use Rattle.roundtrip.specs.parts.Reading.{Passing}

-- each there and back again
pub each_back : {A B : Type 0} (f : A → B) (g : B → A) (d : A) (l : List A) → ((k : ℕ) → k < length l → g (f (get_or l k d)) ≡ get_or l k d) → each g (each f l) ≡ l
unfolding each
each_back f g d [] h = refl
each_back f g d (x ∷ l) h = rw (h 0 (omega arith), each_back f g d l (λ k m. h (suc k) (omega arith)))

-- the capacities of the racks that they give
pub caps-back : (caps : List ℕ) → each cap_of (of_caps caps) ≡ caps
unfolding of_caps
caps-back caps = each_back one_spare cap_of 0 caps (λ k l. refl)

-- an entry of the table, written and read
pub entry-back : (x : ℕ) → entry_of (file_entry x) ≡ x
unfolding entry_of file_entry
entry-back x = elim (ℕ_discrete x FREE) [
  | yes e ↦ rw e
  | no f ↦ let s : x + 1 - 1 ≡ x = omega arith in rw (ne_eqb x FREE f, ne_eqb (x + 1) 0 (λ z. omega arith), s)
]

-- a number of the file, read and written
pub number-back : (x : ℕ) → x ≤ 4096 → file_entry (entry_of x) ≡ x
unfolding entry_of file_entry
number-back x l = elim (ℕ_discrete x 0) [
  | yes e ↦ rw e
  | no f ↦ let s : x - 1 + 1 ≡ x = omega arith in rw (ne_eqb x 0 f, ne_eqb (x - 1) FREE (λ z. omega arith), s)
]

-- a check alone that does not apply
pub one-clear : (b : Bool) (n : ℕ) → b ≡ false → first ((b, n) ∷ []) ≡ 0
one-clear b n e = first-later b n [] e ∙ first-none

-- an entry of the table that passes
module _ (racks : List Rack) (small : slots racks ≤ 4096) (places : List ℕ) (g : ℕ) (ok : bad_entry racks places g ≡ false) where
  -- is written as at most 4,096
  pub number_small : file_entry (dest places g) ≤ 4096
  unfolding file_entry
  number_small = entry-cases racks places g ok (λ e. rw e (omega arith)) (λ f u. rw (ne_eqb (dest places g) FREE f) (omega (arith, user_lt racks (dest places g) u)))

  -- and passes when it is read
  pub number_passes : (before : List ℕ) → wrong_entry racks before (file_entry (dest places g)) ≡ 0
  unfolding wrong_entry bad_entry free
  number_passes before =
      one-clear _ 5 (wrong-same racks (file_entry (dest places g)) number_small ∙ ap (λ (v : ℕ). not (eqb v FREE or is_user racks v)) (entry-back (dest places g)) ∙ ok)

-- capacities in order
module _ (caps : List ℕ) (good : bad_size (of_caps caps) ≡ false) where
  -- the first n give the first racks their user slots
  front-users : (n p : ℕ) → p < length (of_caps (take n caps)) → users (of_caps (take n caps)) p ≡ users (of_caps caps) p
  front-users n p l =
      let m : p < length (take n caps) = omega (arith, length-caps (take n caps)) in
      users-caps (take n caps) p m ∙ get_or-take n caps p 0 (omega (arith, length-take n caps)) ∙ sym (users-caps caps p (omega (arith, length-take n caps)))

  -- and so are in order too
  front-size : (n : ℕ) → bad_size (of_caps (take n caps)) ≡ false
  front-size n =
      let racks = of_caps (take n caps) in
      let m : length racks ≤ length (of_caps caps) = omega (arith, length-caps (take n caps), length-caps caps, length-take n caps) in
      let few : total racks ≤ total (of_caps caps) =
      omega (
        arith,
        total-is racks (length racks) refl,
        total-is (of_caps caps) (length (of_caps caps)) refl,
        sum_cong (length racks) (users racks) (users (of_caps caps)) (front-users n),
        sum_mono (length racks) (length (of_caps caps)) (users (of_caps caps)) m,
      ) in
      size-good racks (λ p l. rw (front-users n p l) (size-users caps good p (omega (arith, length-caps caps)))) (omega (arith, size-total caps good))

  -- they pass when they are read
  pub caps_pass : Passing wrong_m [] caps
  unfolding wrong_m
  caps_pass k l =
      (omega (arith, size-users caps good k l, users-caps caps k l), one-clear _ 3 (rw (← take-suc caps k 0 l) (front-size (suc k))))
