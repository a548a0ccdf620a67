-- Laws of the m_p read one after another, with their running total. Assumes nothing.
use mathlib.Core.Path.{◌≡◌, refl, ap, sym, ◌∙◌, subst}
use mathlib.Core.Bool.{true, false}
use mathlib.Core.List.{List, [], ◌∷◌, ◌++◌}
use Prim.Native.Nat.{ℕ, suc, min, ◌+◌, ◌-◌, ◌≤◌, ◌<◌}
use native.Mathlib.Omega.{arith}
use native.Mathlib.Nat.{sub-zero}
use native.Mathlib.Numerals.{add-one}
use native.Mathlib.Decide.{ℕ_discrete, dec_le}
use lib.ListN.{length, set, take, length-append, length-set, get_or-append}
use lib.Seq.{get_or-append_seam, take-suc-set}
use borrow.Author.Tests.{ltb-false, lt-ltb, le-ltb}
use Rattle.counting.specs.Count.{sum}
use Rattle.counting.proofs.Tests.{or-off_l, or-off_r}
use Rattle.counting.proofs.Some.{some-off}
use Rattle.counting.proofs.Select.{sum-zero, sum-suc, sum_cong}
use Rattle.counting.proofs.Checks.{first-here, first-later, first-none}
use Rattle.racks.specs.Racks.{of_caps, users, total}
use Rattle.racks.specs.Numbers.{bad_size, too_large}
use Rattle.racks.proofs.Caps.{length-caps, users-caps, size-rack, size-all, size-good, total-is}
use Rattle.std.specs.Prelude.{Ok, Err}
use Rattle.answers.specs.Answers.{placeless, refusal_of}
use Rattle.answers.specs.declared.Refusal as given
use Rattle.numerals.specs.Numeral.{refused, numerals}
use Rattle.parsing.specs.File.{wrong_m}
use Rattle.parsing.specs.parts.Parsing.{room_for, taken_of, CapsRead}
use Rattle.numerals.specs.parts.Bounds.{ranged, outside, place_with}
use Rattle.numerals.proofs.Numerals.{got, reading, passed-good, numerals-go, numerals-stop, inside, outside-none, outside_high, bare-place}

-- capacities that are in order so far
module _ (caps : List ℕ) (good : bad_size (of_caps caps) ≡ false) where
  -- each is at most 1,023
  pub size-users : (p : ℕ) → p < length caps → users (of_caps caps) p ≤ 1023
  unfolding bad_size too_large
  size-users p l = ltb-false 1023 (users (of_caps caps) p) (some-off (length (of_caps caps)) (too_large (of_caps caps)) (or-off_l _ good) p (omega (arith, length-caps caps)))

  -- the total is at most 4,032
  pub size-total : total (of_caps caps) ≤ 4032
  unfolding bad_size
  size-total = ltb-false 4032 (total (of_caps caps)) (or-off_r _ good)

-- one more
module _ (before : List ℕ) (m : ℕ) where
  abbrev after : List ℕ
  after = before ++ m ∷ []

  length-after : length after ≡ suc (length before)
  length-after = length-append before (m ∷ []) ∙ omega arith

  users-first : (p : ℕ) → p < length before → users (of_caps after) p ≡ users (of_caps before) p
  users-first p l = users-caps after p (omega (arith, length-after)) ∙ get_or-append before (m ∷ []) 0 p l ∙ sym (users-caps before p l)

  users-last : users (of_caps after) (length before) ≡ m
  users-last = users-caps after (length before) (omega (arith, length-after)) ∙ get_or-append_seam before m [] 0

  -- the running total
  pub total-after : total (of_caps after) ≡ total (of_caps before) + m
  total-after =
      sym (total-is (of_caps after) (suc (length before)) (sym (length-caps after ∙ length-after)))
      ∙ sum-suc (length before) (users (of_caps after))
      ∙ ap (λ (n : ℕ). sum (length before) (users (of_caps after)) + n) users-last
      ∙ ap (λ (n : ℕ). n + m) (sum_cong (length before) (users (of_caps after)) (users (of_caps before)) users-first ∙ total-is (of_caps before) (length before) (sym (length-caps before)))

  module _ (good : bad_size (of_caps before) ≡ false) where
    -- 3 does not apply to them all
    pub size-after : m ≤ 1023 → total (of_caps before) + m ≤ 4032 → bad_size (of_caps after) ≡ false
    size-after h t =
        size-good (of_caps after) (λ p l. elim (ℕ_discrete p (length before)) [
          | yes e ↦ rw (e, users-last) h
          | no n ↦ let k : p < length before = omega (arith, length-caps after, length-after) in rw (users-first p k) (size-users before good p k)
        ]) (omega (arith, total-after))

    size_large : 1023 < m → bad_size (of_caps after) ≡ true
    size_large h = size-rack (of_caps after) (length before) (omega (arith, length-caps after, length-after)) (omega (arith, users-last))

    size-over : 4032 < total (of_caps before) + m → bad_size (of_caps after) ≡ true
    size-over h = size-all (of_caps after) (omega (arith, total-after))

    wrong-3 : bad_size (of_caps after) ≡ true → wrong_m before m ≡ 3
    unfolding wrong_m
    wrong-3 h = first-here _ 3 _ h

    wrong-0 : bad_size (of_caps after) ≡ false → wrong_m before m ≡ 0
    unfolding wrong_m
    wrong-0 h = first-later _ 3 _ h ∙ first-none

-- the room that the running total leaves, as the code has it
pub room-min : (t : ℕ) → min (4032 - t) 1023 ≡ room_for t
unfolding room_for
room-min t = elim (dec_le 1023 (4032 - t)) [
  | yes h ↦ rw (le-ltb (4032 - t) 1023 h) (omega arith)
  | no h ↦ rw (lt-ltb (4032 - t) 1023 (omega arith)) (omega arith)
]

-- the room that the running total leaves
pub room-is : (t m : ℕ) → m ≤ room_for t → (m ≤ 1023) × (m ≤ 4032 - t)
unfolding room_for
room-is t m l = elim (dec_le 1023 (4032 - t)) [
  | yes h ↦ let k = rw (le-ltb (4032 - t) 1023 h) at l in (k, omega arith)
  | no h ↦ let k = rw (lt-ltb (4032 - t) 1023 (omega arith)) at l in (omega arith, k)
]

room_not : (t m : ℕ) → room_for t < m → m ≤ 1023 → 4032 - t < m
unfolding room_for
room_not t m l h = elim (dec_le 1023 (4032 - t)) [
  | yes k ↦ absurd (omega (arith, rw (le-ltb (4032 - t) 1023 k) at l))
  | no k ↦ rw (lt-ltb (4032 - t) 1023 (omega arith)) at l
]

-- p of n capacities are read: they are at the front of the list, in order, and what is left is as from the start
pub record Capping (file : List ℕ) (at n p next sum : ℕ) (caps : List ℕ) : Type 0 where
  pub long : length caps ≡ 64
  pub sum_is : sum ≡ total (of_caps (take p caps))
  pub good : bad_size (of_caps (take p caps)) ≡ false
  pub left : numerals wrong_m (n - p) file next (take p caps) ≡ numerals wrong_m n file at []

total-none : 0 ≡ total (of_caps [])
total-none = sym (sum-zero _) ∙ total-is (of_caps []) 0 (sym (length-caps []))

-- nor to none at all
pub size_none : bad_size (of_caps []) ≡ false
size_none = size-good (of_caps []) (λ p h. absurd (omega (arith, length-caps []))) (omega (arith, total-none))

module _ (file : List ℕ) (at n : ℕ) (caps : List ℕ) where
  -- none is read yet
  pub capping-none : length caps ≡ 64 → Capping file at n 0 at 0 caps
  capping-none l =
      record {
        long = l;
        sum_is = total-none;
        good = size_none;
        left = rw (sub-zero n);
      }

  module _ (p next sum : ℕ) (c : Capping file at n p next sum caps) where
    module _ (l : p < n) where
      one_left : n - p ≡ suc (n - (p + 1))
      one_left = omega arith

      left-suc : numerals wrong_m (suc (n - (p + 1))) file next (take p caps) ≡ numerals wrong_m n file at []
      left-suc = ap (λ (k : ℕ). numerals wrong_m k file next (take p caps)) (sym one_left) ∙ c.left

      module _ (m behind : ℕ) (e : got m behind ≡ ranged 0 (room_for sum) 3 file next) where
        -- it is at most 1,023, and the running total at most 4,032
        pub cap-small : (m ≤ 1023) × (sum + m ≤ 4032)
        unfolding ranged
        cap-small =
            let r = room-is sum m (inside 0 (room_for sum) 3 m (omega arith) (passed-good file next (outside 0 (room_for sum) 3) m behind e)).1 in
            (r.0, omega (arith, r.1, c.sum_is, size-total (take p caps) c.good))

        -- one more is read
        pub capping-more : n ≤ 64 → Capping file at n (p + 1) behind (sum + m) (set caps p m)
        unfolding ranged
        capping-more h =
            let t : take (p + 1) (set caps p m) ≡ take p caps ++ m ∷ [] = ap (λ (k : ℕ). take k (set caps p m)) (add-one p) ∙ take-suc-set caps p m (omega (arith, c.long)) in
            let g = size-after (take p caps) m c.good cap-small.0 (omega (arith, c.sum_is, cap-small.1)) in
            record {
              long = length-set caps p m ∙ c.long;
              sum_is = rw t (omega (arith, c.sum_is, total-after (take p caps) m));
              good = rw t g;
              left = rw t (sym (numerals-go file next wrong_m (n - (p + 1)) (take p caps) (outside 0 (room_for sum) 3) m behind e (wrong-0 (take p caps) m c.good g)) ∙ left-suc);
            }

      as-bad : (m : ℕ) → (outside 0 (room_for sum) 3 m ≡ 0 → ⊥) → wrong_m (take p caps) m ≡ outside 0 (room_for sum) 3 m
      as-bad m f = elim (dec_le m (room_for sum)) [
        | yes h ↦ absurd (f (outside-none 0 (room_for sum) 3 m (omega arith) h))
        | no h ↦
            let b : bad_size (of_caps (take p caps ++ m ∷ [])) ≡ true = elim (dec_le m 1023) [
              | yes k ↦ size-over (take p caps) m c.good (omega (arith, room_not sum m (omega arith) k, c.sum_is))
              | no k ↦ size_large (take p caps) m c.good (omega arith)
            ] in
            wrong-3 (take p caps) m c.good b ∙ sym (outside_high 0 (room_for sum) 3 m (omega arith))
      ]

      -- one is refused
      pub capping-stop : (e : given.Refusal) → refused (refusal_of e).number ≡ ranged 0 (room_for sum) 3 file next
          → (refusal_of e).place ≡ place_with (placeless 3) (refusal_of e).number → CapsRead file at n (Err e) caps
      unfolding ranged taken_of
      capping-stop e r q =
          record {
            is = sym (numerals-stop file next wrong_m (n - (p + 1)) (take p caps) (outside 0 (room_for sum) 3) as-bad (refusal_of e).number r) ∙ left-suc;
            bare = bare-place e 3 q;
            good = record {};
            long = c.long;
          }

    -- all are read
    pub capping-done : p ≡ n → CapsRead file at n (Ok next) caps
    unfolding numerals taken_of
    capping-done e =
        let z : n - p ≡ 0 = omega arith in
        record {
          is = ap (λ (q : ℕ). reading (take q caps) next) (sym e) ∙ ap (λ (k : ℕ). numerals wrong_m k file next (take p caps)) (sym z) ∙ c.left;
          bare = refl;
          good = subst (λ (q : ℕ). bad_size (of_caps (take q caps)) ≡ false) e c.good;
          long = c.long;
        }
