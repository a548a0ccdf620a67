-- Laws of the quick pass over the entries: where each found its mark open, none is refused. Assumes nothing.
use mathlib.Core.Path.{◌≡◌, ap, sym, ◌∙◌}
use mathlib.Core.Bool.{Bool, true, false, not}
use mathlib.Core.List.{List, []}
use Prim.Native.Nat.{ℕ, suc, ◌+◌, ◌≤◌, ◌<◌}
use native.Mathlib.Omega.{arith}
use native.Mathlib.Decide.{ℕ_discrete, dec_lt}
use lib.ListN.{length, get_or, set, length-set}
use lib.Seq.{get_or-set_same, get_or-set_other}
use borrow.Author.Tests.{eq-eqb, ne_eqb, eqb-true, lt-ltb, le-ltb}
use borrow.Author.Count.{below_more}
use Rattle.counting.specs.Tests.{◌and◌}
use Rattle.counting.specs.Count.{some}
use Rattle.counting.proofs.Tests.{and_l, and_r, and-off_r, or_l, or_r, or-none}
use Rattle.counting.proofs.Some.{some-none, some_more, some-zero}
use Rattle.counting.proofs.Checks.{first-later, first-none}
use Rattle.racks.specs.Limits.{FREE}
use Rattle.racks.specs.Racks.{Rack, base, slots, spare_of, is_user}
use Rattle.racks.specs.Table.{dest, free, names}
use Rattle.racks.specs.Numbers.{bad_entry, bad_entries, repeats, bad_twice}
use Rattle.racks.proofs.Geometry.{user_lt}
use Rattle.entries.specs.parts.Marks.{FilledFrom, entries_number}
use Rattle.entries.specs.parts.Once.{mark_at, OnceMarked, MarkTaken}
use Rattle.entries.proofs.Fills.{user-here}
use Rattle.entries.proofs.Marks.{repeats-free}

-- where the mark of an entry stands, by the tests that the code makes
module _ (S g x : ℕ) where
  pub mark-at-free : x ≡ FREE → 4097 + g ≡ mark_at S g x
  unfolding mark_at
  mark-at-free e = rw (eq-eqb x FREE e)

  pub mark-at-none : (x ≡ FREE → ⊥) → S < x → S ≡ mark_at S g x
  unfolding mark_at
  mark-at-none f l = rw (ne_eqb x FREE f, lt-ltb S x l)

  pub mark-at-slot : (x ≡ FREE → ⊥) → x ≤ S → x ≡ mark_at S g x
  unfolding mark_at
  mark-at-slot f l = rw (ne_eqb x FREE f, le-ltb S x l)

  pub mark-at_in : S ≤ 4096 → g < 4096 → mark_at S g x < 8193
  mark-at_in s l = elim (ℕ_discrete x FREE) [
    | yes e ↦ omega (arith, mark-at-free e)
    | no e ↦ elim (dec_lt S x) [
      | yes m ↦ omega (arith, mark-at-none e m)
      | no m ↦ omega (arith, mark-at-slot e (omega arith))
    ]
  ]

-- the marks of the slots below n: an open one is that of a user slot
abbrev pub OpenTo : List Rack → ℕ → List ℕ → Type 0
OpenTo racks n marks = (v : ℕ) → v < n → get_or marks v 0 ≡ 1 → is_user racks v ≡ true

-- one rack more: its spares are shut
pub open_more : (racks : List Rack) (small : slots racks ≤ 4096) (p low high : ℕ) → p < length racks → low ≡ base racks p → high ≡ base racks (suc p)
    → (spare : ℕ) (before after : List ℕ) → spare ≡ spare_of racks p → OpenTo racks low before → FilledFrom spare high 0 before after → OpenTo racks high after
open_more racks small p low high l el eh spare before after es h b v m o = elim (dec_lt v spare) [
  | yes k ↦ elim (dec_lt v low) [
    | yes q ↦ h v q (sym (b.below v k) ∙ o)
    | no q ↦ user-here racks small p low high l el eh v (omega arith) m ∙ lt-ltb v (spare_of racks p) (omega arith)
  ]
  | no k ↦ absurd (omega (arith, b.inside v (omega arith) m))
]

-- all racks are done: the mark behind the last slot is shut too
pub open-all : (racks : List Rack) (n : ℕ) (marks : List ℕ) → n ≡ slots racks → n ≤ 4096 → length marks ≡ 8193 → OpenTo racks n marks → OnceMarked racks (set marks n 0)
open-all racks n marks e s long h = record { users = users; long = length-set marks n 0 ∙ long }
  where
    users : (v : ℕ) → v ≤ slots racks → get_or (set marks n 0) v 0 ≡ 1 → is_user racks v ≡ true
    users v l o = elim (ℕ_discrete v n) [
      | yes q ↦ absurd (omega (arith, sym o ∙ ap (λ (k : ℕ). get_or (set marks n 0) k 0) q ∙ get_or-set_same marks n 0 0 (omega arith)))
      | no q ↦ h v (omega arith) (sym (get_or-set_other marks n v 0 0 q) ∙ o)
    ]

-- the first g entries were passed: an open mark is that of a user slot that none of them names; where each found its mark open, none of
-- them is refused
pub record Once (racks : List Rack) (places marks : List ℕ) (all : Bool) (g : ℕ) : Type 0 where
  pub users : (v : ℕ) → v ≤ slots racks → get_or marks v 0 ≡ 1 → is_user racks v ≡ true
  pub unnamed : (v : ℕ) → v ≤ slots racks → get_or marks v 0 ≡ 1 → some g (names places v) ≡ false
  pub clean : all ≡ true → (k : ℕ) → k < g → bad_entry racks places k ≡ false
  pub single : all ≡ true → (k : ℕ) → k < g → repeats places k ≡ false
  pub long : length marks ≡ 8193

pub once-none : (racks : List Rack) (places marks : List ℕ) → OnceMarked racks marks → Once racks places marks true 0
once-none racks places marks m =
    record {
      users = m.users;
      unnamed = λ v l o. some-zero (names places v);
      clean = λ t k l. absurd (omega arith);
      single = λ t k l. absurd (omega arith);
      long = m.long;
    }

-- one entry more
module _ (racks : List Rack) (small : slots racks ≤ 4096) (places marks : List ℕ) (all : Bool) (g : ℕ) (o : Once racks places marks all g) where
  -- a free slot's entry is not bad
  free-clean : dest places g ≡ FREE → bad_entry racks places g ≡ false
  unfolding bad_entry free
  free-clean e = ap not (or_l (is_user racks (dest places g)) (eq-eqb (dest places g) FREE e))

  user-clean : is_user racks (dest places g) ≡ true → bad_entry racks places g ≡ false
  unfolding bad_entry
  user-clean u = ap not (or_r (free places g) u)

  module _ (at : ℕ) (ea : at ≡ mark_at (slots racks) g (dest places g)) where
    -- an entry whose mark stands open names a slot
    names-slot : (dest places g ≡ FREE → ⊥) → get_or marks at 0 ≡ 1 → (at ≡ dest places g) × (dest places g ≤ slots racks)
    names-slot f m = elim (dec_lt (slots racks) (dest places g)) [
      | yes l ↦
          let e : at ≡ slots racks = ea ∙ sym (mark-at-none (slots racks) g (dest places g) f l) in
          absurd (omega (arith, user_lt racks at (o.users at (omega arith) m)))
      | no l ↦ (ea ∙ sym (mark-at-slot (slots racks) g (dest places g) f (omega arith)), omega arith)
    ]

    at-clean : get_or marks at 0 ≡ 1 → bad_entry racks places g ≡ false
    at-clean m = elim (ℕ_discrete (dest places g) FREE) [
      | yes e ↦ free-clean e
      | no e ↦
          let n = names-slot e m in
          user-clean (o.users (dest places g) n.1 (ap (λ (k : ℕ). get_or marks k 0) (sym n.0) ∙ m))
    ]

    at-single : get_or marks at 0 ≡ 1 → repeats places g ≡ false
    unfolding repeats
    at-single m = elim (ℕ_discrete (dest places g) FREE) [
      | yes e ↦ repeats-free places g e
      | no e ↦
          let n = names-slot e m in
          and-off_r (not (free places g)) (o.unnamed (dest places g) n.1 (ap (λ (k : ℕ). get_or marks k 0) (sym n.0) ∙ m))
    ]

    module _ (fits : Bool) (after : List ℕ) (t : MarkTaken marks at fits after) where
      -- a mark that is open after the entry was so before, and the entry does not name it
      still : (v : ℕ) → v ≤ slots racks → get_or after v 0 ≡ 1 → (get_or marks v 0 ≡ 1) × (at ≡ v → ⊥)
      still v l m = elim (ℕ_discrete v at) [
        | yes e ↦
            let z : get_or after v 0 ≡ 0 = ap (λ (k : ℕ). get_or after k 0) e ∙ ap (λ (xs : List ℕ). get_or xs at 0) t.marks-are ∙ get_or-set_same marks at 0 0 (omega (arith, o.long)) in
            absurd (omega arith)
        | no e ↦ (sym (get_or-set_other marks at v 0 0 e) ∙ ap (λ (xs : List ℕ). get_or xs v 0) (sym t.marks-are) ∙ m, λ q. e (sym q))
      ]

      unnamed-more : (v : ℕ) → v ≤ slots racks → get_or after v 0 ≡ 1 → some (g + 1) (names places v) ≡ false
      unfolding names
      unnamed-more v l m =
          let s = still v l m in
          rw (some_more g (names places v)) (or-none (o.unnamed v l s.0) (ne_eqb (dest places g) v (λ e. s.1 (ea ∙ sym (mark-at-slot (slots racks) g (dest places g) (λ q. omega arith) (omega arith)) ∙ e))))

      pub once_more : Once racks places after (all and fits) (g + 1)
      once_more =
          record {
            users = λ v l m. o.users v l (still v l m).0;
            unnamed = unnamed-more;
            clean = λ b. below_more (λ k. bad_entry racks places k ≡ false) g (o.clean (and_l fits b)) (at-clean (eqb-true (get_or marks at 0) 1 (sym t.fits-is ∙ and_r all b)));
            single = λ b. below_more (λ k. repeats places k ≡ false) g (o.single (and_l fits b)) (at-single (eqb-true (get_or marks at 0) 1 (sym t.fits-is ∙ and_r all b)));
            long = ap length t.marks-are ∙ length-set marks at 0 ∙ o.long;
          }

-- the whole table
pub once-all : (racks : List Rack) (places marks : List ℕ) (all : Bool) (g : ℕ) → g ≡ length places → Once racks places marks all g → all ≡ true → 0 ≡ entries_number racks places
unfolding entries_number bad_entries bad_twice
once-all racks places marks all g e o t =
    sym
    (first-later (some (length places) (bad_entry racks places)) 5 _ (some-none (length places) (bad_entry racks places) (λ k l. o.clean t k (omega arith)))
    ∙ first-later (some (length places) (repeats places)) 6 [] (some-none (length places) (repeats places) (λ k l. o.single t k (omega arith)))
    ∙ first-none)
