-- Laws of the entries read one after another, with the marks of the slots that they name. Assumes nothing.
use mathlib.Core.Path.{◌≡◌, refl, ap, sym, ◌∙◌, subst}
use mathlib.Core.Bool.{Bool, true, false, not}
use mathlib.Core.List.{List, [], ◌∷◌, ◌++◌}
use Prim.Native.Nat.{ℕ, suc, ◌+◌, ◌-◌, ◌≤◌, ◌<◌}
use native.Mathlib.Omega.{arith}
use native.Mathlib.Nat.{zero-add}
use native.Mathlib.Numerals.{add-one}
use native.Mathlib.Decide.{ℕ_discrete, dec_le}
use lib.Dec.{eqb}
use lib.ListN.{length, set, take, length-append, length-set, get_or-append}
use lib.Seq.{get_or_at, take-suc-set}
use borrow.Author.Tests.{eq-eqb, ne_eqb}
use Rattle.counting.specs.Tests.{◌and◌, ◌or◌, pick}
use Rattle.counting.specs.Count.{some}
use Rattle.counting.specs.Lists.{each}
use Rattle.counting.specs.Checks.{first}
use Rattle.counting.proofs.Lists.{length-each, each_append}
use Rattle.counting.proofs.Tests.{by-test}
use Rattle.counting.proofs.Least.{least-is}
use Rattle.counting.proofs.Checks.{first-here, first-later, first-none, first_of, first-end}
use Rattle.std.specs.Prelude.{Option, None, Ok, Err}
use Rattle.answers.specs.Answers.{placeless, refusal_of}
use Rattle.answers.specs.declared.Refusal as given
use Rattle.answers.specs.declared.Refusal.TheVariants as case
use Rattle.answers.proofs.Answers.{refuses}
use Rattle.racks.specs.Limits.{FREE}
use Rattle.racks.specs.Racks.{Rack, slots, is_user}
use Rattle.racks.specs.Table.{dest, free}
use Rattle.racks.specs.Numbers.{bad_entry, repeats, bad_twice}
use Rattle.racks.proofs.Geometry.{user-none}
use Rattle.entries.specs.parts.Marks.{UsersMarked, Entered, first_twice, twice_in, twice_to}
use Rattle.entries.proofs.Marks.{Passed, passed_none, passed_cong, passed-more, bad-5, clean-5}
use Rattle.numerals.specs.Numeral.{refused, Numerals, numerals}
use Rattle.parsing.specs.File.{wrong_entry, entry_of, first_entries, bad_up_to, entry_place, refusal_at}
use Rattle.parsing.specs.parts.Parsing.{entries, entries_checks, EntriesRead}
use Rattle.numerals.specs.parts.Bounds.{ranged, outside, place_with}
use Rattle.numerals.proofs.Numerals.{got, stopped, reading, passed-good, numerals-go, numerals-stop, numerals-bad, numerals-number, numerals_longer, inside, outside-none, outside_high}

-- an entry of the file is wrong where the table's entry is bad
module _ (racks : List Rack) (x : ℕ) where
  -- 5 by the numeral in the file
  abbrev pub wrong-file : Bool
  wrong-file = not (eqb x 0) and not (is_user racks (x - 1))

  -- 5 by the entry that it becomes
  abbrev wrong-table : Bool
  wrong-table = not (eqb (entry_of x) FREE or is_user racks (entry_of x))

  -- the two agree
  pub wrong-same : x ≤ 4096 → wrong-file ≡ wrong-table
  unfolding entry_of ◌and◌ ◌or◌
  wrong-same l = elim (ℕ_discrete x 0) [
    | yes e ↦ rw e
    | no f ↦ let g : x - 1 ≡ FREE → ⊥ = λ q. omega arith in rw (ne_eqb x 0 f, ne_eqb (x - 1) FREE g)
  ]

  wrong-5 : (before : List ℕ) → wrong-file ≡ true → wrong_entry racks before x ≡ 5
  unfolding wrong_entry
  wrong-5 before h = first-here _ 5 _ h

  wrong-0 : (before : List ℕ) → wrong-file ≡ false → wrong_entry racks before x ≡ 0
  unfolding wrong_entry
  wrong-0 before h = first-later _ 5 _ h ∙ first-none

  wrong_large : slots racks ≤ 4096 → 4096 < x → wrong-file ≡ true
  unfolding ◌and◌
  wrong_large s l = rw (ne_eqb x 0 (λ e. omega arith), user-none racks (x - 1) (omega arith))

-- a list of one more
module _ (raw : List ℕ) (x g : ℕ) (count : length raw ≡ g) where
  abbrev more : List ℕ
  more = each entry_of (raw ++ x ∷ [])

  more-is : more ≡ each entry_of raw ++ entry_of x ∷ []
  unfolding each
  more-is = each_append entry_of raw (x ∷ [])

  more-first : (h : ℕ) → h < g → dest (each entry_of raw) h ≡ dest more h
  more-first h l = rw more-is (sym (get_or-append (each entry_of raw) (entry_of x ∷ []) FREE h (omega (arith, length-each entry_of raw))))

  more-last : dest more g ≡ entry_of x
  more-last = rw more-is (get_or_at (each entry_of raw) (entry_of x) [] FREE g (length-each entry_of raw ∙ count))

-- g entries are read: they are at the front of the list and were passed, and what follows is read as from the start
pub record Entering (racks : List Rack) (file : List ℕ) (at g next : ℕ) (places marks : List ℕ) (twice : Option ℕ) : Type 0 where
  pub raw : List ℕ
  pub count : length raw ≡ g
  pub kept : take g places ≡ each entry_of raw
  pub left : (m : ℕ) → numerals (wrong_entry racks) m file next raw ≡ numerals (wrong_entry racks) (g + m) file at []
  pub passed : Passed racks (each entry_of raw) marks (twice_in twice) g
  pub long : length places ≡ 4096

-- the entries of racks, from a position on
module _ (racks : List Rack) (file : List ℕ) (at : ℕ) where
  -- the first n of them
  abbrev firstly : ℕ → Numerals
  firstly n = first_entries racks n file at

  -- they are not refused with 6
  pub no-6 : (n : ℕ) → eqb (firstly n).number 6 ≡ false
  unfolding wrong_entry
  no-6 n = numerals-number (λ k. eqb k 6 ≡ false) refl refl refl refl (wrong_entry racks) (λ before x. first_of (λ k. eqb k 6 ≡ false) _ 5 [] (λ _. refl) (first-end (λ k. eqb k 6 ≡ false) refl)) n file at []

  -- where g of them are read and the next is refused, all are refused with its number
  module _ (g k : ℕ) (l : g < slots racks) (z : (firstly g).number ≡ 0) (e : firstly (suc g) ≡ stopped k) (f : k ≡ 0 → ⊥) where
    at-k : (firstly (suc g)).number ≡ k
    at-k = ap (λ (r : Numerals). r.number) e

    all-k : (entries racks file at).number ≡ k
    unfolding entries
    all-k =
        let n : suc g + (slots racks - suc g) ≡ slots racks = omega arith in
        ap (λ (m : ℕ). (firstly m).number) (sym n) ∙ numerals_longer (wrong_entry racks) (suc g) (slots racks - suc g) file at [] (λ q. f (sym at-k ∙ q)) ∙ at-k

    -- no fewer of them are
    before_g : (j : ℕ) → j < g → bad_up_to racks file at j ≡ false
    unfolding bad_up_to
    before_g j m = ne_eqb (firstly (suc j)).number 5 (λ q.
        let n : suc j + (g - suc j) ≡ g = omega arith in
        let e : (firstly (suc j + (g - suc j))).number ≡ (firstly (suc j)).number = numerals_longer (wrong_entry racks) (suc j) (g - suc j) file at [] (λ y. omega arith) in
        omega (arith, ap (λ (i : ℕ). (firstly i).number) n))

    -- so with 5 it is the place, and other numbers have none
    place_is : pick (eqb k 5) g 0 ≡ entry_place racks file at k
    unfolding entry_place bad_up_to
    place_is = elim (ℕ_discrete k 5) [
      | yes q ↦ rw q (sym (least-is (slots racks) (bad_up_to racks file at) g l (eq-eqb (firstly (suc g)).number 5 (at-k ∙ q)) before_g))
      | no q ↦ rw (ne_eqb k 5 q, ← at-k, no-6 (suc g))
    ]

    stopped-read : (x : given.Refusal) → refusal_of x ≡ record { number = k; place = pick (eqb k 5) g 0 } → (places : List ℕ) → length places ≡ 4096 → EntriesRead racks file at (Err x) places
    unfolding entries_checks refusal_at
    stopped-read x is places long =
        record {
          refusal_is = is ∙ rw (all-k, first-here _ k _ (ap not (ne_eqb k 0 f)), place_is);
          next-is = record {};
          places-are = record {};
          long = long;
        }

module _ (racks : List Rack) (file : List ℕ) (at : ℕ) (places marks : List ℕ) where
  -- none is read yet
  pub entering-none : UsersMarked racks marks → length places ≡ 4096 → Entering racks file at 0 at places marks None
  unfolding each
  entering-none m l =
      record {
        raw = [];
        count = refl;
        kept = refl;
        left = λ n. rw zero-add;
        passed = passed_none racks [] marks m;
        long = l;
      }

  module _ (g next : ℕ) (twice : Option ℕ) (c : Entering racks file at g next places marks twice) where
    -- those that are read are not refused
    read_so_far : (firstly racks file at g).number ≡ 0
    unfolding numerals
    read_so_far = let z : g + 0 ≡ g = omega arith in sym (ap (λ (r : Numerals). r.number) (c.left 0 ∙ ap (firstly racks file at) z))

    module _ (small : slots racks ≤ 4096) (l : g < slots racks) where
      as-bad : (v : ℕ) → (outside 0 4096 5 v ≡ 0 → ⊥) → wrong_entry racks c.raw v ≡ outside 0 4096 5 v
      as-bad v f = elim (dec_le v 4096) [
        | yes h ↦ absurd (f (outside-none 0 4096 5 v (omega arith) h))
        | no h ↦ wrong-5 racks v c.raw (wrong_large racks v small (omega arith)) ∙ sym (outside_high 0 4096 5 v (omega arith))
      ]

      -- the next one is refused
      stops : (x : given.Refusal) → numerals (wrong_entry racks) 1 file next c.raw ≡ stopped (refusal_of x).number
          → (refusal_of x).place ≡ pick (eqb (refusal_of x).number 5) g 0 → EntriesRead racks file at (Err x) places
      stops x e p =
          let n = (refusal_of x).number in
          stopped-read racks file at g n l read_so_far (ap (firstly racks file at) (sym (add-one g)) ∙ sym (c.left 1) ∙ e) (refuses x) x (λ i. record { number = n; place = p i }) places c.long

      -- by its form, or one that no slot has
      pub entering-stop : (x : given.Refusal) → refused (refusal_of x).number ≡ ranged 0 4096 5 file next
          → (refusal_of x).place ≡ place_with (refusal_of (case.BadEntry g)) (refusal_of x).number → EntriesRead racks file at (Err x) places
      unfolding ranged place_with
      entering-stop x e p = stops x (numerals-stop file next (wrong_entry racks) 0 c.raw (outside 0 4096 5) as-bad (refusal_of x).number e) p

      -- one is between the limits
      module _ (x behind : ℕ) (e : got x behind ≡ ranged 0 4096 5 file next) where
        pub entry-small : x ≤ 4096
        unfolding ranged
        entry-small = (inside 0 4096 5 x (omega arith) (passed-good file next (outside 0 4096 5) x behind e)).1

        -- and has its number by the marks
        module _ (y n : ℕ) (after : List ℕ) (ey : y ≡ entry_of x) (entered : Entered marks y n after) where
          abbrev now : List ℕ
          now = more c.raw x g c.count

          passed-now : Passed racks now marks (twice_in twice) g
          passed-now = passed_cong racks (each entry_of c.raw) now marks g (more-first c.raw x g c.count) (twice_in twice) c.passed

          entered-now : Entered marks (dest now g) n after
          entered-now = subst (λ (v : ℕ). Entered marks v n after) (ey ∙ sym (more-last c.raw x g c.count)) entered

          bad-now : bad_entry racks now g ≡ wrong-file racks x
          unfolding bad_entry free
          bad-now = ap (λ (v : ℕ). not (eqb v FREE or is_user racks v)) (more-last c.raw x g c.count) ∙ sym (wrong-same racks x entry-small)

          -- 5: it names no user slot
          pub entering-5 : n ≡ 5 → (z : given.Refusal) → z ≡ case.BadEntry g → EntriesRead racks file at (Err z) places
          unfolding ranged
          entering-5 q z is =
              rw is
              (stops (case.BadEntry g)
              (numerals-bad file next (wrong_entry racks) 0 c.raw (outside 0 4096 5) x behind 5 e
              (wrong-5 racks x c.raw (sym bad-now ∙ bad-5 racks small now g marks (twice_in twice) passed-now n after entered-now q)) (λ z. omega arith)) refl)

          -- else one more is read
          pub entering-more : (n ≡ 5 → ⊥) → (twice' : Option ℕ) → twice_in twice' ≡ first_twice (twice_in twice) n g → Entering racks file at (g + 1) behind (set places g y) after twice'
          unfolding ranged
          entering-more f twice' et =
              record {
                raw = c.raw ++ x ∷ [];
                count = length-append c.raw (x ∷ []) ∙ omega (arith, c.count);
                kept =
                    ap (λ (k : ℕ). take k (set places g y)) (add-one g)
                    ∙ take-suc-set places g y (omega (arith, c.long))
                    ∙ ap (λ (l : List ℕ). l ++ y ∷ []) c.kept
                    ∙ ap (λ (v : ℕ). each entry_of c.raw ++ v ∷ []) ey
                    ∙ sym (more-is c.raw x g c.count);
                left = λ m.
                    let same : g + suc m ≡ g + 1 + m = omega arith in
                    sym (numerals-go file next (wrong_entry racks) m c.raw (outside 0 4096 5) x behind e
                    (wrong-0 racks x c.raw (sym bad-now ∙ clean-5 racks small now g marks (twice_in twice) passed-now n after entered-now f)))
                    ∙ c.left (suc m)
                    ∙ ap (firstly racks file at) same;
                passed = rw et (passed-more racks small now g marks (twice_in twice) passed-now n after entered-now f);
                long = length-set places g y ∙ c.long;
              }

    -- all are read
    module _ (end : g ≡ slots racks) where
      read_all : reading c.raw next ≡ entries racks file at
      unfolding numerals entries
      read_all = let e : g + 0 ≡ slots racks = omega arith in c.left 0 ∙ ap (firstly racks file at) e

      table_is : take (slots racks) places ≡ each entry_of c.raw
      table_is = ap (λ (k : ℕ). take k places) (sym end) ∙ c.kept

      -- 6 where one repeats an earlier one
      twice-is : twice_in twice ≡ refusal_at racks file at (first (entries_checks (entries racks file at)))
      unfolding entries_checks bad_twice first refusal_at entry_place twice_to entries
      twice-is =
          let n : length (each entry_of c.raw) ≡ g = length-each entry_of c.raw ∙ c.count in
          rw (← read_all, n) (c.passed.twice-is ∙ by-test (some g (repeats (each entry_of c.raw))) (λ h. rw h) (λ h. rw h))

      pub entering-6 : (x : given.Refusal) → refusal_of x ≡ twice_in twice → EntriesRead racks file at (Err x) places
      entering-6 x e = record { refusal_is = e ∙ twice-is; next-is = record {}; places-are = record {}; long = c.long }

      -- none is refused
      pub entering-done : placeless 0 ≡ twice_in twice → EntriesRead racks file at (Ok next) places
      entering-done e =
          record {
            refusal_is = e ∙ twice-is;
            next-is = ap (λ (y : Numerals). y.next) read_all;
            places-are = table_is ∙ ap (λ (y : Numerals). each entry_of y.values) read_all;
            long = c.long;
          }
