-- Laws of the pass over the entries: the marks, and the numbers 5 and 6 with their places. Assumes nothing.
use mathlib.Core.Path.{◌≡◌, refl, ap, sym, ◌∙◌}
use mathlib.Core.Bool.{Bool, true, false, not}
use mathlib.Core.List.{List}
use Prim.Native.Nat.{ℕ, ◌+◌, ◌≤◌, ◌<◌}
use native.Mathlib.Omega.{arith}
use native.Mathlib.Decide.{ℕ_discrete, dec_lt}
use lib.Dec.{eqb}
use lib.ListN.{length, get_or, set, length-set}
use lib.Seq.{get_or-set_same, get_or-set_other}
use borrow.Author.Tests.{eq-eqb, ne_eqb, lt-ltb, le-ltb}
use borrow.Author.Count.{below_more}
use Rattle.std.specs.Prelude.{Option, Some, None, Ok}
use Rattle.std.specs.Option.{option_or}
use Rattle.counting.specs.Tests.{◌and◌, ◌or◌, pick}
use Rattle.counting.specs.Count.{some}
use Rattle.counting.specs.Checks.{first}
use Rattle.counting.proofs.Tests.{by-test, or_r, or_false, or_l, or-none, not_on, and-off_l, no_way}
use Rattle.counting.proofs.Some.{some-hit, some-none, some_cong, some_more, some-zero}
use Rattle.counting.proofs.Least.{least-is, least_kept, least-new, least_cong}
use Rattle.counting.proofs.Checks.{first-here}
use Rattle.answers.specs.Answers.{Refusal, placeless}
use Rattle.racks.specs.Limits.{FREE}
use Rattle.racks.specs.Racks.{Rack, slots, is_user}
use Rattle.racks.specs.Table.{dest, free, names}
use Rattle.racks.specs.Numbers.{bad_entry, bad_entries, repeats, bad_twice}
use Rattle.racks.proofs.Geometry.{user_lt}
use Rattle.racks.proofs.Legal.{entry-cases}
use Rattle.entries.specs.parts.Marks.{UsersMarked, mark_of, number_of, mark_in, entry_number, named, Entered, naming_number, entries_number, entries_refusal, first_twice, twice_in, twice_to}

-- one entry, by the tests that the code makes
module _ (marks : List ℕ) (x : ℕ) where
  mark-slot : x < 4096 → mark_in marks x ≡ get_or marks x 0
  unfolding mark_in
  mark-slot l = rw (lt-ltb x 4096 l)

  mark-beyond : 4096 ≤ x → mark_in marks x ≡ 0
  unfolding mark_in
  mark-beyond l = rw (le-ltb x 4096 l)

  unnamed : (mark_in marks x ≡ 1 → ⊥) → marks ≡ named marks x
  unfolding named
  unnamed f = rw (ne_eqb (mark_in marks x) 1 f)

  pub entered-free : x ≡ FREE → Entered marks x 0 marks
  unfolding entry_number
  entered-free e = record { number_is = rw (eq-eqb x FREE e); marks-are = unnamed (λ q. omega (arith, mark-beyond (omega arith))) }

  module _ (f : x ≡ FREE → ⊥) where
    by_mark : entry_number marks x ≡ number_of (mark_in marks x)
    unfolding entry_number
    by_mark = rw (ne_eqb x FREE f)

    entered-none : mark_in marks x ≡ 0 → Entered marks x 5 marks
    unfolding number_of
    entered-none e = record { number_is = sym (by_mark ∙ rw e); marks-are = unnamed (λ q. omega arith) }

    pub entered-beyond : 4096 ≤ x → Entered marks x 5 marks
    entered-beyond l = entered-none (mark-beyond l)

    module _ (l : x < 4096) where
      pub entered-5 : get_or marks x 0 ≡ 0 → Entered marks x 5 marks
      entered-5 e = entered-none (mark-slot l ∙ e)

      pub entered-6 : (get_or marks x 0 ≡ 0 → ⊥) → (get_or marks x 0 ≡ 1 → ⊥) → Entered marks x 6 marks
      unfolding number_of
      entered-6 z o =
          let m = mark-slot l in
          record { number_is = sym (by_mark ∙ rw (ne_eqb (mark_in marks x) 0 (λ q. z (sym m ∙ q)), ne_eqb (mark_in marks x) 1 (λ q. o (sym m ∙ q)))); marks-are = unnamed (λ q. o (sym m ∙ q)) }

      pub entered-0 : get_or marks x 0 ≡ 1 → Entered marks x 0 (set marks x 2)
      unfolding number_of named
      entered-0 e = let m : mark_in marks x ≡ 1 = mark-slot l ∙ e in record { number_is = sym (by_mark ∙ rw m); marks-are = rw m }

-- an entry that is not refused has another number than 5
pub good-5 : (again : Bool) → naming_number (Ok again) ≡ 5 → ⊥
good-5 true e = omega arith
good-5 false e = omega arith

-- the first that repeats an earlier one is kept, or it is entry g, where that does
module _ (g : ℕ) where
  pub twice_kept : (was : Option ℕ) → twice_in was ≡ first_twice (twice_in was) 0 g
  unfolding first_twice
  twice_kept (Some h) = refl
  twice_kept None = refl

  pub twice-or : (was : Option ℕ) → twice_in (option_or was (Some g)) ≡ first_twice (twice_in was) 6 g
  unfolding first_twice
  twice-or (Some h) = refl
  twice-or None = refl

-- an entry keeps the length
length-named : (marks : List ℕ) (x : ℕ) → length (named marks x) ≡ length marks
unfolding named
length-named marks x = by-test (eqb (mark_in marks x) 1) (λ t. rw t (length-set marks x 2)) (λ t. rw t)

-- the first g entries were passed: none is bad, the user slots that they name are marked, and `twice` is 6 and the lowest that repeats an earlier one
pub record Passed (racks : List Rack) (places marks : List ℕ) (twice : Refusal) (g : ℕ) : Type 0 where
  pub clean : (k : ℕ) → k < g → bad_entry racks places k ≡ false
  pub marks-are : (v : ℕ) → v < 4096 → get_or marks v 0 ≡ mark_of racks places g v
  pub twice-is : twice ≡ twice_to places g
  pub long : 4096 ≤ length marks

pub passed_none : (racks : List Rack) (places marks : List ℕ) → UsersMarked racks marks → Passed racks places marks (placeless 0) 0
unfolding mark_of twice_to
passed_none racks places marks m =
    record {
      clean = λ k l. absurd (omega arith);
      marks-are = λ v l. by-test (is_user racks v) (λ u. rw (u, some-zero (names places v)) (m.marks v l ∙ rw u)) (λ u. rw u (m.marks v l ∙ rw u));
      twice-is = rw (some-zero (repeats places));
      long = m.long;
    }

-- it is the first g entries alone that were passed: another table may have the same
module _ (racks : List Rack) (p q marks : List ℕ) (g : ℕ) (e : (h : ℕ) → h < g → dest p h ≡ dest q h) where
  repeats_cong : (k : ℕ) → k < g → repeats p k ≡ repeats q k
  unfolding repeats free names
  repeats_cong k l =
      ap (λ (x : ℕ). not (eqb x FREE) and some k (names p x)) (e k l)
      ∙ ap (λ (b : Bool). not (eqb (dest q k) FREE) and b)
      (some_cong k (names p (dest q k)) (names q (dest q k)) (λ j m. ap (λ (x : ℕ). eqb x (dest q k)) (e j (omega arith))))

  twice_cong : twice_to p g ≡ twice_to q g
  unfolding twice_to
  twice_cong = rw (some_cong g (repeats p) (repeats q) repeats_cong, least_cong g (repeats p) (repeats q) repeats_cong)

  pub passed_cong : (twice : Refusal) → Passed racks p marks twice g → Passed racks q marks twice g
  unfolding bad_entry free names mark_of
  passed_cong twice h =
      record {
        clean = λ k l. ap (λ (x : ℕ). not (eqb x FREE or is_user racks x)) (sym (e k l)) ∙ h.clean k l;
        marks-are = λ v l.
            h.marks-are v l
            ∙ ap (λ (b : Bool). pick (is_user racks v) (pick b 2 1) 0) (some_cong g (names p v) (names q v) (λ k m. ap (λ (x : ℕ). eqb x v) (e k m)));
        twice-is = h.twice-is ∙ twice_cong;
        long = h.long;
      }

-- a free slot's entry repeats none
pub repeats-free : (places : List ℕ) (g : ℕ) → dest places g ≡ FREE → repeats places g ≡ false
unfolding repeats free
repeats-free places g e = and-off_l _ (ap not (eq-eqb (dest places g) FREE e))

module _ (racks : List Rack) (small : slots racks ≤ 4096) (places : List ℕ) (g : ℕ) where
  -- one entry more: the slot that it names is named, the others are as before
  other : (v : ℕ) → (dest places g ≡ v → ⊥) → mark_of racks places (g + 1) v ≡ mark_of racks places g v
  unfolding mark_of names
  other v h = rw (some_more g (names places v), or_false (some g (names places v)) (ne_eqb (dest places g) v h))

  same : is_user racks (dest places g) ≡ true → mark_of racks places (g + 1) (dest places g) ≡ 2
  unfolding mark_of names
  same u =
      let x = dest places g in
      rw (u, some_more g (names places x), or_r (some g (names places x)) (eq-eqb x x refl))

  repeats-user : (dest places g ≡ FREE → ⊥) → repeats places g ≡ some g (names places (dest places g))
  unfolding repeats free ◌and◌
  repeats-user f = rw (ne_eqb (dest places g) FREE f)

  -- what was found before the entry stays, where it is a 6; else 6 is given to this one, where it repeats an earlier one
  twice-more : (twice : Refusal) (n : ℕ) (b : Bool) → repeats places g ≡ b → n ≡ pick b 6 0 → twice ≡ twice_to places g → first_twice twice n g ≡ twice_to places (g + 1)
  unfolding first_twice twice_to
  twice-more twice n b r e w = by-test (some g (repeats places)) found (new b r e)
    where
      found : some g (repeats places) ≡ true → first_twice twice n g ≡ twice_to places (g + 1)
      found h = rw (w, h, some_more g (repeats places), or_l (repeats places g) h, least_kept g (repeats places) h)

      new : (c : Bool) → repeats places g ≡ c → n ≡ pick c 6 0 → some g (repeats places) ≡ false → first_twice twice n g ≡ twice_to places (g + 1)
      new true q z h = rw (w, z, h, some_more g (repeats places), or_r (some g (repeats places)) q, least-new g (repeats places) h q)
      new false q z h = rw (w, z, h, some_more g (repeats places), or-none h q)

  module _ (marks : List ℕ) (twice : Refusal) (p : Passed racks places marks twice g) where
    -- the mark of the slot that the entry names
    mark-none : is_user racks (dest places g) ≡ false → mark_in marks (dest places g) ≡ 0
    unfolding mark_of
    mark-none u = elim (dec_lt (dest places g) 4096) [
      | yes l ↦ mark-slot marks (dest places g) l ∙ p.marks-are (dest places g) l ∙ rw u
      | no l ↦ mark-beyond marks (dest places g) (omega arith)
    ]

    user-small : is_user racks (dest places g) ≡ true → dest places g < 4096
    user-small u = omega (arith, user_lt racks (dest places g) u)

    read-user : is_user racks (dest places g) ≡ true → (b : Bool) → some g (names places (dest places g)) ≡ b → get_or marks (dest places g) 0 ≡ pick b 2 1
    unfolding mark_of
    read-user u b e = p.marks-are (dest places g) (user-small u) ∙ rw (u, e)

    mark-user : is_user racks (dest places g) ≡ true → (b : Bool) → some g (names places (dest places g)) ≡ b → mark_in marks (dest places g) ≡ pick b 2 1
    mark-user u b e = mark-slot marks (dest places g) (user-small u) ∙ read-user u b e

    -- the number of the entry, by what it is
    module _ (n : ℕ) (after : List ℕ) (e : Entered marks (dest places g) n after) where
      n-free : dest places g ≡ FREE → n ≡ 0
      unfolding entry_number
      n-free h = e.number_is ∙ rw (eq-eqb (dest places g) FREE h)

      n-card : (dest places g ≡ FREE → ⊥) → (m : ℕ) → mark_in marks (dest places g) ≡ m → n ≡ number_of m
      unfolding entry_number
      n-card f m h = e.number_is ∙ rw (ne_eqb (dest places g) FREE f) (ap number_of h)

      n-user : (dest places g ≡ FREE → ⊥) → is_user racks (dest places g) ≡ true → (b : Bool) → some g (names places (dest places g)) ≡ b → n ≡ pick b 6 0
      unfolding number_of
      n-user f u true h = n-card f 2 (mark-user u true h)
      n-user f u false h = n-card f 1 (mark-user u false h)

      -- 5 is given exactly to a bad entry
      pub bad-5 : n ≡ 5 → bad_entry racks places g ≡ true
      bad-5 q = by-test (bad_entry racks places g) (λ t. t)
          (λ t. entry-cases racks places g t
          (λ h. absurd (omega (arith, n-free h)))
          (λ f u. by-test (some g (names places (dest places g)))
          (λ b. absurd (omega (arith, n-user f u true b)))
          (λ b. absurd (omega (arith, n-user f u false b)))))

      pub clean-5 : (n ≡ 5 → ⊥) → bad_entry racks places g ≡ false
      unfolding bad_entry free number_of
      clean-5 q = by-test (bad_entry racks places g)
          (λ t. let b = not_on t in
          absurd (q (n-card (or-off_ne b) 0 (mark-none (or-off-user b)))))
          (λ t. t)
        where
          or-off_ne : (eqb (dest places g) FREE or is_user racks (dest places g)) ≡ false → dest places g ≡ FREE → ⊥
          or-off_ne b h = no_way (or_l (is_user racks (dest places g)) (eq-eqb (dest places g) FREE h)) b

          or-off-user : (eqb (dest places g) FREE or is_user racks (dest places g)) ≡ false → is_user racks (dest places g) ≡ false
          or-off-user b = by-test (is_user racks (dest places g)) (λ u. absurd (no_way (or_r (eqb (dest places g) FREE) u) b)) (λ u. u)

      module _ (f : n ≡ 5 → ⊥) where
        kept : (mark_in marks (dest places g) ≡ 1 → ⊥) → after ≡ marks
        unfolding named
        kept h = e.marks-are ∙ rw (ne_eqb (mark_in marks (dest places g)) 1 h)

        renamed : mark_in marks (dest places g) ≡ 1 → after ≡ set marks (dest places g) 2
        unfolding named
        renamed h = e.marks-are ∙ rw h

        -- the marks after the entry
        after_free : dest places g ≡ FREE → (v : ℕ) → v < 4096 → get_or after v 0 ≡ mark_of racks places (g + 1) v
        after_free h v l =
            rw (kept (λ q. omega (arith, mark-beyond marks (dest places g) (omega arith))))
            (p.marks-are v l ∙ sym (other v (λ q. omega arith)))

        after_again : is_user racks (dest places g) ≡ true → some g (names places (dest places g)) ≡ true → (v : ℕ) → v < 4096 → get_or after v 0 ≡ mark_of racks places (g + 1) v
        after_again u b v l = rw (kept (λ q. omega (arith, mark-user u true b)))
            (elim (ℕ_discrete (dest places g) v) [
              | yes q ↦ rw (← q) (read-user u true b ∙ sym (same u))
              | no q ↦ p.marks-are v l ∙ sym (other v q)
            ])

        after-new : is_user racks (dest places g) ≡ true → some g (names places (dest places g)) ≡ false → (v : ℕ) → v < 4096 → get_or after v 0 ≡ mark_of racks places (g + 1) v
        after-new u b v l = rw (renamed (mark-user u false b))
            (elim (ℕ_discrete (dest places g) v) [
              | yes q ↦ rw (← q) (get_or-set_same marks (dest places g) 2 0 (omega (arith, p.long, user-small u)) ∙ sym (same u))
              | no q ↦ get_or-set_other marks (dest places g) v 2 0 (λ r. q (sym r)) ∙ p.marks-are v l ∙ sym (other v q)
            ])

        marks-more : (v : ℕ) → v < 4096 → get_or after v 0 ≡ mark_of racks places (g + 1) v
        marks-more = entry-cases racks places g (clean-5 f) after_free
            (λ h u. by-test (some g (names places (dest places g))) (after_again u) (after-new u))

        twice-next : first_twice twice n g ≡ twice_to places (g + 1)
        twice-next = entry-cases racks places g (clean-5 f)
            (λ h. twice-more twice n false (repeats-free places g h) (n-free h) p.twice-is)
            (λ h u. by-test (some g (names places (dest places g)))
            (λ b. twice-more twice n true (repeats-user h ∙ b) (n-user h u true b) p.twice-is)
            (λ b. twice-more twice n false (repeats-user h ∙ b) (n-user h u false b) p.twice-is))

        long-more : 4096 ≤ length after
        long-more = omega (arith, p.long, ap length e.marks-are ∙ length-named marks (dest places g))

        pub passed-more : Passed racks places after (first_twice twice n g) (g + 1)
        passed-more =
            record {
              clean = below_more (λ k. bad_entry racks places k ≡ false) g p.clean (clean-5 f);
              marks-are = marks-more;
              twice-is = twice-next;
              long = long-more;
            }

-- the whole table: the lowest bad entry, where there is one
module _ (racks : List Rack) (places : List ℕ) where
  pub entries-5 : (g : ℕ) → g < length places → bad_entry racks places g ≡ true → ((k : ℕ) → k < g → bad_entry racks places k ≡ false)
      → record { number = 5; place = g } ≡ entries_refusal racks places
  unfolding entries_refusal entries_number bad_entries
  entries-5 g l h c =
      rw (first-here (some (length places) (bad_entry racks places)) 5 _ (some-hit (length places) (bad_entry racks places) g l h), least-is (length places) (bad_entry racks places) g l h c)

  -- else the lowest that repeats an earlier one
  pub entries-passed : (marks : List ℕ) (twice : Refusal) (g : ℕ) → g ≡ length places → Passed racks places marks twice g → twice ≡ entries_refusal racks places
  unfolding entries_refusal entries_number bad_entries bad_twice first twice_to
  entries-passed marks twice g e p =
      let none = some-none (length places) (bad_entry racks places) (λ k l. p.clean k (omega arith)) in
      p.twice-is ∙ ap (twice_to places) e ∙ by-test (some (length places) (repeats places)) (λ h. rw (none, h)) (λ h. rw (none, h))
