-- Each test of the checks says the condition of its row. Assumes nothing.
use mathlib.Core.Path.{◌≡◌, sym, ◌∙◌}
use mathlib.Core.Logic.{◌≢◌, ◌↔◌, ◌⊎◌, inl, inr}
use mathlib.Core.Bool.{Bool, true, not}
use mathlib.Core.List.{List}
use Prim.Native.Nat.{ℕ, suc, ◌*◌, ◌≤◌, ◌<◌}
use native.Mathlib.Omega.{arith}
use native.Mathlib.Decide.{dec_le}
use lib.Dec.{eqb, ltb, leb}
use lib.ListN.{length}
use borrow.Author.Tests.{eqb-true, eq-eqb, ltb-true, lt-ltb, leb-true, le-leb}
use Rattle.counting.specs.Tests.{◌and◌, ◌or◌}
use Rattle.counting.specs.Count.{some}
use Rattle.counting.proofs.Tests.{by-test, both, and_l, and_r, or_l, or_r, or-on, not_on, not-off, no_way, off}
use Rattle.counting.proofs.Some.{some-hit, some-found}
use Rattle.racks.specs.Racks.{Rack, users, base, slots, rack_of, is_user}
use Rattle.racks.specs.Table.{dest, free, rack_to, on_rack, away, names}
use Rattle.racks.specs.Numbers.{bad_count, bad_bytes, too_large, bad_size, bad_places, bad_cards, bad_entry, bad_entries, repeats, bad_twice, no_slot, source_free, source_home, elsewhere, target_taken, some_away, too_short}
use Rattle.racks.proofs.Geometry.{on-rack, rack-is, end_le, spare-end, spare-is, user-is, user_lt}
use Rattle.demands.specs.Conditions.{UserSlot, WrongN, WrongB, TooMany, WrongPlaces, WrongCards, WrongEntry, TwoNameOne, NoSlot, SourceFree, SourceHome, Elsewhere, TargetTaken, CardAway, TooShort}

-- numbers compared
pub says_eq : (m n : ℕ) → (eqb m n ≡ true) ↔ (m ≡ n)
says_eq m n = (eqb-true m n, eq-eqb m n)

pub says_lt : (m n : ℕ) → (ltb m n ≡ true) ↔ (m < n)
says_lt m n = (ltb-true m n, lt-ltb m n)

pub says_le : (m n : ℕ) → (leb m n ≡ true) ↔ (m ≤ n)
says_le m n = (leb-true m n, le-leb m n)

-- tests joined
module _ {A : Type 0} {a : Bool} (p : (a ≡ true) ↔ A) where
  pub says_not : (not a ≡ true) ↔ (¬ A)
  says_not = (λ t x. no_way (p.1 x) (not_on t), λ f. not-off (off (λ t. f (p.0 t))))

  module _ {B : Type 0} {b : Bool} (q : (b ≡ true) ↔ B) where
    pub says_or : ((a or b) ≡ true) ↔ (A ⊎ B)
    says_or = (λ t. by-test a (λ u. inl (p.0 u)) (λ u. inr (q.0 (or-on a b t u))), λ h. elim h [ inl x ↦ or_l b (p.1 x) | inr y ↦ or_r a (q.1 y) ])

    pub says_and : ((a and b) ≡ true) ↔ (A × B)
    says_and = (λ t. (p.0 (and_l b t), q.0 (and_r a t)), λ h. both (p.1 h.0) (q.1 h.1))

-- some number below n
pub says_some : (n : ℕ) (f : ℕ → Bool) (P : ℕ → Type 0) → ((k : ℕ) → (f k ≡ true) ↔ P k) → (some n f ≡ true) ↔ ((k : ℕ) × (k < n) × P k)
says_some n f P h = (λ t. let s = some-found n f t in (s.0, s.1, (h s.0).0 s.2), λ s. some-hit n f s.0 s.1 ((h s.0).1 s.2))

-- a user slot
pub says-user : (racks : List Rack) (g : ℕ) → (is_user racks g ≡ true) ↔ UserSlot racks g
says-user racks g = (there, back)
  where
    there : is_user racks g ≡ true → UserSlot racks g
    there t =
        let l : g < slots racks = user_lt racks g t in
        let o = on-rack racks g l in
        let e : rack_of racks g ≡ o.rack = rack-is racks o.rack g o.few o.low o.high in
        let b = ltb-true g _ (sym (user-is racks g l) ∙ t) in
        (o.rack, o.few, o.low, omega (arith, rw e at b, spare-is racks o.rack))

    back : UserSlot racks g → is_user racks g ≡ true
    back (p, l, low, high) =
        let h : g < base racks (suc p) = omega (arith, spare-end racks p, spare-is racks p) in
        let e : rack_of racks g ≡ p = rack-is racks p g l low h in
        user-is racks g (omega (arith, end_le racks p l)) ∙ rw e (lt-ltb g _ (omega (arith, spare-is racks p)))

-- 1, 2, 3
pub says-1 : (n : ℕ) → (bad_count n ≡ true) ↔ WrongN n
unfolding bad_count
says-1 n = says_or (says_eq n 0) (says_lt 64 n)

pub says-2 : (b : ℕ) → (bad_bytes b ≡ true) ↔ WrongB b
unfolding bad_bytes
says-2 b = says_or (says_eq b 0) (says_lt 256 b)

module _ (racks : List Rack) where
  pub says-3 : (bad_size racks ≡ true) ↔ TooMany racks
  unfolding bad_size too_large
  says-3 = says_or (says_some (length racks) (too_large racks) (λ p. 1023 < users racks p) (λ p. says_lt 1023 (users racks p))) (says_lt 4032 _)

  -- 7
  pub says-7 : (g : ℕ) → (no_slot racks g ≡ true) ↔ NoSlot racks g
  unfolding no_slot
  says-7 g = says_le (slots racks) g

  module _ (places : List ℕ) where
    -- 4, 5
    pub says-4 : (bad_places racks places ≡ true) ↔ WrongPlaces racks places
    unfolding bad_places
    says-4 = says_not (says_eq (length places) (slots racks))

    pub says-4-cards : (b : ℕ) (cards : List ℕ) → (bad_cards racks b cards ≡ true) ↔ WrongCards racks b cards
    unfolding bad_cards
    says-4-cards b cards = says_not (says_eq (length cards) (slots racks * b))

    pub says-entry : (g : ℕ) → (bad_entry racks places g ≡ true) ↔ ((dest places g ≢ 65535) × (¬ UserSlot racks (dest places g)))
    unfolding bad_entry free
    says-entry g =
        let s = says_not (says_or (says_eq (dest places g) 65535) (says-user racks (dest places g))) in
        (λ t. (λ e. s.0 t (inl e), λ u. s.0 t (inr u)), λ h. s.1 (λ w. elim w [ inl e ↦ h.0 e | inr u ↦ h.1 u ]))

    pub says-5 : (bad_entries racks places ≡ true) ↔ WrongEntry racks places
    unfolding bad_entries
    says-5 =
        let s = says_some (length places) (bad_entry racks places) (λ g. (dest places g ≢ 65535) × (¬ UserSlot racks (dest places g))) says-entry in
        (λ t. let w = s.0 t in (w.0, (w.1, w.2)), λ w. s.1 (w.0, w.1.0, w.1.1))

    -- 9, 10
    pub says-9 : (from : ℕ) → (source_home racks places from ≡ true) ↔ SourceHome racks places from
    unfolding source_home on_rack rack_to
    says-9 from = says_eq (rack_of racks from) (rack_of racks (dest places from))

    pub says-10 : (from to : ℕ) → (elsewhere racks places from to ≡ true) ↔ Elsewhere racks places from to
    unfolding elsewhere rack_to
    says-10 from to = says_not (says_eq (rack_of racks to) (rack_of racks (dest places from)))

    -- 12
    pub says-12 : (some_away racks places ≡ true) ↔ CardAway racks places
    unfolding some_away away free on_rack rack_to
    says-12 = says_some (slots racks) (away racks places) (λ g. (dest places g ≢ 65535) × (rack_of racks g ≢ rack_of racks (dest places g)))
        (λ g. says_and (says_not (says_eq (dest places g) 65535)) (says_not (says_eq (rack_of racks g) (rack_of racks (dest places g)))))

module _ (places : List ℕ) where
  -- 6
  pub says-repeats : (g : ℕ) → (repeats places g ≡ true) ↔ ((dest places g ≢ 65535) × ((h : ℕ) × (h < g) × (dest places h ≡ dest places g)))
  unfolding repeats free names
  says-repeats g = says_and (says_not (says_eq (dest places g) 65535)) (says_some g (names places (dest places g)) (λ h. dest places h ≡ dest places g) (λ h. says_eq (dest places h) (dest places g)))

  pub says-6 : (bad_twice places ≡ true) ↔ TwoNameOne places
  unfolding bad_twice
  says-6 = (there, back)
    where
      there : some (length places) (repeats places) ≡ true → TwoNameOne places
      there t =
          let (g, l, r) = some-found (length places) (repeats places) t in
          let (f, (h, m, e)) = (says-repeats g).0 r in
          (g, h, l, omega arith, (λ q. omega arith), f, sym e)

      hit : (g h : ℕ) → g < length places → h < g → dest places g ≢ 65535 → dest places h ≡ dest places g → some (length places) (repeats places) ≡ true
      hit g h l m f e = some-hit (length places) (repeats places) g l ((says-repeats g).1 (f, (h, m, e)))

      back : TwoNameOne places → some (length places) (repeats places) ≡ true
      back (g, h, l, m, d, f, e) = elim (dec_le g h) [ yes k ↦ hit h g m (omega arith) (λ q. f (e ∙ q)) e | no k ↦ hit g h l (omega arith) f (sym e) ]

  -- 8, 11
  pub says-8 : (from : ℕ) → (source_free places from ≡ true) ↔ SourceFree places from
  unfolding source_free free
  says-8 from = says_eq (dest places from) 65535

  pub says-11 : (to : ℕ) → (target_taken places to ≡ true) ↔ TargetTaken places to
  unfolding target_taken free
  says-11 to = says_not (says_eq (dest places to) 65535)

-- 13 and 19
pub says-short : (lent out : List ℕ) → (too_short lent out ≡ true) ↔ TooShort lent out
unfolding too_short
says-short lent out = says_lt (length lent) (length out)
