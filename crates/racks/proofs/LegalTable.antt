-- A legal table, as the layers above use it: what the checks of a table leave, no more and no less. Assumes nothing.
use mathlib.Core.Path.{◌≡◌, ap, sym, ◌∙◌}
use mathlib.Core.Bool.{false, not}
use mathlib.Core.List.{List}
use Prim.Native.Nat.{ℕ, ◌<◌}
use native.Mathlib.Omega.{arith}
use native.Mathlib.Decide.{dec_le}
use lib.ListN.{length}
use borrow.Author.Tests.{eq-eqb, eqb-true, ne_eqb, le-ltb}
use Rattle.counting.specs.Checks.{first}
use Rattle.counting.proofs.Tests.{by-test, both, no_way, not-off, not-off-is, or-on, or_l, or_r, and-off_l, and-off_r}
use Rattle.counting.proofs.Some.{some-hit, some-none, some-off}
use Rattle.counting.proofs.Checks.{Clear, clear_first}
use Rattle.counting.proofs.Checks.Clear.{none, more}
use Rattle.racks.specs.Limits.{FREE}
use Rattle.racks.specs.Racks.{Rack, of_caps, slots, rack_of, spare_of, is_user}
use Rattle.racks.specs.Table.{dest, free, names}
use Rattle.racks.specs.parts.Legal.{Legal, Spared}
use Rattle.racks.specs.Numbers.{bad_places, bad_entry, bad_entries, repeats, bad_twice, places_checks, table_checks, rack_checks}
use Rattle.racks.proofs.Geometry.{base-suc, end_le, spare-is, rack-is, user-is, user_lt}
use Rattle.racks.proofs.Caps.{length-caps, users-caps, width-caps}
use Rattle.racks.proofs.Legal.{checks-places, table_none, places-clear}

-- the first spare of rack p
module _ (racks : List Rack) (s : Spared racks) (p : ℕ) (l : p < length racks) where
  -- is a slot
  pub spare_lt : spare_of racks p < slots racks
  spare_lt = omega (arith, s.spare p l, end_le racks p l)

  -- of rack p
  pub spare-rack : rack_of racks (spare_of racks p) ≡ p
  spare-rack = rack-is racks p (spare_of racks p) l (omega (arith, spare-is racks p)) (s.spare p l)

  -- and no user slot
  pub spare-none : is_user racks (spare_of racks p) ≡ false
  spare-none = user-is racks (spare_of racks p) spare_lt ∙ rw spare-rack (le-ltb (spare_of racks p) (spare_of racks p) (omega arith))

module _ (racks : List Rack) (places : List ℕ) where
  -- a table that is not refused by itself
  module _ (z : first (places_checks racks places) ≡ 0) where
    all_named : length places ≡ slots racks
    unfolding places_checks bad_places
    all_named = go (places-clear racks places z)
      where
        go : Clear (places_checks racks places) → length places ≡ slots racks
        go (more t (more _ (more _ none))) = eqb-true _ _ (not-off-is t)

    none-bad : (g : ℕ) → g < length places → bad_entry racks places g ≡ false
    unfolding places_checks bad_entries
    none-bad g l = go (places-clear racks places z)
      where
        go : Clear (places_checks racks places) → bad_entry racks places g ≡ false
        go (more _ (more t (more _ none))) = some-off (length places) (bad_entry racks places) t g l

    none-twice : (g : ℕ) → g < length places → repeats places g ≡ false
    unfolding places_checks bad_twice
    none-twice g l = go (places-clear racks places z)
      where
        go : Clear (places_checks racks places) → repeats places g ≡ false
        go (more _ (more _ (more t none))) = some-off (length places) (repeats places) t g l

    -- a later entry names another slot
    later : (g h : ℕ) → g < h → h < slots racks → free places h ≡ false → dest places g ≡ dest places h → ⊥
    unfolding repeats names
    later g h l m f e =
        no_way (both (not-off f) (some-hit h (names places (dest places h)) g l (eq-eqb _ _ e))) (none-twice h (omega (arith, all_named)))

    -- it is legal
    pub places-legal : Legal racks places
    unfolding bad_entry free
    places-legal =
        record {
          long = all_named;
          named = λ g l f. or-on (free places g) _ (not-off-is (none-bad g (omega (arith, all_named)))) f;
          once = λ g h l m f e. elim (dec_le g h) [
            | yes k ↦ elim (dec_le h g) [ yes k' ↦ omega arith | no k' ↦ absurd (later g h (omega arith) m (rw e at f) e) ]
            | no k ↦ absurd (later h g (omega arith) l f (sym e))
          ];
        }

  -- nor by its racks
  pub legal : first (table_checks racks places) ≡ 0 → Legal racks places
  legal z = places-legal (table_none racks places z).1

  -- a card's destination is a slot
  pub legal-dest : Legal racks places → (g : ℕ) → g < slots racks → free places g ≡ false → dest places g < slots racks
  legal-dest v g l f = user_lt racks (dest places g) (v.named g l f)

  -- the same, by the tests that code makes of what it reads
  pub legal-slot : Legal racks places → (g x : ℕ) → g < length places → x ≡ dest places g → (x ≡ FREE → ⊥) → x < slots racks
  unfolding free
  legal-slot v g x l e f = rw e (legal-dest v g (omega (arith, v.long)) (ne_eqb (dest places g) FREE (λ q. f (e ∙ q))))

  clean-entry : Legal racks places → (g : ℕ) → g < length places → bad_entry racks places g ≡ false
  unfolding bad_entry
  clean-entry v g l =
      let m : g < slots racks = omega (arith, v.long) in
      by-test (free places g) (λ f. ap not (or_l _ f)) (λ f. ap not (or_r (free places g) (v.named g m f)))

  new-entry : Legal racks places → (g : ℕ) → g < length places → repeats places g ≡ false
  unfolding repeats names
  new-entry v g l =
      let m : g < slots racks = omega (arith, v.long) in
      by-test (free places g) (λ f. and-off_l _ (ap not f))
      (λ f. and-off_r _ (some-none g (names places (dest places g)) (λ h k. ne_eqb (dest places h) (dest places g) (λ e. omega (arith, v.once g h m (omega arith) f (sym e))))))

  -- a legal table is not refused by itself
  pub legal-places : Legal racks places → first (places_checks racks places) ≡ 0
  unfolding places_checks bad_places bad_entries bad_twice
  legal-places v =
      clear_first (more (ap not (eq-eqb _ _ v.long))
      (more (some-none (length places) (bad_entry racks places) (clean-entry v)) (more (some-none (length places) (repeats places) (new-entry v)) none)))

  -- nor, of racks that are not refused, at all
  pub legal-checks : first (rack_checks racks) ≡ 0 → Legal racks places → first (table_checks racks places) ≡ 0
  legal-checks z v = checks-places racks places z ∙ legal-places v

-- racks made from capacities have a spare each
pub spared-caps : (caps : List ℕ) → Spared (of_caps caps)
spared-caps caps =
    record {
      spare = λ p l.
          let m : p < length caps = omega (arith, length-caps caps) in
          omega (arith, spare-is (of_caps caps) p, base-suc (of_caps caps) p, users-caps caps p m, width-caps caps p m);
    }
