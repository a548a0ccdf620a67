-- The place of each call's answer is the one that the rules name. Assumes nothing.
use mathlib.Core.Path.{◌≡◌, refl, sym, ap, ◌∙◌}
use mathlib.Core.Logic.{◌↔◌}
use mathlib.Core.Bool.{Bool, true, false}
use mathlib.Core.List.{List, [], ◌∷◌, ◌++◌}
use Prim.Native.Nat.{ℕ, zero, suc, ◌+◌, ◌-◌, ◌<◌}
use native.Mathlib.Omega.{arith}
use native.Mathlib.Numerals.{add-one}
use native.Mathlib.Decide.{ℕ_discrete}
use lib.Dec.{eqb}
use lib.ListN.{length}
use borrow.Author.Tests.{eq-eqb, ne_eqb, eqb-true}
use Rattle.counting.specs.Count.{some, least}
use Rattle.counting.specs.Checks.{Check, first}
use Rattle.counting.proofs.Tests.{no_way}
use Rattle.counting.proofs.Some.{some-hit}
use Rattle.counting.proofs.Least.{least_on, least-below, least_lt}
use Rattle.counting.proofs.Checks.{first_of}
use Rattle.racks.specs.Racks.{Rack, slots}
use Rattle.racks.specs.Numbers.{bad_entry, bad_entries, repeats, bad_twice, table_checks, card_checks, rack_checks, places_checks, refusal_in}
use Rattle.racks.proofs.Places.{NoPlace}
use Rattle.answers.specs.Answers.{answer, no_counts}
use Rattle.answers.specs.declared.Tally.{Tally}
use Rattle.numerals.specs.Numeral.{numerals}
use Rattle.numerals.proofs.Numerals.{numerals_longer}
use Rattle.parsing.specs.File.{wrong_entry, first_entries, read_m, read_entries, file_racks, file_places, file_checks, bad_up_to, entry_place, refusal_at, file_refusal}
use Rattle.parsing.proofs.Entries.{no-6}
use Rattle.parsing.proofs.Files.{N-placeless, B-placeless, M-placeless}
use Rattle.demands.specs.Rows.{None, Holds}
use Rattle.demands.specs.FileConditions.{ask_entry, entry_rows}
use Rattle.demands.specs.Places.{LowestOf, TablePlaced, FilePlaced}
use Rattle.demands.proofs.Says.{says-entry, says-repeats}
use Rattle.demands.proofs.FileRows.{given-entry, given-numerals}

-- a search finds the lowest number that passes
lowest-is : (n : ℕ) (f : ℕ → Bool) (P : ℕ → Type 0) → ((k : ℕ) → (f k ≡ true) ↔ P k) → some n f ≡ true → LowestOf (λ (g : ℕ). (g < n) × P g) (least n f)
lowest-is n f P says e = (
  (least_lt n f e, (says (least n f)).0 (least_on n f (least_lt n f e))),
  λ k l p. no_way ((says k).1 p.1) (least-below n f k l),
)

-- a number that is neither is not looked at
apart : (X Y : Type 0) (n : ℕ) → NoPlace n → (n ≡ 5 → X) × (n ≡ 6 → Y)
apart X Y n p = (λ e. absurd (no_way (eq-eqb n 5 e) p.0), λ e. absurd (no_way (eq-eqb n 6 e) p.1))

-- a table: what its 5 and its 6 say
module _ (racks : List Rack) (places : List ℕ) where
  abbrev Tells : ℕ → Type 0
  Tells n = (n ≡ 5 → bad_entries racks places ≡ true) × (n ≡ 6 → bad_twice places ≡ true)

  not_these : (n : ℕ) → NoPlace n → {b : Bool} → b ≡ true → Tells n
  not_these n p e = apart _ _ n p

  at-entries : (ds : List Check) → NoPlace (first ds) → Tells (first ((bad_entries racks places, 5) ∷ (bad_twice places, 6) ∷ ds))
  at-entries ds p =
      first_of Tells _ 5 _ (λ t. (λ _. t, λ e. absurd (omega arith)))
      (first_of Tells _ 6 ds (λ t. (λ e. absurd (omega arith), λ _. t)) (apart _ _ (first ds) p))

  -- with any checks behind the table's that have no place
  pub tells-table : (ds : List Check) → NoPlace (first ds) → Tells (first (table_checks racks places ++ ds))
  unfolding table_checks places_checks rack_checks
  tells-table ds p =
      first_of Tells _ 1 _ (not_these 1 (refl, refl)) (first_of Tells _ 3 _ (not_these 3 (refl, refl)) (first_of Tells _ 4 _ (not_these 4 (refl, refl)) (at-entries ds p)))

  -- and behind those of the table and its cards
  pub tells-cards : (b : ℕ) (cards : List ℕ) (ds : List Check) → NoPlace (first ds) → Tells (first (card_checks racks b places cards ++ ds))
  unfolding card_checks
  tells-cards b cards ds p =
      first_of Tells _ 1 _ (not_these 1 (refl, refl)) (first_of Tells _ 2 _ (not_these 2 (refl, refl))
      (first_of Tells _ 3 _ (not_these 3 (refl, refl)) (first_of Tells _ 4 _ (not_these 4 (refl, refl)) (at-entries ds p))))

  -- so the place is the lowest such entry
  pub placed-table : (n : ℕ) → Tells n → (t : Tally) → TablePlaced racks places (answer (refusal_in racks places n) t)
  unfolding bad_entries bad_twice
  placed-table n h t =
      record {
        bad = λ e. rw e (lowest-is (length places) (bad_entry racks places) _ (says-entry racks places) (h.0 e));
        twice = λ e. rw e (lowest-is (length places) (repeats places) _ (says-repeats places) (h.1 e));
        other = λ f g. rw (ne_eqb n 5 f, ne_eqb n 6 g);
      }

-- a file
module _ (file : List ℕ) where
  abbrev TellsIn : ℕ → Type 0
  TellsIn n = (n ≡ 5 → (read_entries file).number ≡ 5) × (n ≡ 6 → bad_twice (file_places file) ≡ true)

  clear_of : (n : ℕ) → NoPlace n → {b : Bool} → b ≡ true → TellsIn n
  clear_of n p e = apart _ _ n p

  -- its entries are not refused with 6 one by one
  not_six : eqb (read_entries file).number 6 ≡ false
  unfolding read_entries
  not_six = no-6 (file_racks file) file (read_m file).next (slots (file_racks file))

  pub tells-file : (ds : List Check) → NoPlace (first ds) → TellsIn (first (file_checks file ++ ds))
  unfolding file_checks
  tells-file ds p =
      first_of TellsIn _ _ _ (clear_of _ (N-placeless file)) (first_of TellsIn _ _ _ (clear_of _ (B-placeless file)) (first_of TellsIn _ _ _ (clear_of _ (M-placeless file))
      (first_of TellsIn _ (read_entries file).number _ (λ _. (λ e. e, λ e. absurd (no_way (eq-eqb _ 6 e) not_six)))
      (first_of TellsIn _ 6 _ (λ t. (λ e. absurd (omega arith), λ _. t))
      (first_of TellsIn _ 15 _ (clear_of 15 (refl, refl)) (first_of TellsIn _ 16 ds (clear_of 16 (refl, refl)) (apart _ _ (first ds) p)))))))

  -- the number of its first n entries
  abbrev up_to : ℕ → ℕ
  up_to n = (first_entries (file_racks file) n file (read_m file).next).number

  abbrev bad-first : ℕ
  bad-first = least (slots (file_racks file)) (bad_up_to (file_racks file) file (read_m file).next)

  -- where all are refused with 5, the entries up to one are
  module _ (z : (read_entries file).number ≡ 5) where
    all-5 : up_to (slots (file_racks file)) ≡ 5
    unfolding read_entries
    all-5 = z

    some-slot : 0 < slots (file_racks file)
    unfolding numerals
    some-slot = elim (ℕ_discrete (slots (file_racks file)) 0) [ yes e ↦ absurd (omega (arith, all-5, ap up_to e)) | no f ↦ omega arith ]

    some-bad : some (slots (file_racks file)) (bad_up_to (file_racks file) file (read_m file).next) ≡ true
    unfolding bad_up_to
    some-bad =
        let e : suc (slots (file_racks file) - 1) ≡ slots (file_racks file) = omega (arith, some-slot) in
        some-hit (slots (file_racks file)) (bad_up_to (file_racks file) file (read_m file).next) (slots (file_racks file) - 1) (omega (arith, some-slot))
        (eq-eqb (up_to (suc (slots (file_racks file) - 1))) 5 (ap up_to e ∙ all-5))

    below-slots : bad-first < slots (file_racks file)
    below-slots = least_lt (slots (file_racks file)) (bad_up_to (file_racks file) file (read_m file).next) some-bad

    at-bad : up_to (suc bad-first) ≡ 5
    unfolding bad_up_to
    at-bad = eqb-true (up_to (suc bad-first)) 5 (least_on (slots (file_racks file)) (bad_up_to (file_racks file) file (read_m file).next) below-slots)

    -- and those before it are not refused
    before-bad : (n : ℕ) → n ≡ bad-first → up_to n ≡ 0
    unfolding numerals bad_up_to
    before-bad zero e = refl
    before-bad (suc k) e = elim (ℕ_discrete (up_to (suc k)) 0) [
      | yes q ↦ q
      | no f ↦
          let same : up_to (suc k + 1) ≡ up_to (suc k) = numerals_longer (wrong_entry (file_racks file)) (suc k) 1 file (read_m file).next [] f in
          let five : up_to (suc k) ≡ 5 = sym same ∙ ap up_to (add-one (suc k)) ∙ ap (λ (n : ℕ). up_to (suc n)) e ∙ at-bad in
          absurd (no_way (eq-eqb (up_to (suc k)) 5 five) (least-below (slots (file_racks file)) (bad_up_to (file_racks file) file (read_m file).next) k (omega arith)))
    ]

    pub first-bad : (bad-first < slots (file_racks file)) × None (entry_rows file bad-first) × Holds 5 (entry_rows file (suc bad-first))
    first-bad =
        let g = given-numerals (ask_entry (file_racks file)) (wrong_entry (file_racks file)) file (given-entry (file_racks file)) in
        (below-slots, (g bad-first (read_m file).next []).done.0 (before-bad bad-first refl), ((g (suc bad-first) (read_m file).next []).refused 5 (λ e. omega arith)).0 at-bad)

  pub placed-file : (n : ℕ) → TellsIn n → FilePlaced file (answer (file_refusal file n) no_counts)
  unfolding file_refusal refusal_at entry_place bad_twice file_places read_entries
  placed-file n h =
      record {
        bad = λ e. rw e (first-bad (h.0 e));
        twice = λ e. rw e (lowest-is (length (file_places file)) (repeats (file_places file)) _ (says-repeats (file_places file)) (h.1 e));
        other = λ f g. rw (ne_eqb n 5 f, ne_eqb n 6 g);
      }
