-- What a call gives by the capacities: refused by its racks' own numbers, or by the job that was made of them. Assumes nothing.
use mathlib.Core.Path.{◌≡◌, refl, ap, sym, ◌∙◌}
use mathlib.Core.List.{List, ◌∷◌, ◌++◌}
use Prim.Native.Nat.{ℕ}
use Rattle.std.specs.Prelude.{Err}
use Rattle.counting.specs.Checks.{Check, first, known, done}
use Rattle.counting.specs.Tests.{◌or◌, pick}
use Rattle.counting.proofs.Checks.{first-append, first-later, first-known, first-join, first_past, first-clear, first_of, first-end}
use Rattle.answers.specs.Answers.{Refusal, placeless, refusal_of, answer, answered, no_counts, listed, listed_of}
use Rattle.answers.specs.declared.Refusal as given
use Rattle.answers.specs.declared.Tally.{Tally}
use Rattle.answers.proofs.Answers.{refuses, listed-refused}
use Rattle.racks.specs.Racks.{Rack, of_caps}
use Rattle.racks.specs.Numbers.{bad_bytes, bad_places, bad_cards, entry_checks, places_checks, table_checks, card_checks, rack_checks, size_checks, refusal_in}
use Rattle.racks.specs.Job.{good_job, racks_of}
use Rattle.racks.specs.declared.Job.{Job}
use Rattle.racks.proofs.Jobs.{of-racks}
use Rattle.racks.proofs.Caps.{sizes-bytes, sizes-racks}
use Rattle.racks.proofs.Legal.{checks-places}
use Rattle.racks.proofs.Marked.{table-marked, cards-marked, sizes-marked}
use Rattle.racks.proofs.Places.{NoPlace, place_none}
use Rattle.tables.specs.Check.{checked}
use Rattle.tables.specs.parts.Tables.{refusal_by, table_number, cards_number}

-- the racks' own numbers have no place
racks-placeless : (racks : List Rack) → NoPlace (first (rack_checks racks))
unfolding rack_checks
racks-placeless racks = first_of NoPlace _ 1 _ (λ _. (refl, refl)) (first_of NoPlace _ 3 _ (λ _. (refl, refl)) (first-end NoPlace (refl, refl)))

sizes-placeless : (racks : List Rack) (b : ℕ) → NoPlace (first (size_checks racks b))
unfolding size_checks
sizes-placeless racks b =
    first_of NoPlace _ 1 _ (λ _. (refl, refl))
    (first_of NoPlace _ 2 _ (λ _. (refl, refl)) (first_of NoPlace _ 3 _ (λ _. (refl, refl)) (first-end NoPlace (refl, refl))))

-- a refusal by the first of the checks stays that of all
module _ (racks : List Rack) (places : List ℕ) (checks rest : List Check) (free : NoPlace (first checks)) (e : given.Refusal) (is : refusal_of e ≡ placeless (first checks)) where
  pub refused-first : refusal_of e ≡ refusal_in racks places (first (checks ++ rest))
  refused-first =
      let f = λ (z : first checks ≡ 0). refuses e (ap (λ (x : Refusal). x.number) is ∙ z) in
      is ∙ sym (place_none racks places (first checks) free) ∙ ap (refusal_in racks places) (sym (first-append checks rest f))

-- a call that is lent a table, refused by its racks
module _ (caps : List ℕ) (e : given.Refusal) (is : refusal_of e ≡ placeless (first (rack_checks (of_caps caps)))) (places : List ℕ) where
  pub refused-racks : (rest : List Check) → refusal_of e ≡ refusal_in (of_caps caps) places (first (rack_checks (of_caps caps) ++ rest))
  refused-racks rest = refused-first (of_caps caps) places (rack_checks (of_caps caps)) rest (racks-placeless (of_caps caps)) e is

  pub refused-table : (rest : List Check) → refusal_of e ≡ refusal_in (of_caps caps) places (first (table_checks (of_caps caps) places ++ rest))
  unfolding table_checks rack_checks
  refused-table rest = refused-racks (places_checks (of_caps caps) places ++ rest)

  -- the table check
  pub checked-racks : answer (refusal_of e) no_counts ≡ checked (of_caps caps) places
  unfolding checked table_checks
  checked-racks = ap (λ (x : Refusal). answer x no_counts) (refused-racks (places_checks (of_caps caps) places))

  -- a call that writes into a lent list
  pub listed-racks : (rest : List Check) (t : Tally) (out lent : List ℕ)
      → listed_of (answered (Err e)) lent ≡ listed (refusal_in (of_caps caps) places (first (table_checks (of_caps caps) places ++ rest))) t out lent
  listed-racks rest t out lent = listed-refused _ t out lent e (refused-table rest)

-- a call that is lent cards too, refused by its racks or by B
module _ (caps : List ℕ) (b : ℕ) (e : given.Refusal) (is : refusal_of e ≡ placeless (first (size_checks (of_caps caps) b))) (places cards : List ℕ) where
  pub refused-cards : (rest : List Check) → refusal_of e ≡ refusal_in (of_caps caps) places (first (card_checks (of_caps caps) b places cards ++ rest))
  unfolding size_checks card_checks
  refused-cards rest =
      refused-first (of_caps caps) places (size_checks (of_caps caps) b) ((bad_places (of_caps caps) places or bad_cards (of_caps caps) b cards, 4) ∷ entry_checks (of_caps caps) places ++ rest) (sizes-placeless (of_caps caps) b) e is

  pub refused-sizes : refusal_of e ≡ refusal_in (of_caps caps) places (first (card_checks (of_caps caps) b places cards))
  unfolding size_checks card_checks
  refused-sizes =
      refused-first (of_caps caps) places (size_checks (of_caps caps) b) ((bad_places (of_caps caps) places or bad_cards (of_caps caps) b cards, 4) ∷ entry_checks (of_caps caps) places) (sizes-placeless (of_caps caps) b) e is

-- further checks after those of the table, of racks that are in order
module _ (racks : List Rack) (places : List ℕ) (z : first (rack_checks racks) ≡ 0) where
  number-checks : (rest : List Check) → first (known (first (places_checks racks places)) ∷ rest) ≡ first (table_checks racks places ++ rest)
  number-checks rest =
      first-known (first (places_checks racks places)) rest
      ∙ ap (λ (n : ℕ). pick (done n) (first rest) n) (sym (checks-places racks places z))
      ∙ sym (first-join rest (table-marked racks places))

-- and of its cards, where B is in order too
module _ (racks : List Rack) (b : ℕ) (places cards : List ℕ) (z : first (size_checks racks b) ≡ 0) where
  number-sizes : first ((bad_bytes b, 2) ∷ (bad_places racks places or bad_cards racks b cards, 4) ∷ entry_checks racks places) ≡ first (card_checks racks b places cards)
  unfolding size_checks card_checks
  number-sizes =
      first-later _ 2 _ (sizes-bytes racks b z)
      ∙ sym (first_past ((bad_places racks places or bad_cards racks b cards, 4) ∷ entry_checks racks places) (first-clear (sizes-marked racks b) z))

  number-cards : (rest : List Check)
      → first (known (first ((bad_bytes b, 2) ∷ (bad_places racks places or bad_cards racks b cards, 4) ∷ entry_checks racks places)) ∷ rest) ≡ first (card_checks racks b places cards ++ rest)
  number-cards rest =
      first-known (first ((bad_bytes b, 2) ∷ (bad_places racks places or bad_cards racks b cards, 4) ∷ entry_checks racks places)) rest
      ∙ ap (λ (n : ℕ). pick (done n) (first rest) n) number-sizes
      ∙ sym (first-join rest (cards-marked racks b places cards))

-- what a definition says of a job made of capacities it says of them
pub by-racks : {A : Type 0} (caps : List ℕ) (job : Job) → (first (rack_checks (of_caps caps)) ≡ 0) × (job ≡ good_job (of_caps caps)) → (f : List Rack → A) → f (racks_of job) ≡ f (of_caps caps)
by-racks caps job m f = ap f (of-racks caps job m)

-- a job made of capacities: its numbers are theirs
module _ (caps : List ℕ) (job : Job) (m : (first (rack_checks (of_caps caps)) ≡ 0) × (job ≡ good_job (of_caps caps))) (places : List ℕ) where
  pub checked_by : answer (refusal_by job places (table_number job places)) no_counts ≡ checked (of_caps caps) places
  unfolding checked table_number
  checked_by =
      by-racks caps job m (λ (r : List Rack). answer (refusal_in r places (first (places_checks r places))) no_counts)
      ∙ ap (λ (n : ℕ). answer (refusal_in (of_caps caps) places n) no_counts) (sym (checks-places (of_caps caps) places m.0))

  module _ (rest : List Rack → List Check) where
    pub of_refusal : {A : Type 0} (f : Refusal → List Rack → A)
        → f (refusal_by job places (first (known (table_number job places) ∷ rest (racks_of job)))) (racks_of job)
        ≡ f (refusal_in (of_caps caps) places (first (table_checks (of_caps caps) places ++ rest (of_caps caps)))) (of_caps caps)
    unfolding table_number
    of_refusal f =
        by-racks caps job m (λ (r : List Rack). f (refusal_in r places (first (known (first (places_checks r places)) ∷ rest r))) r)
        ∙ ap (λ (n : ℕ). f (refusal_in (of_caps caps) places n) (of_caps caps)) (number-checks (of_caps caps) places m.0 (rest (of_caps caps)))

-- and with cards
module _ (caps : List ℕ) (b : ℕ) (job : Job) (m : (first (size_checks (of_caps caps) b) ≡ 0) × (job ≡ good_job (of_caps caps))) (places cards : List ℕ) where
  -- the job is one of racks in order
  pub of-sizes : (first (rack_checks (of_caps caps)) ≡ 0) × (job ≡ good_job (of_caps caps))
  of-sizes = (sizes-racks (of_caps caps) b m.0, m.1)

  pub of-cards : {A : Type 0} (f : Refusal → List Rack → A)
      → f (refusal_by job places (cards_number job b places cards)) (racks_of job)
      ≡ f (refusal_in (of_caps caps) places (first (card_checks (of_caps caps) b places cards))) (of_caps caps)
  unfolding cards_number
  of-cards f =
      by-racks caps job of-sizes (λ (r : List Rack). f (refusal_in r places (first ((bad_bytes b, 2) ∷ (bad_places r places or bad_cards r b cards, 4) ∷ entry_checks r places))) r)
      ∙ ap (λ (n : ℕ). f (refusal_in (of_caps caps) places n) (of_caps caps)) (number-sizes (of_caps caps) b places cards m.0)

  pub of-card_refusal : (rest : List Rack → List Check) {A : Type 0} (f : Refusal → List Rack → A)
      → f (refusal_by job places (first (known (cards_number job b places cards) ∷ rest (racks_of job)))) (racks_of job)
      ≡ f (refusal_in (of_caps caps) places (first (card_checks (of_caps caps) b places cards ++ rest (of_caps caps)))) (of_caps caps)
  unfolding cards_number
  of-card_refusal rest f =
      by-racks caps job of-sizes (λ (r : List Rack). f (refusal_in r places (first (known (first ((bad_bytes b, 2) ∷ (bad_places r places or bad_cards r b cards, 4) ∷ entry_checks r places)) ∷ rest r))) r)
      ∙ ap (λ (n : ℕ). f (refusal_in (of_caps caps) places n) (of_caps caps)) (number-cards (of_caps caps) b places cards m.0 (rest (of_caps caps)))
