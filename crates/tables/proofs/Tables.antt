-- The check of a table, and of a table with its cards, by the job: what is refused, and what acceptance gives. Assumes nothing.
use mathlib.Core.Path.{◌≡◌, refl, ap, sym, ◌∙◌}
use mathlib.Core.Bool.{Bool, true, false, not}
use mathlib.Core.List.{List, ◌∷◌}
use Prim.Native.Nat.{ℕ, ◌*◌, ◌≤◌}
use native.Mathlib.Omega.{arith}
use lib.ListN.{length}
use borrow.Author.Tests.{eq-eqb, ne_eqb, eqb-true}
use Rattle.counting.specs.Tests.{◌or◌}
use Rattle.counting.specs.Checks.{first}
use Rattle.counting.proofs.Tests.{or_r, or_false, or-off_l, or-off_r, not-off-is}
use Rattle.counting.proofs.Checks.{first-here, first-later, first_off}
use Rattle.answers.specs.Answers.{Refusal, placeless}
use Rattle.racks.specs.Racks.{Rack, slots}
use Rattle.racks.specs.Numbers.{bad_count, bad_bytes, bad_size, bad_places, bad_cards, entry_checks, places_checks, card_checks}
use Rattle.racks.specs.Job.{racks_of, Sound}
use Rattle.racks.specs.declared.Job.{Job}
use Rattle.racks.proofs.Caps.{bytes-few}
use Rattle.racks.proofs.Jobs.{sound-slots}
use Rattle.racks.proofs.Legal.{checks-4, checks-entries}
use Rattle.racks.specs.parts.Legal.{Legal}
use Rattle.racks.proofs.LegalTable.{places-legal}
use Rattle.entries.specs.parts.Marks.{entries_number, entries_refusal}
use Rattle.tables.specs.parts.Tables.{Racked, OpenCards, Judged, Checked, CardsChecked, refusal_by, table_number, lent_number, cards_number}
use Rattle.tables.proofs.Refusals.{number_by, placeless_by}

module _ (job : Job) (places : List ℕ) where
  module _ (s : Sound job) where
    pub by_4 : (length places ≡ job.slots → ⊥) → placeless 4 ≡ refusal_by job places (table_number job places)
    unfolding table_number
    by_4 f = placeless_by job places 4 _ (refl, refl) (checks-4 (racks_of job) places (λ e. f (e ∙ sym (sound-slots job s))))

    number-entries : length places ≡ job.slots → entries_number (racks_of job) places ≡ table_number job places
    unfolding entries_number table_number
    number-entries e = checks-entries (racks_of job) places (e ∙ sound-slots job s)

    pub by_entries : length places ≡ job.slots → entries_refusal (racks_of job) places ≡ refusal_by job places (table_number job places)
    unfolding entries_refusal
    by_entries e = ap (refusal_by job places) (number-entries e)

    pub by-clear : length places ≡ job.slots → 0 ≡ entries_number (racks_of job) places → placeless 0 ≡ refusal_by job places (table_number job places)
    by-clear e z = placeless_by job places 0 _ (refl, refl) (z ∙ number-entries e)

  -- a table's number and place say all that it is judged to be
  pub judged : (x : Refusal) → x ≡ refusal_by job places (table_number job places) → Judged job places x
  unfolding table_number
  judged x is = record { refusal_is = is; legal = λ z. places-legal (racks_of job) places (sym (number_by job places is) ∙ z) }

-- a table that is judged, and each slot's rack
module _ {job : Job} {places : List ℕ} {x : Refusal} (j : Judged job places x) where
  pub checked_refused : (racking : List ℕ) → (x.number ≡ 0 → ⊥) → Checked job places x racking
  checked_refused racking f = record { refusal_is = j.refusal_is; opened = λ z. absurd (f z) }

  -- where it is not refused, each slot's rack is known too
  pub checked-filled : Sound job → (racking : List ℕ) → Racked (racks_of job) racking → Checked job places x racking
  checked-filled s racking r = record { refusal_is = j.refusal_is; opened = λ z. record { sound = s; legal = j.legal z; filled = r.filled; long = r.long } }

  -- its number
  pub judged-number : x.number ≡ table_number job places
  judged-number = number_by job places j.refusal_is

-- the number of a table that is checked
pub checked-number : {job : Job} {places : List ℕ} {x : Refusal} {racking : List ℕ} → Checked job places x racking → x.number ≡ table_number job places
checked-number {job} {places} c = number_by job places c.refusal_is

-- and of one with cards
pub cards-checked-number : {job : Job} {b : ℕ} {places cards : List ℕ} {x : Refusal} {racking : List ℕ} → CardsChecked job b places cards x racking
    → x.number ≡ cards_number job b places cards
cards-checked-number {job} {b} {places} c = number_by job places c.refusal_is

-- what is known where the table and its cards pass: a legal table, and cards of S·B bytes
module _ (racks : List Rack) (b : ℕ) (places cards : List ℕ) where
  pub cards-good : first ((bad_places racks places or bad_cards racks b cards, 4) ∷ entry_checks racks places) ≡ 0 → Legal racks places × (length cards ≡ slots racks * b)
  unfolding bad_cards places_checks
  cards-good z =
      let d = first_off (bad_places racks places or bad_cards racks b cards) 4 _ (λ e. omega arith) z in
      (places-legal racks places (first-later _ 4 _ (or-off_l _ d.0) ∙ d.1), eqb-true (length cards) (slots racks * b) (not-off-is (or-off_r (bad_places racks places) d.0)))

  pub cards_pass : first (card_checks racks b places cards) ≡ 0 → Legal racks places × (length cards ≡ slots racks * b)
  unfolding card_checks
  cards_pass z =
      let a = first_off (bad_count (length racks)) 1 _ (λ e. omega arith) z in
      let c = first_off (bad_bytes b) 2 _ (λ e. omega arith) a.1 in
      cards-good (first_off (bad_size racks) 3 _ (λ e. omega arith) c.1).1

module _ (job : Job) (b : ℕ) (places cards : List ℕ) where
  -- whatever b is
  module _ (s : Sound job) where
    pub lent-4 : (length cards ≡ job.slots * b → ⊥) → placeless 4 ≡ refusal_by job places (lent_number job b places cards)
    unfolding lent_number bad_cards
    lent-4 f =
        let g : length cards ≡ slots (racks_of job) * b → ⊥ = λ e. f (e ∙ ap (λ (n : ℕ). n * b) (sym (sound-slots job s))) in
        placeless_by job places 4 _ (refl, refl) (sym (first-here _ 4 _ (or_r (bad_places (racks_of job) places) (ap not (ne_eqb (length cards) (slots (racks_of job) * b) g)))))

    pub lent-table : length cards ≡ job.slots * b → table_number job places ≡ lent_number job b places cards
    unfolding table_number lent_number bad_cards places_checks
    lent-table e =
        let q : length cards ≡ slots (racks_of job) * b = e ∙ ap (λ (n : ℕ). n * b) (sound-slots job s) in
        ap (λ (x : Bool). first ((x, 4) ∷ entry_checks (racks_of job) places))
        (sym (or_false (bad_places (racks_of job) places) (ap not (eq-eqb (length cards) (slots (racks_of job) * b) q))))

    -- a table with cards that is not refused is accepted
    pub lent_open : b ≤ 256 → (racking : List ℕ) → Racked (racks_of job) racking → lent_number job b places cards ≡ 0 → OpenCards job b places cards racking
    unfolding lent_number
    lent_open l racking racked z =
        let g = cards-good (racks_of job) b places cards z in
        record {
          table = record { sound = s; legal = g.0; filled = racked.filled; long = racked.long };
          bytes = l;
          long = g.1;
        }

  -- where b is looked at too
  pub cards-2 : bad_bytes b ≡ true → placeless 2 ≡ refusal_by job places (cards_number job b places cards)
  unfolding cards_number
  cards-2 h = placeless_by job places 2 _ (refl, refl) (sym (first-here _ 2 _ h))

  -- past what it is refused with
  pub cards-lent : bad_bytes b ≡ false → lent_number job b places cards ≡ cards_number job b places cards
  unfolding lent_number cards_number
  cards-lent h = sym (first-later _ 2 _ h)

  -- where a table and its cards pass, b does
  pub cards-bytes : cards_number job b places cards ≡ 0 → bad_bytes b ≡ false
  unfolding cards_number
  cards-bytes z = (first_off (bad_bytes b) 2 _ (λ e. omega arith) z).0

  module _ (s : Sound job) (h : bad_bytes b ≡ false) where
    pub cards-4 : (length cards ≡ job.slots * b → ⊥) → placeless 4 ≡ refusal_by job places (cards_number job b places cards)
    cards-4 f = lent-4 s f ∙ ap (refusal_by job places) (cards-lent h)

    pub cards-table : length cards ≡ job.slots * b → table_number job places ≡ cards_number job b places cards
    cards-table e = lent-table s e ∙ cards-lent h

  -- a table with cards that is refused
  pub cards-refused : (x : Refusal) (racking : List ℕ) → x ≡ refusal_by job places (cards_number job b places cards) → (x.number ≡ 0 → ⊥)
      → CardsChecked job b places cards x racking
  cards-refused x racking is f = record { refusal_is = is; opened = λ z. absurd (f z) }

  -- one that is not is accepted
  pub cards_open : Sound job → (racking : List ℕ) → Racked (racks_of job) racking → cards_number job b places cards ≡ 0 → OpenCards job b places cards racking
  cards_open s racking racked z =
      let h = cards-bytes z in
      lent_open s (bytes-few b h) racking racked (cards-lent h ∙ z)
