-- The reader's outcome after the writer's, and the writer's after the reader's. Assumes nothing.
use mathlib.Core.Path.{◌≡◌, refl, sym, ap, ◌∙◌}
use mathlib.Core.List.{List, [], ◌∷◌, ◌++◌}
use Prim.Native.Nat.{ℕ, ◌-◌, ◌≤◌}
use native.Mathlib.Omega.{arith}
use native.Mathlib.Decide.{ℕ_discrete}
use lib.Dec.{ltb}
use lib.ListN.{length, take}
use lib.Seq.{sets}
use borrow.Author.Tests.{le-ltb, ltb-false}
use Rattle.counting.specs.Tests.{◌or◌}
use Rattle.counting.specs.Checks.{Check, first}
use Rattle.counting.proofs.Tests.{or-none, or-off_l, or-off_r}
use Rattle.counting.proofs.Checks.{first-later, first-none, first_off, first-append, first-clear, first_past}
use Rattle.counting.proofs.Stores.{take-front}
use Rattle.answers.specs.Answers.{placeless, answer, no_counts, SizeAnswer, Sized, sized_of, sized}
use Rattle.racks.specs.Racks.{of_caps, slots}
use Rattle.racks.specs.Numbers.{card_checks, too_short, refusal_in}
use Rattle.racks.proofs.Caps.{length-caps}
use Rattle.racks.proofs.Marked.{cards-marked}
use Rattle.tables.proofs.Tables.{cards_pass}
use Rattle.parsing.specs.File.{Read, read_m, read_entries, file_racks, file_bytes, file_places, file_cards, file_checks, entry_place, refusal_at, file_refusal, read_checks, read}
use Rattle.parsing.proofs.Files.{sure-past, file_sure}
use Rattle.parsing.proofs.Legal.{file-legal}
use Rattle.jobwriter.specs.Writing.{file_for, write_checks, filed, WriteFile}
use Rattle.roundtrip.specs.RoundTrip.{Bytes}
use Rattle.roundtrip.proofs.ReadBack.{read_back}
use Rattle.roundtrip.proofs.WriteBack.{write-back}

-- what a job is read as, into lent lists, from a file where its card bytes begin at `start`
abbrev pub read_as : List ℕ → ℕ → List ℕ → List ℕ → ℕ → List ℕ → List ℕ → Read
read_as caps b places cards start lent lent' = record {
  answer = answer (placeless 0) no_counts;
  racks = length caps;
  bytes = b;
  slots = length places;
  caps = sets lent 0 caps;
  places = sets lent' 0 places;
  start = start;
  cards = cards;
}

module _ (file lent lent' : List ℕ) where
  -- 17
  abbrev full : Check
  full = (ltb (length lent) (length (file_racks file)) or ltb (length lent') (slots (file_racks file)), 17)

  -- a file that is not refused, read into lists with room
  read_done : first (file_checks file) ≡ 0 → length (file_racks file) ≤ length lent → slots (file_racks file) ≤ length lent' → first (read_checks file lent lent') ≡ 0
  unfolding read_checks
  read_done z l m =
      sure-past (full ∷ []) (file_sure file) z ∙ first-later _ 17 [] (or-none (le-ltb (length lent) (length (file_racks file)) l) (le-ltb (length lent') (slots (file_racks file)) m)) ∙ first-none

  -- and what is known where the reader refuses nothing
  module _ (z : first (read_checks file lent lent') ≡ 0) where
    none : first (file_checks file) ≡ 0
    unfolding read_checks
    none = elim (ℕ_discrete (first (file_checks file)) 0) [ yes e ↦ e | no f ↦ absurd (f (sym (first-append (file_checks file) (full ∷ []) f) ∙ z)) ]

    room : (length (file_racks file) ≤ length lent) × (slots (file_racks file) ≤ length lent')
    unfolding read_checks
    room =
        let h = (first_off full.0 17 [] (λ e. omega arith) (sym (sure-past (full ∷ []) (file_sure file) none) ∙ z)).0 in
        (omega (arith, ltb-false (length lent) (length (file_racks file)) (or-off_l _ h)), omega (arith, ltb-false (length lent') (slots (file_racks file)) (or-off_r (ltb (length lent) (length (file_racks file))) h)))

    -- what is read, by the file's own parts
    parts : read file lent lent' ≡ read_as (read_m file).values (file_bytes file) (file_places file) (file_cards file) (read_entries file).next lent lent'
    unfolding read file_racks file_refusal refusal_at entry_place
    parts = rw (z, length-caps (read_m file).values, sym (cards_pass (file_racks file) (file_bytes file) (file_places file) (file_cards file) (file-legal file none)).0.long)

-- what was written, read
module _ (caps : List ℕ) (b : ℕ) (places cards lent : List ℕ) (r : SizeAnswer) (lent' : List ℕ) (w : WriteFile caps b places cards lent r lent') (z : r.answer.number ≡ 0) where
  abbrev file : List ℕ
  file = file_for (of_caps caps) b places cards

  -- nothing was refused
  number : first (write_checks (of_caps caps) b places cards lent) ≡ 0
  unfolding filed
  number = sym (ap (λ (o : Sized). o.answer.number) w) ∙ z

  accepted : first (card_checks (of_caps caps) b places cards) ≡ 0
  unfolding write_checks
  accepted = elim (ℕ_discrete (first (card_checks (of_caps caps) b places cards)) 0) [
    | yes e ↦ e
    | no f ↦ absurd (f (sym (first-append (card_checks (of_caps caps) b places cards) _ f) ∙ number))
  ]

  fits : length file ≤ length lent
  unfolding write_checks too_short
  fits =
      let e : first ((ltb (length lent) (length file), 19) ∷ []) ≡ 0 = sym (first_past _ (first-clear (cards-marked (of_caps caps) b places cards) accepted)) ∙ number in
      ltb-false (length lent) (length file) (first_off _ 19 [] (λ q. omega arith) e).0

  -- the file stands at the buffer's front
  outcome : sized_of r lent' ≡ sized (placeless 0) file lent
  unfolding filed
  outcome = w ∙ ap (λ (n : ℕ). sized (refusal_in (of_caps caps) places n) file lent) number

  pub written-size : r.size ≡ length file
  written-size = ap (λ (o : Sized). o.size) outcome

  pub written-front : take r.size lent' ≡ file
  written-front = rw (ap (λ (o : Sized). o.lent) outcome) (take-front lent file r.size (sym written-size) (omega (arith, written-size, fits)))

  -- and is read as the job that was lent
  pub read-written : (lent₁ lent₂ : List ℕ) → length caps ≤ length lent₁ → length places ≤ length lent₂
      → read (take r.size lent') lent₁ lent₂ ≡ read_as caps b places cards (r.size - length cards) lent₁ lent₂
  read-written lent₁ lent₂ l m =
      let k = read_back caps b places cards accepted in
      let racks : file_racks file ≡ of_caps caps = unfold file_racks in ap of_caps k.caps-are in
      let long = (cards_pass (of_caps caps) b places cards accepted).0.long in
      let start : (read_entries file).next ≡ r.size - length cards = omega (arith, k.next-is, written-size) in
      let e = parts file lent₁ lent₂ (read_done file lent₁ lent₂ k.none (omega (arith, ap length racks, length-caps caps)) (omega (arith, ap slots racks, long))) in
      rw written-front (e ∙ rw (k.caps-are, k.bytes-are, k.places-are, k.cards-are, start))

-- what was read, written
module _ (file lent₁ lent₂ : List ℕ) (bytes : Bytes file) (z : (read file lent₁ lent₂).answer.number ≡ 0) where
  abbrev got : Read
  got = read file lent₁ lent₂

  number_read : first (read_checks file lent₁ lent₂) ≡ 0
  unfolding read file_refusal refusal_at
  number_read = z

  legal : first (card_checks (file_racks file) (file_bytes file) (file_places file) (file_cards file)) ≡ 0
  legal = file-legal file (none file lent₁ lent₂ number_read)

  -- what the lists have at their fronts is what the file says
  caps-read : take got.racks got.caps ≡ (read_m file).values
  unfolding file_racks
  caps-read =
      ap (λ (o : Read). take o.racks o.caps) (parts file lent₁ lent₂ number_read)
      ∙ take-front lent₁ (read_m file).values (length (read_m file).values) refl (omega (arith, (room file lent₁ lent₂ number_read).0, length-caps (read_m file).values))

  places-read : take got.slots got.places ≡ file_places file
  places-read =
      ap (λ (o : Read). take o.slots o.places) (parts file lent₁ lent₂ number_read)
      ∙ take-front lent₂ (file_places file) (length (file_places file)) refl
      (omega (arith, (room file lent₁ lent₂ number_read).1, (cards_pass (file_racks file) (file_bytes file) (file_places file) (file_cards file) legal).0.long))

  bytes_read : got.bytes ≡ file_bytes file
  bytes_read = ap (λ (o : Read). o.bytes) (parts file lent₁ lent₂ number_read)

  cards-read : got.cards ≡ file_cards file
  cards-read = ap (λ (o : Read). o.cards) (parts file lent₁ lent₂ number_read)

  -- so its file is the one that was read
  pub file_again : file_for (of_caps (take got.racks got.caps)) got.bytes (take got.slots got.places) got.cards ≡ file
  unfolding file_racks
  file_again = rw (caps-read, bytes_read, places-read, cards-read) (write-back file bytes (none file lent₁ lent₂ number_read))

  -- and where the buffer has room nothing is refused
  pub written_read : (lent : List ℕ) → length file ≤ length lent
      → filed (of_caps (take got.racks got.caps)) got.bytes (take got.slots got.places) got.cards lent ≡ sized (placeless 0) file lent
  unfolding filed write_checks too_short file_racks
  written_read lent h =
      let n : first (card_checks (of_caps (take got.racks got.caps)) got.bytes (take got.slots got.places) got.cards ++ (ltb (length lent) (length file), 19) ∷ []) ≡ 0 =
      rw (caps-read, bytes_read, places-read, cards-read)
      (first_past ((ltb (length lent) (length file), 19) ∷ []) (first-clear (cards-marked (file_racks file) (file_bytes file) (file_places file) (file_cards file)) legal)
      ∙ first-later _ 19 [] (le-ltb (length lent) (length file) h)
      ∙ first-none) in
      rw (file_again, n)
