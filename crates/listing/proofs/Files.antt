-- The text of a file: 18, another refusal, or a run; it is never longer than ENOUGH. Assumes nothing.
use mathlib.Core.Path.{◌≡◌, refl, ap, sym, ◌∙◌}
use mathlib.Core.List.{List, []}
use Prim.Native.Nat.{ℕ, ◌≤◌, ◌<◌}
use native.Mathlib.Omega.{arith}
use native.Mathlib.Decide.{ℕ_discrete}
use lib.Dec.{ltb}
use lib.ListN.{length, take, drop, length-drop}
use lib.Seq.{sets, length-sets}
use borrow.Author.Tests.{lt-ltb, le-ltb, ltb-false, ne_eqb}
use Rattle.counting.specs.Checks.{first}
use Rattle.counting.proofs.Checks.{first-here, first-later, first_off, first-none}
use Rattle.racks.specs.Racks.{of_caps}
use Rattle.racks.specs.Numbers.{card_checks, too_short}
use Rattle.std.specs.Prelude.{Ok, Err}
use Rattle.answers.specs.Answers.{refusal_of, placeless, answer, no_counts, SizeAnswer, Sized, sized_of}
use Rattle.answers.specs.declared.Refusal as given
use Rattle.answers.proofs.Answers.{refuses}
use Rattle.racks.proofs.LegalTable.{spared-caps}
use Rattle.moves.specs.Moves.{held}
use Rattle.counting.proofs.Stores.{take-front}
use Rattle.tables.proofs.Tables.{cards_pass}
use Rattle.parsing.specs.File.{read_m, read_entries, file_racks, file_bytes, file_places, file_cards, file_checks}
use Rattle.parsing.specs.Answers.{FileAnswer, done_file, file_answered}
use Rattle.jobfile.specs.Answers.{cards_of}
use Rattle.parsing.specs.parts.Parsing.{Parsed}
use Rattle.parsing.specs.declared.FileJob.{FileJob}
use Rattle.parsing.proofs.Legal.{file-legal, file-small}
use Rattle.parsing.proofs.Files.{answer-number}
use Rattle.texts.specs.Lines.{refused_line}
use Rattle.runtexts.specs.RunText.{FILE, run_text}
use Rattle.listing.specs.Listing.{ENOUGH, program_checks, file_held, listing, handed_over, printed}
use Rattle.texts.specs.parts.Writing.{Reaches}
use Rattle.texts.proofs.Lines.{refused-small}
use Rattle.listing.proofs.Refusals.{number_most}
use Rattle.listing.proofs.Enough.{run-enough}

module _ (file : List ℕ) where
  -- by the number: a refusal
  by_refusal : (n : ℕ) → first (program_checks file) ≡ n → (n ≡ 0 → ⊥) → listing file ≡ refused_line n
  unfolding listing
  by_refusal n e f = rw (e, ne_eqb n 0 f)

  -- or a run
  by-run : first (program_checks file) ≡ 0 → listing file ≡ run_text (file_racks file) (file_bytes file) (file_held file)
  unfolding listing
  by-run e = rw e

  -- a file above 32,768 bytes
  pub listing-18 : FILE < length file → listing file ≡ refused_line 18
  unfolding program_checks
  listing-18 h = by_refusal 18 (first-here (ltb FILE (length file)) 18 (file_checks file) (lt-ltb FILE (length file) h)) (λ e. omega arith)

  -- any other has the reader's number
  passed : length file ≤ FILE → first (program_checks file) ≡ first (file_checks file)
  unfolding program_checks
  passed h = first-later (ltb FILE (length file)) 18 (file_checks file) (le-ltb FILE (length file) h)

  -- a file that is not refused
  within : first (program_checks file) ≡ 0 → (length file ≤ FILE) × (first (file_checks file) ≡ 0)
  unfolding program_checks
  within z =
      let o = first_off (ltb FILE (length file)) 18 (file_checks file) (λ e. omega arith) z in
      (ltb-false FILE (length file) o.0, o.1)

  run_small : first (program_checks file) ≡ 0 → length (run_text (file_racks file) (file_bytes file) (file_held file)) ≤ ENOUGH
  unfolding file_held file_racks file_cards
  run_small z =
      let w = within z in
      let good = cards_pass (file_racks file) (file_bytes file) (file_places file) (file_cards file) (file-legal file w.1) in
      run-enough (file_racks file) (file_bytes file) (file_held file) good.0 (spared-caps (read_m file).values) (file-small file w.1).1
      good.1 (omega (arith, good.1, length-drop (read_entries file).next file, w.0))

  -- **Always enough**: no text is longer than ENOUGH, that of a refusal neither
  pub listing-enough : length (listing file) ≤ ENOUGH
  listing-enough = elim (ℕ_discrete (first (program_checks file)) 0) [
    | yes e ↦ omega (arith, ap length (by-run e), run_small e)
    | no f ↦ omega (arith, ap length (by_refusal _ refl f), refused-small (first (program_checks file)) (omega (arith, number_most file)))
  ]

  -- so it fits into a buffer of that length
  pub listing-room : (out : List ℕ) → ENOUGH ≤ length out → Reaches (listing file) 0 out
  listing-room out h = omega (arith, listing-enough)

  -- and the call then gives 0 and writes all of it
  pub printed-enough : (lent : List ℕ) → ENOUGH ≤ length lent → printed file lent ≡ record { answer = answer (placeless 0) no_counts; size = length (listing file); lent = sets lent 0 (listing file) }
  unfolding printed handed_over too_short
  printed-enough lent h =
      let s : length (listing file) ≤ length lent = omega (arith, listing-enough) in
      rw (first-later (ltb (length lent) (length (listing file))) 13 [] (le-ltb (length lent) (length (listing file)) s) ∙ first-none)

  -- which stands before `size` in the buffer at exit
  pub text-front : (lent lent' : List ℕ) (r : SizeAnswer) → ENOUGH ≤ length lent → sized_of r lent' ≡ printed file lent → (take r.size lent' ≡ listing file) × (r.size ≤ length lent')
  text-front lent lent' r h e =
      let q = e ∙ printed-enough lent h in
      let size : r.size ≡ length (listing file) = ap (λ (x : Sized). x.size) q in
      let buffer : lent' ≡ sets lent 0 (listing file) = ap (λ (x : Sized). x.lent) q in
      let fits : length (listing file) ≤ length lent = omega (arith, listing-enough) in
      (rw (size, buffer) (take-front lent (listing file) (length (listing file)) refl fits), omega (arith, size, ap length buffer, length-sets lent 0 (listing file)))

  -- what the reader gives
  module _ (small : length file ≤ FILE) {caps places : List ℕ} where
    -- a refusal
    pub listing-refused : (e : given.Refusal) → Parsed file (Err e) caps places → listing file ≡ refused_line (refusal_of e).number
    listing-refused e p =
        by_refusal (refusal_of e).number (passed small ∙ sym (ap (λ (x : FileAnswer). x.answer.number) p.is ∙ answer-number file (first (file_checks file)))) (refuses e)

    -- a legal job
    module _ {found : FileJob} (p : Parsed file (Ok found) caps places) where
      no_check : first (file_checks file) ≡ 0
      no_check = sym (ap (λ (x : FileAnswer). x.answer.number) p.is ∙ answer-number file (first (file_checks file)))

      done-is : file_answered (Ok found) ≡ done_file file
      done-is = p.is ∙ rw no_check

      caps-are : of_caps (take found.racks caps) ≡ file_racks file
      unfolding file_racks
      caps-are = ap of_caps p.caps-are

      bytes-are : found.bytes ≡ file_bytes file
      bytes-are = ap (λ (x : FileAnswer). x.bytes) done-is

      cards-are : cards_of (file_answered (Ok found)) file ≡ file_cards file
      unfolding cards_of file_cards
      cards-are = ap (λ (x : FileAnswer). drop x.start file) done-is

      -- which passes 1 to 6
      pub job-legal : first (card_checks (of_caps (take found.racks caps)) found.bytes (take found.slots places) (cards_of (file_answered (Ok found)) file)) ≡ 0
      job-legal = rw (cards-are, caps-are, bytes-are, p.places-are) (file-legal file no_check)

      -- with no more card bytes than the file has
      pub job-small : length (cards_of (file_answered (Ok found)) file) ≤ FILE
      unfolding file_cards
      job-small = omega (arith, ap length cards-are, length-drop (read_entries file).next file)

      -- whose run is the text
      pub listing-run : listing file ≡ run_text (of_caps (take found.racks caps)) found.bytes (held (take found.slots places) (cards_of (file_answered (Ok found)) file))
      unfolding file_held
      listing-run = rw (cards-are, caps-are, bytes-are, p.places-are) (by-run (passed small ∙ no_check))
