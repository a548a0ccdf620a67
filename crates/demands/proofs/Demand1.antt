-- Demand 1 holds. Assumes nothing.
use mathlib.Core.Path.{◌≡◌, refl, sym, ap, subst, ◌∙◌}
use mathlib.Core.Logic.{◌≢◌, ◌↔◌, inl, inr}
use mathlib.Core.List.{List, [], ◌∷◌, ◌++◌}
use Prim.Native.Nat.{ℕ, suc, ◌≤◌, ◌<◌}
use native.Mathlib.Omega.{arith}
use native.Mathlib.Decide.{ℕ_discrete}
use lib.ListN.{length, get_or, take, drop, drop_of_length-le}
use borrow.Author.Tests.{ne_eqb}
use Rattle.counting.specs.Lists.{Pair}
use Rattle.counting.specs.Checks.{Check, first}
use Rattle.counting.proofs.Checks.{first_of, first-end}
use Rattle.counting.proofs.Stores.{take-front}
use Rattle.racks.specs.Racks.{Rack, base, slots, rack_of}
use Rattle.racks.proofs.Caps.{length-caps, users-caps, slots-caps}
use Rattle.racks.proofs.Geometry.{rack_lt, rack_in, rack-is}
use Rattle.tables.specs.Check.{checked}
use Rattle.slots.specs.Slots.{slot_checks, asked}
use Rattle.plans.specs.Plan.{plan_checks, planned}
use Rattle.moves.specs.Moves.{Held, held, move_checks, moved}
use Rattle.moves.specs.Phases.{phases, budgeted}
use Rattle.factors.specs.Copies.{copy_checks, copied}
use Rattle.shuffle.specs.Shuffle.{shuffle_checks, shuffled}
use Rattle.runs.specs.Run.{ran}
use Rattle.racks.specs.Numbers.{table_checks, card_checks, rack_checks, places_checks, refusal_in}
use Rattle.racks.proofs.Places.{NoPlace, placeless-alone}
use Rattle.moves.proofs.Ends.{ends-placeless}
use Rattle.answers.specs.Answers.{answer}
use Rattle.answers.specs.declared.Tally.{Tally}
use Rattle.numerals.specs.Numeral.{numeral, groups, numerals, last_group}
use Rattle.parsing.specs.File.{read_n, read_m, file_racks, file_bytes, file_places, file_cards, file_checks, refusal_at, file_refusal, read_checks, read}
use Rattle.parsing.proofs.Legal.{file-legal}
use Rattle.jobfile.specs.Reading.{ahead, JobRead}
use Rattle.jobfile.specs.declared.Reader.{Reader}
use Rattle.jobfile.specs.Reading.{JobFile}
use Rattle.texts.specs.Lines.{refused_line, phase_line, phase_lines, copies_line}
use Rattle.texts.proofs.Spelling.{refused-one}
use Rattle.runtexts.specs.RunText.{run_text}
use Rattle.jobwriter.specs.Writing.{write_checks, filed}
use Rattle.listing.specs.Listing.{file_held, program_checks, listing, handed_over, printed}
use Rattle.conduct.specs.Accepted.{Accepted}
use Rattle.demands.specs.Rows.{Row, None, Holds, Given, ◌then◌}
use Rattle.demands.specs.Conditions.{table_rows, card_rows}
use Rattle.demands.specs.FileConditions.{file_rows, NoRoom, FileTooLarge}
use Rattle.demands.specs.Places.{Answered, FileAnswered}
use Rattle.demands.specs.Demand1.{Demand1}
use Rattle.conduct.proofs.Acceptance.{accepted-legal}
use Rattle.demands.proofs.Rows.{given-none, given_row, holds-some, none_left, none_right}
use Rattle.demands.proofs.Says.{says_or, says_lt, says-user, says-7, says-12, says-short}
use Rattle.demands.proofs.CallRows.{given-table, given-cards, given-table-only, given-cards-only, given-ends}
use Rattle.demands.proofs.Forms.{given-form, numeral-ends, numeral-good}
use Rattle.demands.proofs.FileRows.{given-file, given-file-only}
use Rattle.demands.proofs.Places.{tells-table, tells-cards, placed-table, tells-file, placed-file}

-- a number that is not below another is as large
not-below : {m n : ℕ} → ¬ (m < n) → n ≤ m
not-below f = omega arith

-- the rack of a slot
rack_of_lem : (racks : List Rack) (g p : ℕ) → g < slots racks → (rack_of racks g ≡ p) ↔ ((p < length racks) × (base racks p ≤ g) × (g < base racks (suc p)))
rack_of_lem racks g p l = (
  λ e. let r = rack_in racks p g l e in (omega (arith, rack_lt racks g l), r.0, r.1),
  λ r. rack-is racks p g r.0 r.1 r.2,
)

-- the text of a run begins with a phase or with the copies, and not as a refusal does
run-starts : (racks : List Rack) (b : ℕ) (h : Held) (plans : List (List Pair)) → phases racks h.places ≡ plans → get_or (run_text racks b h) 0 0 ≢ 114
unfolding run_text phase_lines phase_line copies_line
run-starts racks b h [] e q = omega (arith, rw e at q)
run-starts racks b h (p ∷ plans) e q = omega (arith, rw e at q)

no_refusal : (racks : List Rack) (b : ℕ) (h : Held) (n : ℕ) → run_text racks b h ≢ refused_line n
unfolding refused_line
no_refusal racks b h n e = run-starts racks b h _ refl (ap (λ (l : List ℕ). get_or l 0 0) e)

-- the program's number
module _ (file : List ℕ) where
  given_program : Given (first (program_checks file)) ((18, FileTooLarge file) ∷ file_rows file)
  unfolding program_checks
  given_program = given_row _ (λ e. omega arith) (says_lt 32768 (length file)) (given-file-only file)

  -- a refusal's line stands there exactly when the number is n
  line-is : (k : ℕ) → first (program_checks file) ≡ k → k ≢ 0 → listing file ≡ refused_line k
  unfolding listing
  line-is k e f = rw (e, ne_eqb k 0 f)

  refuses : (n : ℕ) → (listing file ≡ refused_line n) ↔ Holds n ((18, FileTooLarge file) ∷ file_rows file)
  unfolding listing
  refuses n = (
    λ e. elim (ℕ_discrete (first (program_checks file)) 0) [
      | yes z ↦ absurd (no_refusal (file_racks file) (file_bytes file) (file_held file) n (sym (rw z) ∙ e))
      | no f ↦
          let q : first (program_checks file) ≡ n = refused-one _ n (sym (line-is _ refl f) ∙ e) in
          (given_program.refused n (λ z. f (q ∙ z))).0 q
    ],
    λ h. let f : n ≢ 0 = holds-some n _ given_program.numbered h in line-is n ((given_program.refused n f).1 h) f,
  )

  runs : None ((18, FileTooLarge file) ∷ file_rows file) → listing file ≡ run_text (file_racks file) (file_bytes file) (file_held file)
  unfolding listing
  runs h = rw (given_program.done.1 h)

-- the file reader's number, and its place
answered-read : (file caps places : List ℕ) → FileAnswered file (file_rows file then (17, NoRoom file caps places) ∷ []) (read file caps places).answer
unfolding read read_checks file_refusal refusal_at
answered-read file caps places =
    record {
      number = given-file file _ _ (given_row _ (λ e. omega arith) (says_or (says_lt (length caps) _) (says_lt (length places) _)) given-none);
      place = placed-file file _ (tells-file file _ (placeless-alone _ 17 (refl, refl)));
    }

-- what is read without refusal is accepted
accepted-read : (file caps places : List ℕ) → (read file caps places).answer.number ≡ 0
    → let r = read file caps places in Accepted (take r.racks r.caps) r.bytes (held (take r.slots r.places) r.cards)
unfolding read file_racks None file_refusal refusal_at
accepted-read file caps places z =
    let none = (answered-read file caps places).number.done.0 z in
    let room = (none_right _ (file_rows file) none).0 in
    let fits : first (file_checks file) ≡ 0 = (given-file-only file).done.1 (none_left _ (file_rows file) none) in
    let a = file-legal file fits in
    let long = (accepted-legal (file_racks file) (file_bytes file) (file_places file) (file_cards file) a).long in
    rw (
      z,
      take-front caps (read_m file).values (length (file_racks file)) (sym (length-caps (read_m file).values)) (not-below (λ l. room (inl l))),
      take-front places (file_places file) (slots (file_racks file)) long (not-below (λ l. room (inr l))),
    ) a

-- those of a job read from a reader's position on
answered_job : (reader : Reader) (caps places : List ℕ) (job : JobFile) (caps' places' : List ℕ) → JobRead reader caps places job caps' places'
    → FileAnswered (ahead reader) (file_rows (ahead reader) then (17, NoRoom (ahead reader) caps places) ∷ []) job.answer
answered_job reader caps places job caps' places' r =
    subst (FileAnswered (ahead reader) (file_rows (ahead reader) then (17, NoRoom (ahead reader) caps places) ∷ [])) (sym r.answer-is) (answered-read (ahead reader) caps places)

-- nothing lies ahead of a position behind the end, and no numeral is in an empty file
behind : (reader : Reader) (caps places : List ℕ) → length reader.file.now ≤ reader.at → (read (ahead reader) caps places).answer.number ≡ 15
unfolding first ahead read read_checks file_checks read_n numerals numeral groups last_group file_refusal refusal_at
behind reader caps places l = rw (drop_of_length-le reader.file.now {i = reader.at} l)

-- a table's number and its place, with more checks behind it
module _ (racks : List Rack) (places : List ℕ) where
  module _ (ds : List Check) (more : List Row) (g : Given (first ds) more) (p : NoPlace (first ds)) where
    table : (t : Tally) → Answered racks places (table_rows racks places then more) (answer (refusal_in racks places (first (table_checks racks places ++ ds))) t)
    table t = record { number = given-table racks places ds more g; place = placed-table racks places _ (tells-table racks places ds p) t }

    -- and with cards
    cards : (b : ℕ) (bytes : List ℕ) (t : Tally)
        → Answered racks places (card_rows racks b places bytes then more) (answer (refusal_in racks places (first (card_checks racks b places bytes ++ ds))) t)
    cards b bytes t = record { number = given-cards racks places ds more g b bytes; place = placed-table racks places _ (tells-cards racks places b bytes ds p) t }

  cards-only : (b : ℕ) (bytes : List ℕ) (t : Tally)
      → Answered racks places (card_rows racks b places bytes) (answer (refusal_in racks places (first (card_checks racks b places bytes))) t)
  unfolding card_checks
  cards-only b bytes t =
      record {
        number = given-cards-only racks places b bytes;
        place = placed-table racks places _ (tells-cards racks places b bytes [] (first-end NoPlace (refl, refl))) t;
      }

  table-only : (t : Tally) → Answered racks places (table_rows racks places) (answer (refusal_in racks places (first (table_checks racks places))) t)
  unfolding table_checks places_checks rack_checks
  table-only t = record { number = given-table-only racks places; place = placed-table racks places _ (tells-table racks places [] (first-end NoPlace (refl, refl))) t }

pub demand1 : Demand1
unfolding checked slot_checks asked plan_checks planned move_checks moved budgeted copy_checks copied shuffle_checks shuffled ran ahead write_checks filed handed_over printed
demand1 =
    record {
      check-table = λ racks places. table-only racks places _;
      slot_question = λ racks places g.
          table racks places _ _ (given_row _ (λ e. omega arith) (says-7 racks g) given-none) (placeless-alone _ 7 (refl, refl)) _;
      phase-plan = λ racks places lent.
          table racks places _ _ (given_row _ (λ e. omega arith) (says-short lent _) given-none) (placeless-alone _ 13 (refl, refl)) _;
      one-move = λ racks b h from to.
          cards racks h.places _ _ (given-ends racks h.places from to) (ends-placeless racks h.places (from, to)) b h.cards _;
      budgeted-moves = λ racks b h k. cards-only racks h.places b h.cards _;
      copy-list = λ racks places lent. table racks places _ _
          (given_row _ (λ e. omega arith) (says-12 racks places) (given_row _ (λ e. omega arith) (says-short lent _) given-none))
          (first_of NoPlace _ 12 _ (λ _. (refl, refl)) (placeless-alone _ 13 (refl, refl))) _;
      shuffle-cards = λ racks b h.
          cards racks h.places _ _ (given_row _ (λ e. omega arith) (says-12 racks h.places) given-none) (placeless-alone _ 12 (refl, refl)) b h.cards _;
      whole_run = λ racks b h. cards-only racks h.places b h.cards _;
      read-file = answered-read;
      write-file = λ racks b places cards' lent.
          cards racks places _ _ (given_row _ (λ e. omega arith) (says-short lent _) given-none) (placeless-alone _ 19 (refl, refl)) b cards' _;
      read_job = answered_job;
      from_start = λ reader z. ap (λ (at : ℕ). drop at reader.file.now) z;
      behind-end = behind;
      list_job = λ file lent. (given_row _ (λ e. omega arith) (says-short lent _) given-none, refl);
      form = given-form;
      ends = numeral-ends;
      value = numeral-good;
      shelve-refuses = refuses;
      run_no_refusal = no_refusal;
      shelve-runs = runs;
      read-accepted = accepted-read;
      capacities = λ caps. (length-caps caps, slots-caps caps);
      users-lent = users-caps;
      rack = rack_of_lem;
      user = says-user;
    }
