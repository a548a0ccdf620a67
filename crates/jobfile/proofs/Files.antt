-- Laws of the outcome of reading a file, by its number. Assumes nothing.
use mathlib.Core.Path.{◌≡◌, refl, ap, sym, ◌∙◌}
use mathlib.Core.Bool.{true}
use mathlib.Core.List.{List, [], ◌∷◌}
use Prim.Native.Nat.{ℕ, ◌≤◌, ◌<◌}
use native.Mathlib.Omega.{arith}
use lib.Dec.{ltb}
use lib.ListN.{length, take}
use lib.Seq.{sets}
use borrow.Author.Tests.{ne_eqb, lt-ltb, le-ltb}
use Rattle.counting.specs.Tests.{◌or◌}
use Rattle.counting.specs.Checks.{Check, first}
use Rattle.counting.proofs.Tests.{or_l, or_r, or-none}
use Rattle.counting.proofs.Checks.{first-here, first-later, first-none, first-append}
use Rattle.racks.specs.Racks.{slots}
use Rattle.std.specs.Prelude.{Ok, Err}
use Rattle.answers.specs.Answers.{Refusal, placeless, refusal_of}
use Rattle.answers.specs.declared.Refusal as given
use Rattle.answers.proofs.Answers.{refuses}
use Rattle.parsing.specs.File.{read_m, file_racks, file_places, file_cards, file_checks, entry_place, refusal_at, file_refusal, read_checks, read}
use Rattle.parsing.specs.Answers.{FileAnswer, refused_file, done_file, file_answer, file_answered}
use Rattle.parsing.specs.parts.Parsing.{Parsed}
use Rattle.parsing.specs.declared.FileJob.{FileJob}
use Rattle.parsing.proofs.Files.{sure-past, file_sure, answer-refused, answer-number, placeless-file}
use Rattle.jobfile.specs.Answers.{cards_of, read_of}

-- the outcome, by the answer
module _ (file caps places : List ℕ) where
  -- 17
  abbrev room-17 : Check
  room-17 = (ltb (length caps) (length (file_racks file)) or ltb (length places) (slots (file_racks file)), 17)

  -- on a refusal nothing is written
  read-refused : (n : ℕ) → n ≡ first (read_checks file caps places) → (n ≡ 0 → ⊥) → read_of (refused_file (file_refusal file n)) caps places file ≡ read file caps places
  unfolding read read_of cards_of file_refusal refusal_at
  read-refused n e f = rw (← e, ne_eqb n 0 f)

  -- else both lists are written
  read_is : first (read_checks file caps places) ≡ 0 → read_of (done_file file) (sets caps 0 (read_m file).values) (sets places 0 (file_places file)) file ≡ read file caps places
  unfolding read read_of cards_of file_cards file_refusal refusal_at entry_place
  read_is e = rw e

  -- where the file is done, 17 decides
  past-file : first (file_checks file) ≡ 0 → first (read_checks file caps places) ≡ first (room-17 ∷ [])
  unfolding read_checks
  past-file z = sure-past (room-17 ∷ []) (file_sure file) z

  -- a file that is refused
  pub read-file-refused : (e : given.Refusal) (own own' : List ℕ) → Parsed file (Err e) own own' → read_of (refused_file (refusal_of e)) caps places file ≡ read file caps places
  unfolding read_checks
  read-file-refused e own own' p =
      let n = first (file_checks file) in
      let q : (refusal_of e).number ≡ n = ap (λ (r : FileAnswer). r.answer.number) p.is ∙ answer-number file n in
      let g : n ≡ 0 → ⊥ = λ z. refuses e (q ∙ z) in
      ap (λ (r : FileAnswer). read_of r caps places file) (p.is ∙ sym (answer-refused file n g)) ∙ read-refused n (sym (first-append (file_checks file) (room-17 ∷ []) g)) g

  -- a file that is done
  module _ (found : FileJob) (own own' : List ℕ) (p : Parsed file (Ok found) own own') where
    done-number : first (file_checks file) ≡ 0
    done-number = sym (ap (λ (r : FileAnswer). r.answer.number) p.is ∙ answer-number file (first (file_checks file)))

    found-done : file_answered (Ok found) ≡ done_file file
    found-done = p.is ∙ ap (file_answer file) done-number

    racks-done : found.racks ≡ length (file_racks file)
    racks-done = ap (λ (r : FileAnswer). r.racks) found-done

    slots-done : found.slots ≡ slots (file_racks file)
    slots-done = ap (λ (r : FileAnswer). r.slots) found-done

    read-17 : room-17.0 ≡ true → read_of (refused_file (placeless 17)) caps places file ≡ read file caps places
    read-17 h =
        ap (λ (x : Refusal). read_of (refused_file x) caps places file) (placeless-file file 17 (refl, refl))
        ∙ read-refused 17 (sym (past-file done-number ∙ first-here _ 17 _ h)) (λ y. omega arith)

    -- 17: room for capacities below N
    pub read-17-caps : length caps < found.racks → read_of (refused_file (placeless 17)) caps places file ≡ read file caps places
    read-17-caps l = read-17 (or_l _ (lt-ltb (length caps) (length (file_racks file)) (omega (arith, racks-done))))

    -- 17: room for places below S
    pub read-17-places : length places < found.slots → read_of (refused_file (placeless 17)) caps places file ≡ read file caps places
    read-17-places l = read-17 (or_r (ltb (length caps) (length (file_racks file))) (lt-ltb (length places) (slots (file_racks file)) (omega (arith, slots-done))))

    -- 0: both lists are written from the front
    pub read_done : (caps' places' : List ℕ) → found.racks ≤ length caps → found.slots ≤ length places
        → caps' ≡ sets caps 0 (take found.racks own) → places' ≡ sets places 0 (take found.slots own') → read_of (file_answered (Ok found)) caps' places' file ≡ read file caps places
    read_done caps' places' lc lp ec ep =
        let r : first (read_checks file caps places) ≡ 0 =
        past-file done-number
        ∙ first-later _ 17 _ (or-none (le-ltb (length caps) (length (file_racks file)) (omega (arith, racks-done))) (le-ltb (length places) (slots (file_racks file)) (omega (arith, slots-done))))
        ∙ first-none in
        ap (λ (f : FileAnswer). read_of f caps' places' file) found-done
        ∙ ap (λ (l : List ℕ). read_of (done_file file) l places' file) (ec ∙ ap (λ (l : List ℕ). sets caps 0 l) p.caps-are)
        ∙ ap (λ (l : List ℕ). read_of (done_file file) (sets caps 0 (read_m file).values) l file) (ep ∙ ap (λ (l : List ℕ). sets places 0 l) p.places-are)
        ∙ read_is r
