-- Laws of the whole file: its number and place, by the parts that are read in their order, and the outcome. Assumes nothing.
use mathlib.Core.Path.{◌≡◌, refl, ap, sym, ◌∙◌, subst}
use mathlib.Core.Bool.{Bool, true, not}
use mathlib.Core.List.{List, [], ◌∷◌, ◌++◌}
use Prim.Native.Nat.{ℕ, ◌*◌, ◌≤◌}
use native.Mathlib.Omega.{arith}
use native.Mathlib.Nat.{mul-le-mul}
use native.Mathlib.Decide.{ℕ_discrete}
use lib.Dec.{eqb, ltb}
use lib.ListN.{length, get_or, take}
use borrow.Author.Tests.{eq-eqb, ne_eqb}
use Rattle.counting.specs.Tests.{pick}
use Rattle.counting.specs.Lists.{each}
use Rattle.counting.specs.Checks.{Check, first}
use Rattle.counting.proofs.Tests.{by-test, not_on, no_way}
use Rattle.counting.proofs.Checks.{first-here, first-later, first-append, first_of, first-end}
use Rattle.racks.specs.Racks.{of_caps, slots}
use Rattle.racks.specs.Numbers.{rack_checks}
use Rattle.racks.specs.Job.{racks_of, good_job, Sound}
use Rattle.std.specs.Prelude.{Result, Ok, Err}
use Rattle.answers.specs.Answers.{Refusal, placeless, refusal_of, refused}
use Rattle.answers.specs.declared.Refusal as given
use Rattle.answers.proofs.Answers.{refuses}
use Rattle.racks.specs.declared.Job.{Job}
use Rattle.racks.proofs.Places.{NoPlace, placeless-alone}
use Rattle.racks.proofs.Caps.{slots_small}
use Rattle.racks.proofs.Jobs.{caps_again, caps-sound}
use Rattle.numerals.specs.Numeral.{Numerals, numerals}
use Rattle.numerals.proofs.Numerals.{numerals-number}
use Rattle.parsing.specs.File.{wrong_n, wrong_b, wrong_m, entry_of, read_n, read_b, read_m, read_entries, file_racks, file_bytes, file_places, file_cards, file_checks, entry_place, refusal_at, file_refusal}
use Rattle.parsing.specs.Answers.{FileAnswer, refused_file, done_file, file_answer, file_answered}
use Rattle.parsing.specs.parts.Parsing.{head_checks, Headed, HeadRead, entries, entries_checks, EntriesRead, left_of, end_number, Parsed}
use Rattle.parsing.specs.declared.FileJob.{FileJob}
use Rattle.parsing.specs.declared.parts.Head.{Head}

-- no check that applies gives 0
pub data Sure : List Check → Type 0 where
  end : Sure []
  link : {b : Bool} {n : ℕ} {cs : List Check} → (b ≡ true → n ≡ 0 → ⊥) → Sure cs → Sure ((b, n) ∷ cs)

-- where such checks give 0, the checks behind them decide
pub sure-past : {cs : List Check} (ds : List Check) → Sure cs → first cs ≡ 0 → first (cs ++ ds) ≡ first ds
sure-past ds end z = refl
sure-past ds (link {b} {n} {cs} f s) z = by-test b
    (λ t. absurd (f t (sym (first-here b n cs t) ∙ z)))
    (λ t. first-later b n (cs ++ ds) t ∙ sure-past ds s (sym (first-later b n cs t) ∙ z))

sure-append : {cs ds : List Check} → Sure cs → Sure ds → Sure (cs ++ ds)
sure-append end s = s
sure-append (link f t) s = link f (sure-append t s)

known_sure : (n : ℕ) → not (eqb n 0) ≡ true → n ≡ 0 → ⊥
known_sure n t z = no_way (eq-eqb n 0 z) (not_on t)

-- numerals that are asked for one number without a place are refused with none that has one
module _ (file : List ℕ) (bad : List ℕ → ℕ → ℕ) (h : (before : List ℕ) (x : ℕ) → NoPlace (bad before x)) where
  form-placeless : (n at : ℕ) → NoPlace (numerals bad n file at []).number
  form-placeless n at = numerals-number NoPlace (refl, refl) (refl, refl) (refl, refl) (refl, refl) bad h n file at []

module _ (file : List ℕ) where
  head_sure : Sure (head_checks file)
  unfolding head_checks
  head_sure =
      link {n = (read_n file).number} (known_sure _) (link {n = (read_b file).number} (known_sure _) (link {n = (read_m file).number} (known_sure _) end))

  entries_sure : Sure (entries_checks (read_entries file))
  unfolding entries_checks
  entries_sure = link {n = (read_entries file).number} (known_sure _) (link {n = 6} (λ _ z. omega arith) end)

  -- 15 and 16
  abbrev end_checks : List Check
  end_checks =
      (ltb (length (file_cards file)) (slots (file_racks file) * file_bytes file), 15)
      ∷ (ltb (slots (file_racks file) * file_bytes file) (length (file_cards file)), 16)
      ∷ []

  -- the checks of the file, part by part
  file-checks : file_checks file ≡ head_checks file ++ (entries_checks (read_entries file) ++ end_checks)
  unfolding file_checks head_checks entries_checks file_places
  file-checks = refl

  pub file_sure : Sure (file_checks file)
  file_sure = rw file-checks (sure-append head_sure (sure-append entries_sure (link {n = 15} (λ _ z. omega arith) (link {n = 16} (λ _ z. omega arith) end))))

  -- neither the front nor the card bytes are refused with a number that has a place
  pub N-placeless : NoPlace (read_n file).number
  unfolding read_n wrong_n
  N-placeless = form-placeless file wrong_n (λ before x. placeless-alone _ 1 (refl, refl)) 1 0

  pub B-placeless : NoPlace (read_b file).number
  unfolding read_b wrong_b
  B-placeless = form-placeless file wrong_b (λ before x. placeless-alone _ 2 (refl, refl)) 1 (read_n file).next

  pub M-placeless : NoPlace (read_m file).number
  unfolding read_m wrong_m
  M-placeless = form-placeless file wrong_m (λ before x. placeless-alone _ 3 (refl, refl)) (get_or (read_n file).values 0 0) (read_b file).next

  head-placeless : NoPlace (first (head_checks file))
  unfolding head_checks
  head-placeless = first_of NoPlace _ (read_n file).number _ (λ _. N-placeless)
      (first_of NoPlace _ (read_b file).number _ (λ _. B-placeless) (first_of NoPlace _ (read_m file).number [] (λ _. M-placeless) (first-end NoPlace (refl, refl))))

  end-placeless : (at want : ℕ) → NoPlace (end_number file at want)
  unfolding end_number
  end-placeless at want = first_of NoPlace _ 15 _ (λ _. (refl, refl)) (placeless-alone _ 16 (refl, refl))

  pub placeless-file : (n : ℕ) → NoPlace n → placeless n ≡ file_refusal file n
  unfolding file_refusal refusal_at entry_place
  placeless-file n p = rw (p.0, p.1)

  -- a front that is refused
  file-head : (n : ℕ) → n ≡ first (head_checks file) → (n ≡ 0 → ⊥) → n ≡ first (file_checks file)
  file-head n e f = e ∙ sym (ap first file-checks ∙ first-append (head_checks file) _ (λ z. f (e ∙ z)))

  module _ (zh : first (head_checks file) ≡ 0) where
    past_head : first (file_checks file) ≡ first (entries_checks (read_entries file) ++ end_checks)
    past_head = ap first file-checks ∙ sure-past _ head_sure zh

    -- entries that are refused
    file-entries : (n : ℕ) → n ≡ first (entries_checks (read_entries file)) → (n ≡ 0 → ⊥) → n ≡ first (file_checks file)
    file-entries n e f = e ∙ sym (past_head ∙ first-append (entries_checks (read_entries file)) _ (λ z. f (e ∙ z)))

    -- the card bytes
    file-end : (at want : ℕ) → first (entries_checks (read_entries file)) ≡ 0 → at ≡ (read_entries file).next → want ≡ slots (file_racks file) * file_bytes file
        → end_number file at want ≡ first (file_checks file)
    unfolding end_number left_of file_cards
    file-end at want ze ep ew = rw (ep, ew) (sym (past_head ∙ sure-past _ entries_sure ze))

-- a job that is read, by its fields
abbrev made : ℕ → ℕ → ℕ → ℕ → FileJob
made n b s p = record { racks = n; bytes = b; slots = s; start = p }

same-made : {n n' b b' s s' p p' : ℕ} → n ≡ n' → b ≡ b' → s ≡ s' → p ≡ p' → file_answered (Ok (made n b s p)) ≡ file_answered (Ok (made n' b' s' p'))
same-made en eb es ep = rw (en, eb, es, ep)

-- the capacities read are in order
pub head-good : (file : List ℕ) (head : Head) (caps : List ℕ) → Headed file head caps → first (rack_checks (of_caps (take head.racks caps))) ≡ 0
unfolding file_racks
head-good file head caps h = rw h.caps-are h.good

-- the job of the capacities read
module _ (file : List ℕ) (head : Head) (caps : List ℕ) (h : Headed file head caps) (job : Job) (is : job ≡ good_job (of_caps (take head.racks caps))) where
  job_is : job ≡ good_job (file_racks file)
  unfolding file_racks
  job_is = is ∙ ap (λ (l : List ℕ). good_job (of_caps l)) h.caps-are

  -- it is sound
  pub job-sound : Sound job
  unfolding file_racks
  job-sound = subst Sound (sym job_is) (caps-sound (read_m file).values h.good)

  -- its racks are the file's
  pub job-racks : racks_of job ≡ file_racks file
  unfolding file_racks
  job-racks = ap racks_of job_is ∙ caps_again (read_m file).values h.good

  -- its slots are the file's
  pub job-slots : job.slots ≡ slots (file_racks file)
  job-slots = ap (λ (j : Job). j.slots) job_is

  -- at most 4,096
  pub job-small : job.slots ≤ 4096
  unfolding file_racks
  job-small = rw job-slots (slots_small (read_m file).values h.good)

  -- S·B is small
  pub want-small : job.slots * head.bytes ≤ 1048576
  want-small = mul-le-mul job-small h.small

  -- S·B is the file's
  want_is : job.slots * head.bytes ≡ slots (file_racks file) * file_bytes file
  want_is = rw (job-slots, h.bytes-are)

  -- the entries of that job are the file's
  module _ (read : Result ℕ given.Refusal) (places : List ℕ) (r : EntriesRead (racks_of job) file head.next read places) where
    entries-are : entries (racks_of job) file head.next ≡ read_entries file
    unfolding entries read_entries
    entries-are = rw (job-racks, h.next-is)

    -- 14, 15, 20, 5 or 6, and its place
    table_refusal : refused read ≡ file_refusal file (first (entries_checks (read_entries file)))
    unfolding file_refusal
    table_refusal =
        r.refusal_is
        ∙ ap (λ (x : Numerals). refusal_at (racks_of job) file head.next (first (entries_checks x))) entries-are
        ∙ rw (job-racks, h.next-is)

    table-number : (refused read).number ≡ first (entries_checks (read_entries file))
    unfolding file_refusal refusal_at
    table-number = ap (λ (x : Refusal). x.number) table_refusal

  -- where they are done
  module _ (start : ℕ) (places : List ℕ) (r : EntriesRead (racks_of job) file head.next (Ok start) places) where
    -- the position behind them
    table-next : start ≡ (read_entries file).next
    table-next = rw (← entries-are (Ok start) places r) r.next-is

    -- and the places table
    table-places : take job.slots places ≡ file_places file
    unfolding file_places
    table-places =
        ap (λ (n : ℕ). take n places) (job-slots ∙ ap slots (sym job-racks)) ∙ r.places-are ∙ ap (λ (x : Numerals). each entry_of x.values) (entries-are (Ok start) places r)

-- the answer, by its number
module _ (file : List ℕ) (n : ℕ) where
  pub answer-refused : (n ≡ 0 → ⊥) → refused_file (file_refusal file n) ≡ file_answer file n
  answer-refused f = ap (λ (b : Bool). pick b (done_file file) (refused_file (file_refusal file n))) (sym (ne_eqb n 0 f))

  pub answer-number : (file_answer file n).answer.number ≡ n
  unfolding file_refusal refusal_at
  answer-number = elim (ℕ_discrete n 0) [
    | yes e ↦ rw e
    | no f ↦ ap (λ (r : FileAnswer). r.answer.number) (sym (answer-refused f))
  ]

-- the whole file: refused, and done
module _ (file caps places : List ℕ) (long : (length caps ≡ 64) × (length places ≡ 4096)) where
  -- a refusal: the lists say nothing
  parsed-refused : (n : ℕ) (e : given.Refusal) → refusal_of e ≡ file_refusal file n → (n ≡ 0 → ⊥) → n ≡ first (file_checks file) → Parsed file (Err e) caps places
  parsed-refused n e ex f q =
      record {
        is = ap refused_file ex ∙ answer-refused file n f ∙ ap (file_answer file) q;
        caps-are = record {};
        places-are = record {};
        few = record {};
        long = long;
      }

  -- that of the front
  pub parsed-head : (e : given.Refusal) (caps' : List ℕ) → HeadRead file (Err e) caps' → Parsed file (Err e) caps places
  parsed-head e caps' h =
      let n = first (head_checks file) in
      let f : n ≡ 0 → ⊥ = λ z. refuses e (ap (λ (x : Refusal). x.number) h.refusal_is ∙ z) in
      parsed-refused n e (h.refusal_is ∙ placeless-file file n (head-placeless file)) f (file-head file n refl f)

  module _ (head : Head) (caps' : List ℕ) (h : HeadRead file (Ok head) caps') (job : Job) (is : job ≡ good_job (of_caps (take head.racks caps'))) where
    none-head : first (head_checks file) ≡ 0
    none-head = sym (ap (λ (x : Refusal). x.number) h.refusal_is)

    -- that of the entries
    pub parsed-table : (e : given.Refusal) → EntriesRead (racks_of job) file head.next (Err e) places → Parsed file (Err e) caps places
    parsed-table e r =
        let n = first (entries_checks (read_entries file)) in
        let t : (refusal_of e).number ≡ n = table-number file head caps' h.headed job is (Err e) places r in
        let f : n ≡ 0 → ⊥ = λ z. refuses e (t ∙ z) in
        parsed-refused n e (table_refusal file head caps' h.headed job is (Err e) places r) f (file-entries file none-head n refl f)

    module _ (start : ℕ) (r : EntriesRead (racks_of job) file head.next (Ok start) places) where
      -- what the card bytes give decides
      end-file : end_number file start (job.slots * head.bytes) ≡ first (file_checks file)
      end-file =
          file-end file none-head start (job.slots * head.bytes) (sym (table-number file head caps' h.headed job is (Ok start) places r))
          (table-next file head caps' h.headed job is start places r) (want_is file head caps' h.headed job is)

      -- that of the card bytes
      pub parsed-end : (e : given.Refusal) → refusal_of e ≡ placeless (end_number file start (job.slots * head.bytes)) → Parsed file (Err e) caps places
      parsed-end e x =
          let n = end_number file start (job.slots * head.bytes) in
          parsed-refused n e (x ∙ placeless-file file n (end-placeless file start (job.slots * head.bytes))) (λ z. refuses e (ap (λ (y : Refusal). y.number) x ∙ z)) end-file

      -- done: the answer, and both lists
      pub parsed-done : caps ≡ caps' → placeless 0 ≡ placeless (end_number file start (job.slots * head.bytes)) → Parsed file (Ok (made head.racks head.bytes job.slots start)) caps places
      parsed-done ec x =
          let q : 0 ≡ first (file_checks file) = ap (λ (y : Refusal). y.number) x ∙ end-file in
          record {
            is = rw (← q) (same-made h.headed.racks-are h.headed.bytes-are (job-slots file head caps' h.headed job is) (table-next file head caps' h.headed job is start places r));
            caps-are = ap (λ (l : List ℕ). take head.racks l) ec ∙ h.headed.caps-are;
            places-are = table-places file head caps' h.headed job is start places r;
            few = (h.headed.few, job-small file head caps' h.headed job is);
            long = long;
          }
