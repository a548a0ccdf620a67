-- The numbers of a job's file, and the file by its parts. Assumes nothing.
use mathlib.Core.Path.{◌≡◌, refl, sym, ap, ◌∙◌}
use mathlib.Core.Logic.{◌≢◌}
use mathlib.Core.List.{List, [], ◌∷◌, ◌++◌, append_assoc}
use Prim.Native.Nat.{ℕ, ◌+◌, ◌*◌, ◌≤◌, ◌<◌}
use native.Mathlib.Omega.{arith}
use native.Mathlib.Decide.{ℕ_discrete}
use native.Mathlib.Nat.{suc-mul, mul-le-mul_right}
use lib.Dec.{leb}
use lib.ListN.{length, get_or, length-append}
use lib.Seq.{sets}
use borrow.Author.Tests.{eq-eqb, ne_eqb, lt-ltb, le-ltb}
use Rattle.counting.specs.Tests.{bit}
use Rattle.counting.specs.Lists.{join, each}
use Rattle.counting.specs.Checks.{first}
use Rattle.counting.proofs.Tests.{bit_le}
use Rattle.counting.proofs.Checks.{first-here, first-later, first-none, known_past}
use Rattle.counting.proofs.Lists.{length-each, get_d-each}
use Rattle.answers.specs.Answers.{placeless, sized}
use Rattle.answers.specs.Answers.{Refusal}
use Rattle.racks.specs.Limits.{FREE}
use Rattle.racks.specs.Racks.{Rack, of_caps, rack_at, users, base, slots, spare_of}
use Rattle.racks.specs.Table.{dest}
use Rattle.racks.specs.Job.{racks_of, good_job, Sound}
use Rattle.racks.specs.Numbers.{too_short}
use Rattle.racks.specs.parts.Legal.{Legal, Spared}
use Rattle.racks.specs.declared.Job.{Job}
use Rattle.racks.proofs.Caps.{bytes-some}
use Rattle.racks.proofs.Geometry.{spare-is, spare-end, end_le}
use Rattle.racks.proofs.Jobs.{sound-racks}
use Rattle.racks.proofs.Table.{read-dest}
use Rattle.racks.proofs.LegalTable.{legal-slot, spare_lt}
use Rattle.tables.specs.parts.Tables.{OpenCards, refusal_by, cards_number}
use Rattle.tables.proofs.Tables.{cards-bytes}
use Rattle.tables.proofs.Refusals.{placeless_by}
use Rattle.jobwriter.specs.Writing.{numeral_of, numerals_of, file_entry, cap_of, file_numbers, file_for, write_checks, filed}
use Rattle.jobwriter.specs.parts.Puts.{Short, Put, Roomy, Gives, Writable, write_number, filed_by}
use Rattle.jobwriter.proofs.Puts.{one_group, numeral-length, put_then, numerals-append, all-few}
use Rattle.std.specs.Prelude.{Err}
use Rattle.answers.specs.Answers.{refusal_of, size_answered, sized_of}
use Rattle.answers.specs.declared.Refusal as given
use Rattle.answers.proofs.Answers.{sized-refused}
use Rattle.racks.specs.Numbers.{size_checks}
use Rattle.tables.proofs.Capacities.{refused-cards, of-card_refusal}

-- an entry as the file has it
pub entry_free : (x : ℕ) → x ≡ FREE → 0 ≡ file_entry x
unfolding file_entry
entry_free x e = rw (eq-eqb x FREE e)

pub entry-held : (x : ℕ) → x ≢ FREE → x + 1 ≡ file_entry x
unfolding file_entry
entry-held x f = rw (ne_eqb x FREE f)

-- entry g, as the code reads it
pub entry_at : (places : List ℕ) (g x : ℕ) → g < length places → x ≡ file_entry (get_or places g 0) → x ≡ get_or (each file_entry places) g 0
entry_at places g x h e = e ∙ sym (get_d-each file_entry places g 0 0 h)

-- m_p: from where rack p begins to its spares
module _ (racks : List Rack) where
  pub cap-at : (p : ℕ) → p < length racks → base racks p + get_or (each cap_of racks) p 0 ≡ spare_of racks p
  unfolding users rack_at
  cap-at p h = omega (arith, spare-is racks p, get_d-each cap_of racks p (record { users = 0; spares = 0 }) 0 h)

  pub caps-short : slots racks ≤ 4096 → Short (each cap_of racks)
  caps-short small p h =
      let l : p < length racks = omega (arith, length-each cap_of racks) in
      omega (arith, cap-at p l, spare-end racks p, end_le racks p l)

  -- the entries of a legal table
  pub entries-short : (places : List ℕ) → Legal racks places → slots racks ≤ 4096 → Short (each file_entry places)
  unfolding file_entry
  entries-short places legal small g h =
      let l : g < length places = omega (arith, length-each file_entry places) in
      rw (get_d-each file_entry places g 0 0 l, read-dest places g l)
      (elim (ℕ_discrete (dest places g) FREE) [
        | yes e ↦ rw (eq-eqb (dest places g) FREE e) (omega arith)
        | no f ↦ rw (ne_eqb (dest places g) FREE f) (omega (arith, legal-slot racks places legal g (dest places g) l refl f))
      ])

  -- all numbers: N, B, the m_p, the entries
  pub numbers-are : (b : ℕ) (places : List ℕ)
      → ((numeral_of (length racks) ++ numeral_of b) ++ numerals_of (each cap_of racks)) ++ numerals_of (each file_entry places) ≡ numerals_of (file_numbers racks b places)
  unfolding file_numbers join each
  numbers-are b places =
      rw (append_assoc (numeral_of (length racks) ++ numeral_of b), append_assoc (numeral_of (length racks)), ← numerals-append (each cap_of racks) (each file_entry places))

  -- how many bytes they are, as the code adds them
  pub numbers-size : (b m c e : ℕ) (places : List ℕ) → length racks ≤ 64 → b ≤ 256 → m ≡ bit (leb 128 b) → c ≡ length (numerals_of (each cap_of racks)) → e ≡ length (numerals_of (each file_entry places))
      → 2 + m + c + e ≡ length (numerals_of (file_numbers racks b places))
  numbers-size b m c e places few fit em ec ee =
      omega (
        arith,
        ap length (one_group (length racks) (omega arith)),
        numeral-length b (omega arith),
        ap length (numbers-are b places),
        length-append ((numeral_of (length racks) ++ numeral_of b) ++ numerals_of (each cap_of racks)) (numerals_of (each file_entry places)),
        length-append (numeral_of (length racks) ++ numeral_of b) (numerals_of (each cap_of racks)),
        length-append (numeral_of (length racks)) (numeral_of b),
      )

-- as many m_p as racks
pub caps-long : {job : Job} → Sound job → length (each cap_of (racks_of job)) ≡ job.racks
caps-long {job} s = omega (arith, length-each cap_of (racks_of job), sound-racks job s)

-- a closure that gives the m_p by the racks
pub caps-given : {job : Job} {pre : ℕ → Type 0} {post : ℕ → ℕ → Type 0} → Sound job → ((p : ℕ) → p < job.racks → pre p)
    → ((p x : ℕ) → p < job.racks → post p x → x ≡ get_or (each cap_of (racks_of job)) p 0) → Gives pre post job.racks (each cap_of (racks_of job))
caps-given {job} s f g = record { as_many = sym (caps-long s); called = f; given = g; short = caps-short (racks_of job) s.small }

-- and one that gives the entries by the slots
pub entries-given : (places : List ℕ) {pre : ℕ → Type 0} {post : ℕ → ℕ → Type 0} → Short (each file_entry places) → ((g : ℕ) → g < length places → pre g)
    → ((g x : ℕ) → g < length places → post g x → x ≡ file_entry (get_or places g 0)) → Gives pre post (length places) (each file_entry places)
entries-given places short f h = record { as_many = sym (length-each file_entry places); called = f; given = λ g x l p. entry_at places g x l (h g x l p); short = short }

-- what acceptance gives the writer
module _ {job : Job} {b : ℕ} {places cards racking : List ℕ} (o : OpenCards job b places cards racking) where
  pub writable : Writable job b places
  writable =
      let s = o.table.sound in
      record {
        sound = s;
        bytes = o.bytes;
        short = entries-short (racks_of job) places o.table.legal s.small;
        few = omega (arith, o.table.legal.long, s.small);
      }

  -- the card bytes are not many
  pub cards-below : length cards ≤ 1048576
  cards-below = omega (arith, mul-le-mul_right b o.table.sound.small, o.long, o.bytes)

  -- and there are some, where each rack has a spare
  pub cards-some : Spared (racks_of job) → 0 < b → 0 < length cards
  cards-some spared some =
      let here = rw suc-mul at (mul-le-mul_right b (spare_lt (racks_of job) spared 0 o.table.sound.some)) in
      omega (arith, here, o.long)

  -- so b need not be asked for where the table and its cards pass
  pub passed-some : Spared (racks_of job) → cards_number job b places cards ≡ 0 → 0 < length cards
  passed-some spared z = cards-some spared (bytes-some b (cards-bytes job b places cards z))

-- so the numbers are few bytes
pub caps-few : {job : Job} → Sound job → length (numerals_of (each cap_of (racks_of job))) ≤ 128
caps-few {job} s = omega (arith, all-few (each cap_of (racks_of job)) (caps-short (racks_of job) s.small), length-each cap_of (racks_of job), s.few)

module _ {job : Job} {b : ℕ} {places : List ℕ} (o : Writable job b places) where
  pub entries-few : length (numerals_of (each file_entry places)) ≤ 8192
  entries-few = omega (arith, all-few (each file_entry places) o.short, length-each file_entry places, o.few)

  pub numbers-few : length (numerals_of (file_numbers (racks_of job) b places)) ≤ 8323
  numbers-few = omega (
    arith,
    bit_le (bit (leb 128 b)) (leb 128 b) refl,
    caps-few o.sound,
    entries-few,
    numbers-size (racks_of job) b (bit (leb 128 b)) _ _ places o.sound.few o.bytes refl refl refl,
  )

-- the file of an accepted job has at most three bytes for N and B, two for each rack and each slot, and the card bytes
pub file_most : (racks : List Rack) (b : ℕ) (places cards : List ℕ) → length racks ≤ 64 → b ≤ 256 → slots racks ≤ 4096 → Legal racks places
    → length (file_for racks b places cards) ≤ 3 + 2 * (length racks + length places) + length cards
unfolding file_for
file_most racks b places cards few fit small legal =
    omega (
      arith,
      bit_le (bit (leb 128 b)) (leb 128 b) refl,
      all-few (each cap_of racks) (caps-short racks small),
      length-each cap_of racks,
      all-few (each file_entry places) (entries-short racks places legal small),
      length-each file_entry places,
      numbers-size racks b (bit (leb 128 b)) _ _ places few fit refl refl refl,
      length-append (numerals_of (file_numbers racks b places)) cards,
    )

-- the file of an accepted job in a buffer that has room for it
module _ {job : Job} {b : ℕ} {places : List ℕ} (o : Writable job b places) (cards l : List ℕ) (some : 0 < length cards) (fits : length (file_for (racks_of job) b places cards) ≤ length l) where
  -- its numbers and its card bytes
  parts : length (numeral_of (length (racks_of job))) + length (numeral_of b) + length (numerals_of (each cap_of (racks_of job))) + length (numerals_of (each file_entry places)) + length cards ≤ length l
  unfolding file_for
  parts = omega (
    arith,
    ap length (numbers-are (racks_of job) b places),
    length-append (numerals_of (file_numbers (racks_of job) b places)) cards,
    length-append ((numeral_of (length (racks_of job)) ++ numeral_of b) ++ numerals_of (each cap_of (racks_of job))) (numerals_of (each file_entry places)),
    length-append (numeral_of (length (racks_of job)) ++ numeral_of b) (numerals_of (each cap_of (racks_of job))),
    length-append (numeral_of (length (racks_of job))) (numeral_of b),
  )

  -- there is room for N
  pub room-count : 1 < length l
  room-count = omega (arith, parts, some, ap length (one_group (length (racks_of job)) (omega (arith, o.sound.few))), numeral-length b (omega (arith, o.bytes)))

  -- behind it for B
  pub room-bytes : {m : List ℕ} {j : ℕ} → Put (numeral_of (length (racks_of job))) l 0 m j → j + 1 < length m
  room-bytes v = omega (arith, parts, some, v.behind, v.kept, numeral-length b (omega (arith, o.bytes)))

  -- behind that for the m_p
  pub room-caps : {m : List ℕ} {j : ℕ} → Put (numeral_of (length (racks_of job)) ++ numeral_of b) l 0 m j → Roomy (each cap_of (racks_of job)) j m
  room-caps v = omega (arith, parts, some, v.behind, v.kept, length-append (numeral_of (length (racks_of job))) (numeral_of b))

  module _ {m : List ℕ} {j : ℕ} (v : Put ((numeral_of (length (racks_of job)) ++ numeral_of b) ++ numerals_of (each cap_of (racks_of job))) l 0 m j) where
    -- behind those for the entries
    pub room-entries : Roomy (each file_entry places) j m
    room-entries = omega (
      arith,
      parts,
      some,
      v.behind,
      v.kept,
      length-append (numeral_of (length (racks_of job)) ++ numeral_of b) (numerals_of (each cap_of (racks_of job))),
      length-append (numeral_of (length (racks_of job))) (numeral_of b),
    )

    module _ {n : List ℕ} {k : ℕ} (w : Put (numerals_of (each file_entry places)) m j n k) where
      all : Put (numerals_of (file_numbers (racks_of job) b places)) l 0 n k
      all = rw (numbers-are (racks_of job) b places) at (put_then v w)

      -- and for the card bytes
      pub room-cards : k + length cards ≤ length n
      unfolding file_for
      room-cards = omega (arith, fits, all.behind, all.kept, length-append (numerals_of (file_numbers (racks_of job) b places)) cards)

      -- with which the file is written
      pub file-put : sets n k cards ≡ sets l 0 (file_for (racks_of job) b places cards)
      unfolding file_for
      file-put = all.stored cards (some)

-- the refusal of the writer
module _ (job : Job) (b : ℕ) (places cards lent : List ℕ) where
  -- with so many bytes of numbers
  module _ (n : ℕ) (is : n ≡ length (numerals_of (file_numbers (racks_of job) b places))) where
    -- the file's length
    pub file-size : n + length cards ≡ length (file_for (racks_of job) b places cards)
    unfolding file_for
    file-size = omega (arith, is, length-append (numerals_of (file_numbers (racks_of job) b places)) cards)

  -- and the table and its cards pass
  module _ (z : cards_number job b places cards ≡ 0) (n : ℕ) (is : n ≡ length (numerals_of (file_numbers (racks_of job) b places))) where
    -- the buffer is too short
    pub write-19 : length lent < n + length cards → placeless 19 ≡ refusal_by job places (write_number job b places cards lent)
    unfolding write_number too_short
    write-19 h =
        placeless_by job places 19 _ (refl, refl)
        (sym (known_past (cards_number job b places cards) _ z ∙ first-here _ 19 [] (lt-ltb (length lent) (length (file_for (racks_of job) b places cards)) (omega (arith, file-size n is)))))

    -- it is not
    pub write-none : n + length cards ≤ length lent → placeless 0 ≡ refusal_by job places (write_number job b places cards lent)
    unfolding write_number too_short
    write-none h =
        placeless_by job places 0 _ (refl, refl)
        (sym
        (known_past (cards_number job b places cards) _ z
        ∙ first-later _ 19 [] (le-ltb (length lent) (length (file_for (racks_of job) b places cards)) (omega (arith, file-size n is)))
        ∙ first-none))

-- a job made from capacities gives their file
pub filed_by_lem : (caps : List ℕ) (b : ℕ) (job : Job) → (first (size_checks (of_caps caps) b) ≡ 0) × (job ≡ good_job (of_caps caps)) → (places cards lent : List ℕ) → filed_by job b places cards lent ≡ filed (of_caps caps) b places cards lent
unfolding filed_by write_number filed write_checks
filed_by_lem caps b job m places cards lent =
    of-card_refusal caps b job m places cards (λ (r : List Rack). (too_short lent (file_for r b places cards), 19) ∷ [])
    (λ (x : Refusal) (r : List Rack). sized x (file_for r b places cards) lent)

-- capacities, or B, that are refused give their refusal
pub filed-sizes : (caps : List ℕ) (b : ℕ) (e : given.Refusal) → refusal_of e ≡ placeless (first (size_checks (of_caps caps) b)) → (places cards lent : List ℕ) → sized_of (size_answered (Err e)) lent ≡ filed (of_caps caps) b places cards lent
unfolding filed write_checks
filed-sizes caps b e is places cards lent =
    sized-refused _ (file_for (of_caps caps) b places cards) lent e (refused-cards caps b e is places cards ((too_short lent (file_for (of_caps caps) b places cards), 19) ∷ []))
