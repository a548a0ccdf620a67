-- The file of a job is read back. Assumes nothing.
use mathlib.Core.Path.{◌≡◌, refl, ap, sym, ◌∙◌, subst}
use mathlib.Core.Bool.{false, not}
use mathlib.Core.List.{List, [], ◌∷◌, ◌++◌}
use Prim.Native.Nat.{ℕ, zero, suc, ◌+◌, ◌*◌, ◌≤◌, ◌<◌}
use native.Mathlib.Omega.{arith}
use native.Mathlib.Nat.{mul-le-mul_right}
use lib.ListN.{length, get_or, take, drop, length-drop}
use borrow.Author.Tests.{eq-eqb, eqb-true, eqb-false, le-ltb, ltb-false}
use Rattle.counting.specs.Lists.{each, join}
use Rattle.counting.specs.Checks.{first}
use Rattle.counting.proofs.Tests.{or-off_l, or-off_r, not-off-is}
use Rattle.counting.proofs.Some.{some-off}
use Rattle.counting.proofs.Lists.{length-each, get_d-each}
use Rattle.counting.proofs.Checks.{Clear, clear_first, first-clear}
use Rattle.counting.proofs.Checks.Clear.{none, more}
use Rattle.racks.specs.Racks.{Rack, of_caps, slots}
use Rattle.racks.specs.Numbers.{bad_count, bad_bytes, bad_size, bad_places, bad_cards, bad_entry, bad_entries, bad_twice, card_checks}
use Rattle.racks.proofs.Table.{read-dest}
use Rattle.racks.proofs.Caps.{length-caps, checks-0, slots-caps, slots_small}
use Rattle.racks.proofs.Marked.{cards-marked}
use Rattle.tables.proofs.Tables.{cards_pass}
use Rattle.numerals.specs.Numeral.{Numerals, numerals}
use Rattle.numerals.proofs.Numerals.{reading}
use Rattle.parsing.specs.File.{wrong_n, wrong_b, wrong_m, wrong_entry, entry_of, read_n, read_b, read_m, read_entries, file_racks, file_bytes, file_places, file_cards, file_checks}
use Rattle.jobwriter.proofs.Files.{file_most}
use Rattle.jobwriter.specs.Writing.{numeral_of, file_entry, file_numbers, file_for}
use Rattle.roundtrip.specs.parts.Reading.{Passing, jobs_file, ReadBack}
use Rattle.roundtrip.proofs.Numerals.{behind, numerals-at, four-parts}
use Rattle.roundtrip.proofs.Tables.{each_back, caps-back, entry-back, one-clear, number_small, number_passes, caps_pass}

-- numbers xs are read, and behind them stands `rest`
record Taken (r : Numerals) (file xs rest : List ℕ) : Type 0 where
  pub done : r.number ≡ 0
  pub are : r.values ≡ xs
  pub left : drop r.next file ≡ rest

-- numbers that were written are read
taken : (bad : List ℕ → ℕ → ℕ) (n : ℕ) (xs file : List ℕ) (at : ℕ) (rest : List ℕ) → n ≡ length xs → Passing bad [] xs → drop at file ≡ join (each numeral_of xs) ++ rest
    → Taken (numerals bad n file at []) file xs rest
taken bad n xs file at rest c p e =
    let r : numerals bad n file at [] ≡ reading xs (at + length (join (each numeral_of xs))) = ap (λ (k : ℕ). numerals bad k file at []) c ∙ numerals-at bad xs file at [] rest p e in
    record {
      done = ap (λ (x : Numerals). x.number) r;
      are = ap (λ (x : Numerals). x.values) r;
      left = ap (λ (x : Numerals). drop x.next file) r ∙ behind file at (join (each numeral_of xs)) rest e;
    }

-- one number passes
one_passes : (bad : List ℕ → ℕ → ℕ) (x : ℕ) → x < 2097152 → bad [] x ≡ 0 → Passing bad [] (x ∷ [])
one_passes bad x l e zero m = (l, e)
one_passes bad x l e (suc k) m = absurd (omega arith)

-- a job that passes 1 to 6, check by check
record Passed (racks : List Rack) (b : ℕ) (places cards : List ℕ) : Type 0 where
  pub count : bad_count (length racks) ≡ false
  pub bytes : bad_bytes b ≡ false
  pub size : bad_size racks ≡ false
  pub named : length places ≡ slots racks
  pub long : length cards ≡ slots racks * b
  pub entries : (g : ℕ) → g < length places → bad_entry racks places g ≡ false
  pub once : bad_twice places ≡ false

-- what the checks leave
passed : (racks : List Rack) (b : ℕ) (places cards : List ℕ) → first (card_checks racks b places cards) ≡ 0 → Passed racks b places cards
unfolding card_checks bad_places bad_cards bad_entries
passed racks b places cards z = go (first-clear (cards-marked racks b places cards) z)
  where
    go : Clear (card_checks racks b places cards) → Passed racks b places cards
    go (more n (more y (more s (more l (more e (more t none)))))) =
        record {
          count = n;
          bytes = y;
          size = s;
          named = eqb-true _ _ (not-off-is (or-off_l _ l));
          long = eqb-true _ _ (not-off-is (or-off_r _ l));
          entries = some-off (length places) (bad_entry racks places) e;
          once = t;
        }

-- a job that passes
module _ (caps : List ℕ) (b : ℕ) (places cards : List ℕ) (ok : Passed (of_caps caps) b places cards) where
  -- its racks
  abbrev racks : List Rack
  racks = of_caps caps

  -- its entries, as the file has them
  abbrev numbers : List ℕ
  numbers = each file_entry places

  -- its file
  abbrev file : List ℕ
  file = jobs_file caps b places cards

  -- what is written from the entries on
  abbrev from_entries : List ℕ
  from_entries = join (each numeral_of numbers) ++ cards

  -- from the m_p on
  abbrev from-caps : List ℕ
  from-caps = join (each numeral_of caps) ++ from_entries

  -- from B on
  abbrev from-B : List ℕ
  from-B = join (each numeral_of (b ∷ [])) ++ from-caps

  -- the file's parts
  file-is : file ≡ join (each numeral_of (length racks ∷ [])) ++ from-B
  unfolding file_for file_numbers
  file-is = rw (caps-back caps) (four-parts (length racks ∷ []) (b ∷ []) caps numbers cards)

  -- it has at most 4,096 slots
  small : slots racks ≤ 4096
  small = slots_small caps (sym (checks-0 racks ok.count ok.size))

  -- N is read
  N-taken : Taken (read_n file) file (length racks ∷ []) from-B
  unfolding read_n wrong_n bad_count
  N-taken =
      taken wrong_n 1 (length racks ∷ []) file 0 from-B refl
      (one_passes wrong_n (length racks) (omega (arith, ltb-false 64 (length racks) (or-off_r _ ok.count))) (one-clear _ 1 ok.count)) file-is

  -- then B
  B-taken : Taken (read_b file) file (b ∷ []) from-caps
  unfolding read_b wrong_b bad_bytes
  B-taken =
      taken wrong_b 1 (b ∷ []) file (read_n file).next from-caps refl
      (one_passes wrong_b b (omega (arith, ltb-false 256 b (or-off_r _ ok.bytes))) (one-clear _ 2 ok.bytes)) N-taken.left

  -- then the m_p
  M-taken : Taken (read_m file) file caps from_entries
  unfolding read_m
  M-taken =
      taken wrong_m (get_or (read_n file).values 0 0) caps file (read_b file).next from_entries (ap (λ (l : List ℕ). get_or l 0 0) N-taken.are ∙ length-caps caps)
      (caps_pass caps ok.size) B-taken.left

  -- so the racks are the job's
  racks-are : file_racks file ≡ racks
  unfolding file_racks
  racks-are = ap of_caps M-taken.are

  -- the entries pass
  entries_pass : Passing (wrong_entry racks) [] numbers
  entries_pass k l =
      let m : k < length places = omega (arith, length-each file_entry places) in
      rw (get_d-each file_entry places k 0 0 m, read-dest places k m) (omega (arith, number_small racks small places k (ok.entries k m)), number_passes racks small places k (ok.entries k m) (take k numbers))

  -- and are read last
  entries-taken : Taken (read_entries file) file numbers cards
  unfolding read_entries
  entries-taken =
      subst (λ (r : List Rack). Taken (numerals (wrong_entry r) (slots r) file (read_m file).next []) file numbers cards) (sym racks-are)
      (taken (wrong_entry racks) (slots racks) numbers file (read_m file).next cards (sym (length-each file_entry places ∙ ok.named)) entries_pass M-taken.left)

  -- so is B
  bytes_back : file_bytes file ≡ b
  unfolding file_bytes
  bytes_back = ap (λ (l : List ℕ). get_or l 0 0) B-taken.are

  -- so is the places table
  places-back : file_places file ≡ places
  unfolding file_places
  places-back = ap (each entry_of) entries-taken.are ∙ each_back file_entry entry_of 0 places (λ k l. entry-back (get_or places k 0))

  -- and so are the card bytes
  cards-back : file_cards file ≡ cards
  unfolding file_cards
  cards-back = entries-taken.left

  -- there is a card byte, so the last entry ends inside the file
  next-back : (read_entries file).next + length cards ≡ length file
  unfolding bad_count bad_bytes
  next-back =
      let s : 1 ≤ slots racks = omega (arith, slots-caps caps, length-caps caps, eqb-false (length racks) 0 (or-off_l _ ok.count)) in
      let y : 1 ≤ b = omega (arith, eqb-false b 0 (or-off_l _ ok.bytes)) in
      omega (arith, ok.long, mul-le-mul_right b s, length-drop (read_entries file).next file, ap length entries-taken.left)

  -- so the file is read back
  back : ReadBack caps b places cards
  unfolding file_checks
  back =
      let c = length (file_cards file) in
      let w = slots (file_racks file) * file_bytes file in
      let e : c ≡ w = rw (cards-back, racks-are, bytes_back) ok.long in
      record {
        none =
            clear_first (more (ap not (eq-eqb _ _ N-taken.done)) (more (ap not (eq-eqb _ _ B-taken.done)) (more (ap not (eq-eqb _ _ M-taken.done))
            (more (ap not (eq-eqb _ _ entries-taken.done)) (more (rw places-back ok.once)
            (more (le-ltb c w (omega arith)) (more (le-ltb w c (omega arith)) none)))))));
        caps-are = M-taken.are;
        bytes-are = bytes_back;
        places-are = places-back;
        cards-are = cards-back;
        next-is = next-back;
      }

-- how much room its file takes at most
pub file-room : (caps : List ℕ) (b : ℕ) (places cards : List ℕ) → first (card_checks (of_caps caps) b places cards) ≡ 0
    → length (file_for (of_caps caps) b places cards) ≤ 3 + 2 * (length caps + length places) + length cards
unfolding bad_count bad_bytes
file-room caps b places cards z =
    let ok = passed (of_caps caps) b places cards z in
    let few : length (of_caps caps) ≤ 64 = ltb-false 64 (length (of_caps caps)) (or-off_r _ ok.count) in
    let m = file_most (of_caps caps) b places cards few (ltb-false 256 b (or-off_r _ ok.bytes)) (slots_small caps (sym (checks-0 (of_caps caps) ok.count ok.size))) (cards_pass (of_caps caps) b places cards z).0 in
    omega (arith, m, length-caps caps)

-- the file of a job that passes 1 to 6 is read back
pub read_back : (caps : List ℕ) (b : ℕ) (places cards : List ℕ) → first (card_checks (of_caps caps) b places cards) ≡ 0 → ReadBack caps b places cards
read_back caps b places cards z = back caps b places cards (passed (of_caps caps) b places cards z)
