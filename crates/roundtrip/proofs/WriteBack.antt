-- A file that is read is the file of the job that it gives. Assumes nothing.
use mathlib.Core.Path.{◌≡◌, refl, ap, sym, ◌∙◌}
use mathlib.Core.List.{List, [], ◌∷◌, ◌++◌}
use Prim.Native.Nat.{ℕ}
use native.Mathlib.Omega.{arith}
use lib.ListN.{length, get_or}
use Rattle.counting.specs.Lists.{each, join}
use Rattle.counting.specs.Checks.{first}
use Rattle.racks.specs.Racks.{slots}
use Rattle.parsing.specs.File.{wrong_n, wrong_b, wrong_m, wrong_entry, entry_of, read_n, read_b, read_m, read_entries, file_racks, file_bytes, file_places, file_cards, file_checks}
use Rattle.parsing.proofs.Legal.{numerals-length, Accepted, accepted, racks_N, entries-length, entry_right, entry-small}
use Rattle.jobwriter.specs.Writing.{numeral_of, file_entry, cap_of, file_numbers, file_for}
use Rattle.roundtrip.specs.RoundTrip.{Bytes}
use Rattle.roundtrip.proofs.Numerals.{four-parts}
use Rattle.roundtrip.proofs.Tables.{each_back, caps-back, number-back}
use Rattle.roundtrip.proofs.Forms.{Stands, numerals-form}

-- a list of one number
one_only : (l : List ℕ) → length l ≡ 1 → l ≡ get_or l 0 0 ∷ []
one_only [] e = absurd (omega arith)
one_only (x ∷ []) e = refl
one_only (x ∷ y ∷ l) e = absurd (omega arith)

-- a file that is not refused
module _ (file : List ℕ) (a : Accepted file) where
  -- N is the number of racks
  N-is : (read_n file).values ≡ length (file_racks file) ∷ []
  unfolding read_n
  N-is = one_only (read_n file).values (numerals-length wrong_n file 1 0 [] a.N-read ∙ omega arith) ∙ ap (λ (n : ℕ). n ∷ []) (sym (racks_N file a))

  -- B
  B-is : (read_b file).values ≡ file_bytes file ∷ []
  unfolding read_b file_bytes
  B-is = one_only (read_b file).values (numerals-length wrong_b file 1 (read_n file).next [] a.B-read ∙ omega arith)

  -- the m_p
  caps-are : each cap_of (file_racks file) ≡ (read_m file).values
  unfolding file_racks
  caps-are = caps-back (read_m file).values

  -- the entries
  entries-are : each file_entry (file_places file) ≡ (read_entries file).values
  unfolding file_places
  entries-are =
      each_back entry_of file_entry 0 (read_entries file).values
      (λ k l. let x = get_or (read_entries file).values k 0 in number-back x (entry-small file a x (entry_right file a k (omega (arith, entries-length file a)))))

  -- the numbers that are written are those that were read
  numbers-are : file_numbers (file_racks file) (file_bytes file) (file_places file) ≡ (read_n file).values ++ ((read_b file).values ++ ((read_m file).values ++ (read_entries file).values))
  unfolding file_numbers
  numbers-are = rw (N-is, B-is, caps-are, entries-are)

  module _ (bytes : Bytes file) where
    -- each part stands in the file as it is written: N
    N-form : Stands file 0 (read_n file)
    unfolding read_n
    N-form = numerals-form wrong_n file bytes 1 0 a.N-read

    -- B
    B-form : Stands file (read_n file).next (read_b file)
    unfolding read_b
    B-form = numerals-form wrong_b file bytes 1 (read_n file).next a.B-read

    -- the m_p
    M-form : Stands file (read_b file).next (read_m file)
    unfolding read_m
    M-form = numerals-form wrong_m file bytes (get_or (read_n file).values 0 0) (read_b file).next a.M-read

    -- the entries
    entries-form : Stands file (read_m file).next (read_entries file)
    unfolding read_entries
    entries-form = numerals-form (wrong_entry (file_racks file)) file bytes (slots (file_racks file)) (read_m file).next a.entries-read

-- a file of bytes that is read is the file of the job that it gives
pub write-back : (file : List ℕ) → Bytes file → first (file_checks file) ≡ 0 → file_for (file_racks file) (file_bytes file) (file_places file) (file_cards file) ≡ file
unfolding file_for file_cards
write-back file bytes z =
    let a = accepted file z in
    ap (λ (l : List ℕ). join (each numeral_of l) ++ file_cards file) (numbers-are file a)
    ∙ four-parts (read_n file).values (read_b file).values (read_m file).values (read_entries file).values (file_cards file)
    ∙ sym (N-form file a bytes ∙ rw (B-form file a bytes, M-form file a bytes, entries-form file a bytes))
