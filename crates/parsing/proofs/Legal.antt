-- A file that is not refused is a legal job: its capacities, places and card bytes pass the checks 1 to 6. Assumes nothing.
use mathlib.Core.Path.{◌≡◌, ap, sym, ◌∙◌, subst}
use mathlib.Core.Bool.{Bool, false, not}
use mathlib.Core.List.{List, [], ◌∷◌, ◌++◌}
use Prim.Native.Nat.{ℕ, zero, suc, ◌+◌, ◌-◌, ◌*◌, ◌≤◌, ◌<◌}
use native.Mathlib.Omega.{arith}
use native.Mathlib.Decide.{ℕ_discrete, dec_lt}
use lib.Dec.{eqb}
use lib.ListN.{length, get_or, length-append, get_or-append}
use lib.Seq.{get_or-append_seam}
use borrow.Author.Tests.{eq-eqb, ne_eqb, eqb-true, eqb-false, ltb-false}
use Rattle.counting.specs.Tests.{◌or◌}
use Rattle.counting.specs.Checks.{Check, first, known, done}
use Rattle.counting.proofs.Tests.{by-test, or-none, both, not-off, no_way}
use Rattle.counting.proofs.Some.{some-none}
use Rattle.counting.proofs.Lists.{length-each, get_d-each}
use Rattle.counting.proofs.Checks.{none, more, first-here, first-later, first_off, clear_first}
use Rattle.racks.specs.Racks.{of_caps, slots, is_user}
use Rattle.racks.specs.Table.{free}
use Rattle.racks.specs.Limits.{FREE}
use Rattle.racks.specs.Numbers.{bad_count, bad_bytes, bad_size, bad_places, bad_cards, bad_entry, bad_entries, bad_twice, card_checks}
use Rattle.racks.proofs.Caps.{length-caps, slots_small, checks-0, racks-few}
use Rattle.racks.proofs.Geometry.{user_lt}
use Rattle.numerals.specs.Numeral.{numeral, Numerals, numerals}
use Rattle.parsing.specs.File.{wrong_n, wrong_b, wrong_m, wrong_entry, entry_of, read_n, read_b, read_m, read_entries, file_racks, file_bytes, file_places, file_cards, file_checks}
use Rattle.numerals.proofs.Numerals.{either, either-0}
use Rattle.parsing.proofs.Capacities.{size_none}
use Rattle.parsing.proofs.Entries.{wrong-file, wrong-same}

-- numerals that are not refused
module _ (bad : List ℕ → ℕ → ℕ) (file : List ℕ) where
  -- one is read, and passes, and then the others
  pub one_more_lem : (n at : ℕ) (before : List ℕ) → (numerals bad (suc n) file at before).number ≡ 0
      → (numerals bad (suc n) file at before ≡ numerals bad n file (numeral file at).next (before ++ (numeral file at).value ∷ []))
      × ((numeral file at).number ≡ 0)
      × (bad before (numeral file at).value ≡ 0)
  unfolding numerals
  one_more_lem n at before z =
      let no-0 = either (numeral file at).number (bad before (numeral file at).value) in
      by-test (done no-0)
      (λ t. let q = either-0 (numeral file at).number (bad before (numeral file at).value) (eqb-true no-0 0 t) in (rw t, q.0, q.1))
      (λ t. absurd (eqb-false no-0 0 t (rw t at z)))

  -- what one numeral more keeps, all keep
  numerals_keep : (P : List ℕ → Type 0) → ((b : List ℕ) (x : ℕ) → bad b x ≡ 0 → P b → P (b ++ x ∷ [])) → (n at : ℕ) (before : List ℕ) → P before
      → (numerals bad n file at before).number ≡ 0 → P (numerals bad n file at before).values
  numerals_keep P step zero at before p z = unfold numerals in p
  numerals_keep P step (suc n) at before p z =
      let o = one_more_lem n at before z in
      subst (λ (r : Numerals). P r.values) (sym o.0)
      (numerals_keep P step n (numeral file at).next (before ++ (numeral file at).value ∷ []) (step before (numeral file at).value o.2 p) (sym (ap (λ (r : Numerals). r.number) o.0) ∙ z))

  -- there are n of them
  pub numerals-length : (n at : ℕ) (before : List ℕ) → (numerals bad n file at before).number ≡ 0 → length (numerals bad n file at before).values ≡ n + length before
  numerals-length zero at before z = unfold numerals in omega arith
  numerals-length (suc n) at before z =
      let o = one_more_lem n at before z in
      ap (λ (r : Numerals). length r.values) o.0
      ∙ numerals-length n (numeral file at).next (before ++ (numeral file at).value ∷ []) (sym (ap (λ (r : Numerals). r.number) o.0) ∙ z)
      ∙ rw length-append (omega arith)

  -- each passes
  numerals-each : (Q : ℕ → Type 0) → ((b : List ℕ) (x : ℕ) → bad b x ≡ 0 → Q x) → (n at : ℕ) → (numerals bad n file at []).number ≡ 0
      → (k : ℕ) → k < length (numerals bad n file at []).values → Q (get_or (numerals bad n file at []).values k 0)
  numerals-each Q h n at z =
      numerals_keep (λ b. (k : ℕ) → k < length b → Q (get_or b k 0))
      (λ b x e p k l. elim (dec_lt k (length b)) [
        | yes m ↦ rw (get_or-append b (x ∷ []) 0 k m) (p k m)
        | no m ↦ let q : k ≡ length b = omega (arith, length-append b (x ∷ [])) in rw (q, get_or-append_seam b x [] 0) (h b x e)
      ]) n at [] (λ k l. absurd (omega arith)) z

-- a refusal that is not given
refusal-0 : (n : ℕ) (cs : List Check) → first (known n ∷ cs) ≡ 0 → (n ≡ 0) × (first cs ≡ 0)
refusal-0 n cs z = elim (ℕ_discrete n 0) [
  | yes e ↦ (e, sym (first-later _ n cs (ap not (eq-eqb n 0 e))) ∙ z)
  | no f ↦ absurd (f (sym (first-here _ n cs (ap not (ne_eqb n 0 f))) ∙ z))
]

-- a check alone that is not given
one-off : (b : Bool) (n : ℕ) → (n ≡ 0 → ⊥) → first ((b, n) ∷ []) ≡ 0 → b ≡ false
one-off b n f z = (first_off b n [] f z).0

-- a file that is not refused, check by check
pub record Accepted (file : List ℕ) : Type 0 where
  pub N-read : (read_n file).number ≡ 0
  pub B-read : (read_b file).number ≡ 0
  pub M-read : (read_m file).number ≡ 0
  pub entries-read : (read_entries file).number ≡ 0
  pub once : bad_twice (file_places file) ≡ false
  pub bytes : length (file_cards file) ≡ slots (file_racks file) * file_bytes file

pub accepted : (file : List ℕ) → first (file_checks file) ≡ 0 → Accepted file
unfolding file_checks
accepted file z =
    let n = refusal-0 _ _ z in
    let b = refusal-0 _ _ n.1 in
    let m = refusal-0 _ _ b.1 in
    let e = refusal-0 _ _ m.1 in
    let t = first_off _ 6 _ (λ q. omega arith) e.1 in
    let s = first_off _ 15 _ (λ q. omega arith) t.1 in
    let l = first_off _ 16 _ (λ q. omega arith) s.1 in
    record {
      N-read = n.0;
      B-read = b.0;
      M-read = m.0;
      entries-read = e.0;
      once = t.0;
      bytes =
          let c = length (file_cards file) in
          let w = slots (file_racks file) * file_bytes file in
          omega (arith, ltb-false c w s.0, ltb-false w c l.0);
    }

module _ (file : List ℕ) (a : Accepted file) where
  -- N is the number of racks
  pub racks_N : length (file_racks file) ≡ get_or (read_n file).values 0 0
  unfolding file_racks read_m
  racks_N = length-caps (read_m file).values ∙ numerals-length wrong_m file (get_or (read_n file).values 0 0) (read_b file).next [] a.M-read ∙ omega arith

  count-ok : bad_count (length (file_racks file)) ≡ false
  unfolding read_n wrong_n
  count-ok = rw racks_N (numerals-each wrong_n file (λ x. bad_count x ≡ false) (λ b x e. one-off (bad_count x) 1 (λ q. omega arith) e) 1 0 a.N-read 0 (omega (arith, numerals-length wrong_n file 1 0 [] a.N-read)))

  bytes_ok : bad_bytes (file_bytes file) ≡ false
  unfolding read_b wrong_b file_bytes
  bytes_ok =
      numerals-each wrong_b file (λ x. bad_bytes x ≡ false) (λ b x e. one-off (bad_bytes x) 2 (λ q. omega arith) e) 1 (read_n file).next a.B-read 0
      (omega (arith, numerals-length wrong_b file 1 (read_n file).next [] a.B-read))

  size_ok : bad_size (file_racks file) ≡ false
  unfolding read_m wrong_m file_racks
  size_ok =
      numerals_keep wrong_m file (λ b. bad_size (of_caps b) ≡ false) (λ b x e _. one-off _ 3 (λ q. omega arith) e) (get_or (read_n file).values 0 0) (read_b file).next [] size_none a.M-read

  small : slots (file_racks file) ≤ 4096
  unfolding file_racks
  small = slots_small (read_m file).values (sym (checks-0 (file_racks file) count-ok size_ok))

  -- S entries
  pub entries-length : length (read_entries file).values ≡ slots (file_racks file)
  unfolding read_entries
  entries-length = numerals-length (wrong_entry (file_racks file)) file (slots (file_racks file)) (read_m file).next [] a.entries-read ∙ omega arith

  places-length : length (file_places file) ≡ slots (file_racks file)
  unfolding file_places
  places-length = length-each entry_of (read_entries file).values ∙ entries-length

  -- each passes 5
  pub entry_right : (g : ℕ) → g < slots (file_racks file) → wrong-file (file_racks file) (get_or (read_entries file).values g 0) ≡ false
  unfolding read_entries wrong_entry
  entry_right g l =
      numerals-each (wrong_entry (file_racks file)) file (λ x. wrong-file (file_racks file) x ≡ false) (λ b x e. one-off _ 5 (λ q. omega arith) e)
      (slots (file_racks file)) (read_m file).next a.entries-read g (omega (arith, entries-length))

  -- and so is at most 4,096
  pub entry-small : (x : ℕ) → wrong-file (file_racks file) x ≡ false → x ≤ 4096
  entry-small x w = elim (ℕ_discrete x 0) [
    | yes e ↦ omega arith
    | no f ↦ by-test (is_user (file_racks file) (x - 1))
        (λ u. omega (arith, user_lt (file_racks file) (x - 1) u, small))
        (λ u. absurd (no_way (both (ap not (ne_eqb x 0 f)) (not-off u)) w))
  ]

  entry-ok : (g : ℕ) → g < length (file_places file) → bad_entry (file_racks file) (file_places file) g ≡ false
  unfolding bad_entry free file_places
  entry-ok g l =
      let x = get_or (read_entries file).values g 0 in
      let w = entry_right g (omega (arith, places-length)) in
      ap (λ (v : ℕ). not (eqb v FREE or is_user (file_racks file) v)) (get_d-each entry_of (read_entries file).values g 0 FREE (omega (arith, entries-length, places-length)))
      ∙ sym (wrong-same (file_racks file) x (entry-small x w)) ∙ w

-- it is legal
pub file-legal : (file : List ℕ) → first (file_checks file) ≡ 0 → first (card_checks (file_racks file) (file_bytes file) (file_places file) (file_cards file)) ≡ 0
unfolding card_checks bad_places bad_cards bad_entries
file-legal file z =
    let a = accepted file z in
    clear_first (more (count-ok file a) (more (bytes_ok file a) (more (size_ok file a)
    (more (or-none (ap not (eq-eqb _ _ (places-length file a))) (ap not (eq-eqb _ _ a.bytes)))
    (more (some-none (length (file_places file)) (bad_entry (file_racks file) (file_places file)) (entry-ok file a)) (more a.once none))))))

-- and has at most 64 racks and 4,096 slots, so that lists of that length have room for it
pub file-small : (file : List ℕ) → first (file_checks file) ≡ 0 → (length (file_racks file) ≤ 64) × (slots (file_racks file) ≤ 4096)
file-small file z =
    let a = accepted file z in
    (racks-few (file_racks file) (sym (checks-0 (file_racks file) (count-ok file a) (size_ok file a))), small file a)
