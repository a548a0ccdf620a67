-- The file reader's number is given by its rows, numeral by numeral as they are read. Assumes nothing.
use mathlib.Core.Path.{◌≡◌, refl, ap, sym, ◌∙◌, subst}
use mathlib.Core.Bool.{Bool, true, false}
use mathlib.Core.List.{List, [], ◌∷◌, ◌++◌, append_assoc, append-nil}
use Prim.Native.Nat.{ℕ, zero, suc, ◌-◌, ◌*◌, ◌<◌}
use native.Mathlib.Omega.{arith}
use native.Mathlib.Decide.{ℕ_discrete}
use lib.ListN.{length, get_or}
use borrow.Author.Tests.{ne_eqb}
use Rattle.counting.specs.Tests.{pick}
use Rattle.counting.specs.Checks.{Check, first, known, done}
use Rattle.counting.proofs.Checks.{first-none}
use Rattle.racks.specs.Racks.{Rack, of_caps, slots}
use Rattle.numerals.specs.Numeral.{numeral, Numerals, numerals}
use Rattle.parsing.specs.File.{wrong_n, wrong_b, wrong_m, wrong_entry, read_n, read_b, read_m, read_entries, file_racks, file_bytes, file_places, file_cards, file_checks}
use Rattle.numerals.proofs.Numerals.{either, alone}
use Rattle.demands.specs.Rows.{Row, Numbered, Given}
use Rattle.demands.specs.Conditions.{TwoNameOne}
use Rattle.demands.specs.FileConditions.{form_rows, ask_n, ask_b, ask_m, ask_entry, numeral_rows, entry_rows, file_rows}
use Rattle.demands.proofs.Rows.{given-none, given_row, given-after, numbered-both}
use Rattle.demands.proofs.Says.{says_eq, says_lt, says_not, says_and, says-user, says-1, says-2, says-3, says-6}
use Rattle.demands.proofs.Forms.{given-form}

-- a numeral, what it is asked, and the numerals after it
three : (a b c : ℕ) → pick (done (either a b)) c (either a b) ≡ first (known a ∷ known b ∷ known c ∷ [])
unfolding first
three a b c = elim (ℕ_discrete a 0) [
  | yes e ↦ elim (ℕ_discrete b 0) [
    | yes d ↦ elim (ℕ_discrete c 0) [ yes k ↦ rw (e, d, k) | no k ↦ rw (e, d, ne_eqb c 0 k) ]
    | no d ↦ rw (e, ne_eqb b 0 d, ne_eqb b 0 d)
  ]
  | no e ↦ rw (ne_eqb a 0 e, ne_eqb a 0 e)
]

number_of : (t : Bool) (r s : Numerals) → (pick t r s).number ≡ pick t r.number s.number
number_of true r s = refl
number_of false r s = refl

-- numerals read one after another, each asked as its check says
module _ (ask : List ℕ → ℕ → List Row) (bad : List ℕ → ℕ → ℕ) (file : List ℕ) (says : (before : List ℕ) (x : ℕ) → Given (bad before x) (ask before x)) where
  pub numbered-numerals : (n at : ℕ) (before : List ℕ) → Numbered (numeral_rows ask n file at before)
  unfolding numeral_rows Numbered
  numbered-numerals zero at before = tt
  numbered-numerals (suc n) at before =
      let x = numeral file at in
      let rows = numeral_rows ask n file x.next (before ++ x.value ∷ []) in
      let rest = numbered-numerals n x.next (before ++ x.value ∷ []) in
      numbered-both (ask before x.value ++ rows) (form_rows file at) (given-form file at).numbered
      (numbered-both rows (ask before x.value) (says before x.value).numbered rest)

  -- one numeral more
  step : (n at : ℕ) (before : List ℕ) → (numerals bad (suc n) file at before).number
      ≡ first (known (numeral file at).number ∷ known (bad before (numeral file at).value)
      ∷ known (numerals bad n file (numeral file at).next (before ++ (numeral file at).value ∷ [])).number ∷ [])
  unfolding numerals
  step n at before =
      let x = numeral file at in
      number_of (done (either x.number (bad before x.value))) _ _ ∙ three x.number (bad before x.value) _

  pub given-numerals : (n at : ℕ) (before : List ℕ) → Given (numerals bad n file at before).number (numeral_rows ask n file at before)
  unfolding numeral_rows
  given-numerals zero at before = unfold numerals in subst (λ (m : ℕ). Given m []) first-none given-none
  given-numerals (suc n) at before =
      let x = numeral file at in
      let rows = numeral_rows ask n file x.next (before ++ x.value ∷ []) in
      let k = numbered-numerals n x.next (before ++ x.value ∷ []) in
      let s = says before x.value in
      let rest = given-numerals n x.next (before ++ x.value ∷ []) in
      subst (λ (m : ℕ). Given m (form_rows file at ++ (ask before x.value ++ rows))) (sym (step n at before))
      (given-after x.number (form_rows file at) _ (ask before x.value ++ rows) (given-form file at) (numbered-both rows (ask before x.value) s.numbered k)
      (λ _. given-after (bad before x.value) (ask before x.value) _ rows s k
      (λ _. subst (λ (m : ℕ). Given m rows) (sym (alone _)) rest)))

-- 1 of N, 2 of B, 3 of m_p and the running total, 5 of an entry
pub given_n : (before : List ℕ) (n : ℕ) → Given (wrong_n before n) (ask_n before n)
unfolding wrong_n
given_n before n = given_row _ (λ e. omega arith) (says-1 n) given-none

pub given-b : (before : List ℕ) (b : ℕ) → Given (wrong_b before b) (ask_b before b)
unfolding wrong_b
given-b before b = given_row _ (λ e. omega arith) (says-2 b) given-none

pub given-m : (before : List ℕ) (m : ℕ) → Given (wrong_m before m) (ask_m before m)
unfolding wrong_m
given-m before m = given_row _ (λ e. omega arith) (says-3 (of_caps (before ++ m ∷ []))) given-none

pub given-entry : (racks : List Rack) (before : List ℕ) (x : ℕ) → Given (wrong_entry racks before x) (ask_entry racks before x)
unfolding wrong_entry
given-entry racks before x = given_row _ (λ e. omega arith) (says_and (says_not (says_eq x 0)) (says_not (says-user racks (x - 1)))) given-none

module _ (file : List ℕ) where
  abbrev rows_n : List Row
  rows_n = numeral_rows ask_n 1 file 0 []

  abbrev rows_b : List Row
  rows_b = numeral_rows ask_b 1 file (read_n file).next []

  abbrev rows_m : List Row
  rows_m = numeral_rows ask_m (get_or (read_n file).values 0 0) file (read_b file).next []

  abbrev rows_e : List Row
  rows_e = entry_rows file (slots (file_racks file))

  -- after the last entry
  abbrev rows_c : List Row
  rows_c =
      (6, TwoNameOne (file_places file))
      ∷ (15, length (file_cards file) < slots (file_racks file) * file_bytes file)
      ∷ (16, slots (file_racks file) * file_bytes file < length (file_cards file))
      ∷ []

  -- a file's rows with more behind them, from the front
  in-front : (more : List Row) → file_rows file ++ more ≡ rows_n ++ (rows_b ++ (rows_m ++ (rows_e ++ (rows_c ++ more))))
  in-front more =
      append_assoc rows_n (rows_b ++ (rows_m ++ (rows_e ++ rows_c))) more
      ∙ ap (λ (r : List Row). rows_n ++ r) (append_assoc rows_b (rows_m ++ (rows_e ++ rows_c)) more
      ∙ ap (λ (r : List Row). rows_b ++ r) (append_assoc rows_m (rows_e ++ rows_c) more
      ∙ ap (λ (r : List Row). rows_m ++ r) (append_assoc rows_e rows_c more)))

  -- a file's number, and more checks behind it
  pub given-file : (ds : List Check) (more : List Row) → Given (first ds) more → Given (first (file_checks file ++ ds)) (file_rows file ++ more)
  unfolding file_checks read_n read_b read_m read_entries
  given-file ds more g =
      let c : Given (first _) (rows_c ++ more) =
      given_row _ (λ e. omega arith) (says-6 (file_places file)) (given_row _ (λ e. omega arith) (says_lt _ _) (given_row _ (λ e. omega arith) (says_lt _ _) g)) in
      let n = given-numerals ask_n wrong_n file given_n 1 0 [] in
      let b = given-numerals ask_b wrong_b file given-b 1 (read_n file).next [] in
      let m = given-numerals ask_m wrong_m file given-m (get_or (read_n file).values 0 0) (read_b file).next [] in
      let e = given-numerals (ask_entry (file_racks file)) (wrong_entry (file_racks file)) file (given-entry (file_racks file)) (slots (file_racks file)) (read_m file).next [] in
      let past-m = numbered-both (rows_c ++ more) rows_e e.numbered c.numbered in
      let past-b = numbered-both (rows_e ++ (rows_c ++ more)) rows_m m.numbered past-m in
      let past-n = numbered-both (rows_m ++ (rows_e ++ (rows_c ++ more))) rows_b b.numbered past-b in
      subst (λ (r : List Row). Given (first (file_checks file ++ ds)) r) (sym (in-front more))
      (given-after (read_n file).number rows_n _ _ n past-n
      (λ _. given-after (read_b file).number rows_b _ _ b past-b
      (λ _. given-after (read_m file).number rows_m _ _ m past-m
      (λ _. given-after (read_entries file).number rows_e _ _ e c.numbered (λ _. c)))))

  -- a file's number alone
  pub given-file-only : Given (first (file_checks file)) (file_rows file)
  unfolding file_checks
  given-file-only = subst (λ (r : List Row). Given (first (file_checks file)) r) (append-nil (file_rows file)) (given-file [] [] given-none)
