-- "Job file": its numbers, here called numerals, in groups of seven bits. Assumes nothing: these are definitions.
use Rattle.std.specs.Prelude.{not, Result, Ok, Err, List, [], ◌∷◌, ◌++◌, ℕ, zero, suc, ◌+◌, ◌-◌, ◌*◌, eqb, leb, length, get_or}
use Rattle.counting.specs.Tests.{◌and◌, pick}
use Rattle.counting.specs.Checks.{first, known, done}
use Rattle.answers.specs.Answers.{refusal_of}
use Rattle.answers.specs.declared.Refusal as given
use Rattle.numerals.specs.declared.Numeral.{Numeral}

-- a numeral read: 0 or the number that it is refused with, its value, and the position behind it
pub record Got : Type 0 where
  pub number : ℕ
  pub value : ℕ
  pub next : ℕ

abbrev pub refused : ℕ → Got
refused n = record { number = n; value = 0; next = 0 }

-- the last group of a numeral: 14 where it is 0 and not the only one
unfoldable pub last_group : ℕ → ℕ → ℕ → ℕ → Got
last_group value weight x next =
    pick (eqb x 0 and not (eqb weight 1)) (refused 14) (record { number = 0; value = value + x * weight; next = next })

-- at most `more` further groups, lowest first: 15 where the file ends; the top bit says that another follows; 20 for a group too many, there or not
unfoldable pub groups : ℕ → List ℕ → ℕ → ℕ → ℕ → Got
groups zero file at value weight = refused 20
groups (suc more) file at value weight =
    let x = get_or file at 0 in
    pick (leb (length file) at) (refused 15)
    (pick (leb 128 x) (groups more file (suc at) (value + (x - 128) * weight) (weight * 128))
    (last_group value weight x (suc at)))

-- the numeral at a position of the file: at most three groups
unfoldable pub numeral : List ℕ → ℕ → Got
numeral file at = groups 3 file at 0 1

-- numerals read one after another: 0 or the number that they are refused with, their values, and the position behind them
pub record Numerals : Type 0 where
  pub number : ℕ
  pub values : List ℕ
  pub next : ℕ

-- n numerals, each checked as read: first its form, then by `bad`, which sees the values before it
unfoldable pub numerals : (List ℕ → ℕ → ℕ) → ℕ → List ℕ → ℕ → List ℕ → Numerals
numerals bad zero file at before = record { number = 0; values = before; next = at }
numerals bad (suc n) file at before =
    let x = numeral file at in
    let no = first (known x.number ∷ known (bad before x.value) ∷ []) in
    pick (done no) (numerals bad n file x.next (before ++ x.value ∷ [])) (record { number = no; values = []; next = 0 })

-- the rules' number, the value and the position that reading a numeral gives
unfoldable pub got_of : Result Numeral given.Refusal → Got
got_of (Ok n) = record { number = 0; value = n.value; next = n.next }
got_of (Err e) = refused (refusal_of e).number
