-- The number that a file is refused with is at most 20. Assumes nothing.
use mathlib.Core.List.{List, [], ◌∷◌, ◌++◌}
use Prim.Native.Nat.{ℕ, zero, suc, ◌+◌, ◌-◌, ◌*◌, ◌≤◌}
use native.Mathlib.Omega.{arith}
use lib.Dec.{eqb, leb}
use lib.ListN.{length, get_or}
use Rattle.counting.specs.Tests.{◌and◌}
use Rattle.counting.specs.Checks.{Check, first, known, done}
use Rattle.counting.proofs.Tests.{by-test}
use Rattle.counting.specs.Every.{All}
use Rattle.counting.specs.Every.All.{none, more}
use mathlib.Core.Bool.{not}
use Rattle.racks.specs.Racks.{slots}
use Rattle.numerals.specs.Numeral.{groups, numeral, numerals, last_group}
use Rattle.parsing.specs.File.{wrong_n, wrong_b, wrong_m, wrong_entry, read_n, read_b, read_m, read_entries, file_racks, file_checks}
use Rattle.listing.specs.Listing.{program_checks}

-- the number of a check is at most k
abbrev Most : ℕ → Check → Type 0
Most k c = c.1 ≤ k

-- and so is the number that checks give
first_most : (k : ℕ) {cs : List Check} → All (Most k) cs → first cs ≤ k
unfolding first
first_most k none = omega arith
first_most k (more {x} p r) = by-test x.0 (λ e. rw e p) (λ e. rw e (first_most k r))

-- a numeral of the file is refused with 14, 15 or 20
groups_most : (m : ℕ) (file : List ℕ) (at value weight : ℕ) → (groups m file at value weight).number ≤ 20
unfolding groups last_group
groups_most zero file at value weight = omega arith
groups_most (suc m) file at value weight =
    let x = get_or file at 0 in
    by-test (leb (length file) at) (λ e. rw e (omega arith))
    (λ e. rw e (by-test (leb 128 x) (λ q. rw q (groups_most m file (suc at) (value + (x - 128) * weight) (weight * 128)))
    (λ q. rw q (by-test (eqb x 0 and not (eqb weight 1)) (λ t. rw t (omega arith)) (λ t. rw t (omega arith))))))

-- numbers one after another, with 14, 15 or 20, or with what `bad` gives
numbers_most : (bad : List ℕ → ℕ → ℕ) → ((before : List ℕ) (x : ℕ) → bad before x ≤ 20) → (n : ℕ) (file : List ℕ) (at : ℕ) (before : List ℕ) → (numerals bad n file at before).number ≤ 20
unfolding numerals numeral
numbers_most bad few zero file at before = omega arith
numbers_most bad few (suc n) file at before =
    let x = groups 3 file at 0 1 in
    let cs = known x.number ∷ known (bad before x.value) ∷ [] in
    by-test (done (first cs)) (λ e. rw e (numbers_most bad few n file x.next (before ++ x.value ∷ [])))
    (λ e. rw e (first_most 20 {cs = cs} (more (groups_most 3 file at 0 1) (more (few before x.value) none))))

-- **The number of a file is at most 20**
pub number_most : (file : List ℕ) → first (program_checks file) ≤ 20
unfolding program_checks file_checks read_n read_b read_m read_entries wrong_n wrong_b wrong_m wrong_entry
number_most file =
    first_most 20 (more (omega arith)
    (more (omega (arith, numbers_most wrong_n (λ b x. first_most 20 (more (omega arith) none)) 1 file 0 []))
    (more (omega (arith, numbers_most wrong_b (λ b x. first_most 20 (more (omega arith) none)) 1 file (read_n file).next []))
    (more (omega (arith, numbers_most wrong_m (λ b x. first_most 20 (more (omega arith) none)) (get_or (read_n file).values 0 0) file (read_b file).next []))
    (more (omega (arith, numbers_most (wrong_entry (file_racks file)) (λ b x. first_most 20 (more (omega arith) none)) (slots (file_racks file)) file (read_m file).next []))
    (more (omega arith) (more (omega arith) (more (omega arith) none))))))))
