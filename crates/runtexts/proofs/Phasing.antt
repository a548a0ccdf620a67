-- The phases that a run's log has are those that were made, and can be read; their lines one behind another. Assumes nothing.
use mathlib.Core.Path.{◌≡◌, refl, ap, sym, subst, ◌∙◌}
use mathlib.Core.List.{List, [], ◌∷◌, ◌++◌, append_assoc, append-nil}
use Prim.Native.Nat.{ℕ, zero, suc, ◌+◌, ◌-◌, ◌*◌, ◌≤◌, ◌<◌}
use native.Mathlib.Omega.{arith}
use native.Mathlib.Numerals.{add-one}
use lib.ListN.{length, get_or, take, drop, length-append, drop_of_length-le}
use lib.Seq.{take-suc, drop-cons, split_at}
use Rattle.counting.specs.Lists.{Pair, tabulate, join}
use Rattle.counting.proofs.Lists.{join-append, get_d_tabulate, length-tabulate, tabulate-is}
use Rattle.carrying.proofs.Flat.{pairs-part, pairs-between}
use Rattle.texts.specs.Lines.{phase_line, phase_lines}
use Rattle.texts.specs.parts.Writing.{Reaches, Wrote}
use Rattle.carrying.specs.parts.Carrying.{unflat}
use Rattle.gathering.specs.parts.Gathered.{ENDS, LOG, Logged}
use Rattle.runtexts.specs.parts.Logs.{made_before, phase_in, phases_in, Readable}
use Rattle.texts.proofs.Writing.{Left, room-first, left-first, left-room, left-next, left-done}
use Rattle.texts.proofs.Lines.{phase_lines_lem}

-- a log of the phases that were made, with room for their ends
module _ {done : List (List Pair)} {log : List ℕ} (l : Logged done log) (full : LOG ≤ length log) where
  -- the moves before phase j
  before-is : (j : ℕ) → j ≤ length done → made_before log j ≡ length (join (take j done))
  unfolding made_before join
  before-is zero h = refl
  before-is (suc j) h = l.ends full j (omega arith) ∙ ap (λ (n : ℕ). length (join (take n done))) (add-one j)

  module _ (j : ℕ) (h : j < length done) where
    -- phase j stands between those before it and those after it
    parts_are : join done ≡ join (take j done) ++ get_or done j [] ++ join (drop (suc j) done)
    unfolding join
    parts_are = ap join (split_at done j [] h) ∙ join-append (take j done) (get_or done j [] ∷ drop (suc j) done) ∙ sym (append_assoc (join (take j done)) (get_or done j []) _)

    next-is : length (join (take (suc j) done)) ≡ length (join (take j done)) + length (get_or done j [])
    unfolding join
    next-is =
        ap (λ (l : List (List Pair)). length (join l)) (take-suc done j [] h)
        ∙ ap length (join-append (take j done) (get_or done j [] ∷ []) ∙ ap (λ (l : List Pair). join (take j done) ++ l) (append-nil (get_or done j [])))
        ∙ length-append (join (take j done)) (get_or done j [])

    step_is : made_before log (suc j) ≡ made_before log j + length (get_or done j [])
    step_is = omega (arith, before-is (suc j) (omega arith), before-is j (omega arith), next-is)

    within-is : made_before log (suc j) ≤ length (join done)
    within-is = omega (arith, step_is, before-is j (omega arith), ap length parts_are, length-append (join (take j done) ++ get_or done j []) (join (drop (suc j) done)), length-append (join (take j done)) (get_or done j []))

    -- so it is read
    phase-is : get_or done j [] ≡ phase_in log j
    unfolding phase_in
    phase-is =
        sym (pairs-between log (join (take j done)) (get_or done j []) (join (drop (suc j) done)) (rw (← parts_are) l.pairs) (2 * made_before log j) (2 * made_before log (suc j))
        (omega (arith, before-is j (omega arith))) (omega (arith, step_is)))

  -- all phases are read
  pub logged-phases : (n : ℕ) → n ≡ length done → phases_in n log ≡ done
  unfolding phases_in
  logged-phases n e = sym (tabulate-is n (phase_in log) done [] (sym e) (λ j h. phase-is j (omega arith)))

  pub logged_readable : (n : ℕ) → n ≡ length done → n ≤ 4096 → length (join done) ≤ 4096 → Readable n log
  logged_readable n e few all =
      record {
        few = few;
        long = full;
        rising = λ j h. omega (arith, step_is j (omega arith));
        within = λ j h. omega (arith, within-is j (omega arith));
      }

-- the lines of the phases from j on are left
abbrev pub Lines : ℕ → List ℕ → ℕ → List ℕ → ℕ → List ℕ → Type 0
Lines n log j out at before = Left (phase_lines (j + 1) (drop j (phases_in n log))) out at (phase_lines 1 (phases_in n log)) before 0

pub lines-first : (n : ℕ) (log out : List ℕ) → Lines n log 0 out 0 out
lines-first n log out = left-first (phase_lines 1 (phases_in n log)) out 0

module _ (n : ℕ) (log : List ℕ) (j : ℕ) (h : j < n) {out before : List ℕ} {at : ℕ} (l : Lines n log j out at before) where
  this_line : Left (phase_line (j + 1) (phase_in log j) ++ phase_lines (suc (j + 1)) (drop (suc j) (phases_in n log))) out at (phase_lines 1 (phases_in n log)) before 0
  unfolding phases_in
  this_line =
      let e : drop j (tabulate n (phase_in log)) ≡ phase_in log j ∷ drop (suc j) (tabulate n (phase_in log)) =
      drop-cons (tabulate n (phase_in log)) j [] (omega (arith, length-tabulate n (phase_in log))) ∙ ap (λ (p : List Pair). p ∷ drop (suc j) (tabulate n (phase_in log))) (get_d_tabulate n (phase_in log) j [] h) in
      rw (e, phase_lines_lem (j + 1) (phase_in log j) (drop (suc j) (tabulate n (phase_in log)))) at l

  -- the line of phase j fits
  pub line-room : Reaches (phase_lines 1 (phases_in n log)) 0 before → Reaches (phase_line (j + 1) (phase_in log j)) at out
  line-room room = room-first (phase_line (j + 1) (phase_in log j)) (phase_lines (suc (j + 1)) (drop (suc j) (phases_in n log))) out at (left-room this_line room)

  -- it is written
  pub lines_next : {out' : List ℕ} {at' : ℕ} → Wrote (phase_line (j + 1) (phase_in log j)) out at out' at' → Lines n log (j + 1) out' at' before
  lines_next {out'} {at'} w =
      subst (λ (m : ℕ). Left (phase_lines (j + 1 + 1) (drop m (phases_in n log))) out' at' (phase_lines 1 (phases_in n log)) before 0) (sym (add-one j)) (rw (add-one (j + 1)) (left-next this_line w))

-- all lines are written
pub lines-done : (n : ℕ) (log : List ℕ) (j : ℕ) {out before : List ℕ} {at : ℕ} → n ≤ j → Lines n log j out at before → Wrote (phase_lines 1 (phases_in n log)) before 0 out at
unfolding phases_in phase_lines
lines-done n log j h l = left-done (rw (drop_of_length-le (tabulate n (phase_in log)) {i = j} (omega (arith, length-tabulate n (phase_in log)))) at l)

-- before the first phase no move was made
pub before-first : (log : List ℕ) → made_before log 0 ≡ 0
unfolding made_before
before-first log = refl

-- phase j, by the numbers that code reads
module _ (log : List ℕ) (j : ℕ) where
  pub made-next : get_or log (ENDS + j) 0 ≡ made_before log (suc j)
  unfolding made_before
  made-next = refl

  pub phase-here : (low high : ℕ) → made_before log j ≤ made_before log (suc j) → low ≡ 2 * made_before log j → high ≡ 2 * get_or log (ENDS + j) 0
      → unflat (take (high - low) (drop low log)) ≡ phase_in log j
  unfolding phase_in
  phase-here low high up el eh = pairs-part log low high (omega (arith, made-next)) ∙ rw (el, eh, made-next)
