-- The copies of the list have proper ends, and bring every card where it goes, whatever slots hold. Assumes nothing.
use mathlib.Core.Path.{◌≡◌, refl, sym, ◌∙◌}
use mathlib.Core.Logic.{◌≢◌, inl, inr}
use mathlib.Core.List.{List, [], ◌∷◌}
use Prim.Native.Nat.{ℕ, ◌≤◌, ◌<◌}
use native.Mathlib.Omega.{arith}
use native.Mathlib.Decide.{ℕ_discrete}
use lib.ListN.{length}
use Rattle.counting.specs.Lists.{Pair, last, join, each}
use Rattle.counting.specs.Every.{All, In, Distinct}
use Rattle.counting.proofs.Every.{all_append}
use Rattle.counting.specs.Every.All.{more, none}
use Rattle.racks.specs.Limits.{FREE, HAND}
use Rattle.racks.specs.Table.{dest}
use Rattle.racks.proofs.Table.{dest-has}
use Rattle.factors.specs.Copies.{onward, head, factor, shift, cycle, copies, copy_list}
use Rattle.factors.specs.parts.Chains.{Chained, Proper}
use Rattle.factors.proofs.Members.{in?, in_left, in_right, in-cases, last_in}
use Rattle.factors.proofs.Chains.{onward-low, onward_distinct, onward_path, onward-ends, head-low}
use Rattle.factors.proofs.Factors.{Factored, factors-are, factor-dest}
use Rattle.factors.proofs.Factors.Factored.{ended, began}
use Rattle.factors.proofs.Runs.{run, run-append, shift_keeps, shift-moves, cycle_keeps, cycle-moves}
use Rattle.factors.proofs.Costs.{copies-shift, copies-cycle}

-- the ends of a copy among S slots
abbrev pub ProperCopy : ℕ → Pair → Type 0
ProperCopy S c = Proper S c.0 c.1

module _ (S : ℕ) where
  shift_proper : (x : ℕ) (l : List ℕ) → Distinct (x ∷ l) → ((v : ℕ) → In v (x ∷ l) → v < S) → All (ProperCopy S) (shift x l)
  unfolding shift
  shift_proper x [] d b = none
  shift_proper x (y ∷ l) d b =
      all_append (shift_proper y l d.1 (λ v m. b v (inr m)))
      (more (record { differ = λ e. d.0 (inl e); source = inl (b x (inl refl)); target = inl (b y (inr (inl refl))) }) none)

  cycle_proper : S ≤ 4096 → (x : ℕ) (l : List ℕ) → Distinct (x ∷ l) → ((v : ℕ) → In v (x ∷ l) → v < S) → All (ProperCopy S) (cycle x l)
  unfolding cycle
  cycle_proper few x [] d b = none
  cycle_proper few x (y ∷ l) d b =
      let h = b (last y l) (inr (last_in y l)) in
      let i = b x (inl refl) in
      let p : last y l ≢ HAND = omega arith in
      let q : x ≢ HAND = omega arith in
      more (record { differ = p; source = inl h; target = inr refl })
      (all_append (shift_proper x (y ∷ l) d b) (more (record { differ = λ e. q (sym e); source = inr refl; target = inl i }) none))

module _ {places : List ℕ} (ok : Chained places) where
  module _ (h : ℕ) (low : h < length places) where
    -- the copies of a chain have proper ends
    copies_proper : All (ProperCopy (length places)) (copies places (h ∷ onward places h))
    copies_proper = elim (ℕ_discrete (dest places (last h (onward places h))) FREE) [
      | yes e ↦ rw (copies-shift places h (onward places h) e) (shift_proper (length places) h (onward places h) (onward_distinct ok h low) (onward-low ok h low))
      | no q ↦ rw (copies-cycle places h (onward places h) q) (cycle_proper (length places) ok.small h (onward places h) (onward_distinct ok h low) (onward-low ok h low))
    ]

    -- they leave what stands outside it and the hand
    copies_keep : {A : Type 0} (z : ℕ) (c : ℕ → A) → ¬ In z (h ∷ onward places h) → z ≢ HAND → run (copies places (h ∷ onward places h)) c z ≡ c z
    copies_keep z c q u = elim (ℕ_discrete (dest places (last h (onward places h))) FREE) [
      | yes e ↦ rw (copies-shift places h (onward places h) e) (shift_keeps h z (onward places h) c (λ m. q (inr m)))
      | no n ↦ rw (copies-cycle places h (onward places h) n) (cycle_keeps h z (onward places h) c q u)
    ]

    -- and bring each of its cards where it goes
    copies-move : {A : Type 0} (g : ℕ) (c : ℕ → A) → dest places g ≢ FREE → In g (h ∷ onward places h) → run (copies places (h ∷ onward places h)) c (dest places g) ≡ c g
    copies-move {A} g c q m = elim (ℕ_discrete (dest places (last h (onward places h))) FREE) [
      | yes e ↦ rw (copies-shift places h (onward places h) e)
          (elim (shift-moves {A = A} (dest places) h h g (onward places h) (onward_path ok h low) (onward_distinct ok h low) m) [ inl t ↦ t.1 c | inr u ↦ absurd (q (rw u e)) ])
      | no n ↦ rw (copies-cycle places h (onward places h) n)
          (cycle-moves (dest places) h g (onward places h) c (onward_path ok h low) (onward_distinct ok h low)
          (λ u. absurd (omega (arith, onward-low ok h low HAND u, ok.small))) (elim (onward-ends ok h low) [ inl e ↦ absurd (n e) | inr e ↦ e ]) m)
    ]

  all_proper : {j : ℕ} {seen : List ℕ} {rest : List (List ℕ)} → Factored ok j seen rest → All (ProperCopy (length places)) (join (each (copies places) rest))
  unfolding join each factor
  all_proper (ended h) = none
  all_proper (began {k = k} {slots = slots} m b e f a r) = all_append {a = copies places slots} (rw e (copies_proper (head places k) (head-low ok k b))) (all_proper r)

  -- every copy of the list has two ends, each a slot or the hand
  pub list_proper : All (ProperCopy (length places)) (copy_list places)
  unfolding copy_list
  list_proper = all_proper (factors-are ok)

  not-hand : (v : ℕ) → v < length places → v ≢ HAND
  not-hand v b = omega (arith, ok.small)

  module _ {A : Type 0} where
    -- the copies of later factors leave what is done
    stays : {j : ℕ} {seen : List ℕ} {rest : List (List ℕ)} → Factored ok j seen rest → (c : ℕ → A) (x : ℕ) → In x seen → x ≢ HAND → run (join (each (copies places) rest)) c x ≡ c x
    unfolding join each run factor
    stays (ended h) c x m q = refl
    stays (began {k = k} {seen} {slots} {rest} _ b e _ a r) c x m q =
        rw run-append
        (stays r (run (copies places slots) c) x (in_right x slots seen m) q
        ∙ rw e (copies_keep (head places k) (head-low ok k b) x c (λ i. a x (rw e i) m) q))

    -- and bring every other card where it goes
    comes : {j : ℕ} {seen : List ℕ} {rest : List (List ℕ)} → Factored ok j seen rest → (c : ℕ → A) (g : ℕ) → dest places g ≢ FREE → ¬ In g seen
        → run (join (each (copies places) rest)) c (dest places g) ≡ c g
    unfolding join each run factor
    comes (ended h) c g f m = absurd (m (h g (dest-has places g f)))
    comes (began {k = k} {seen} {slots} {rest} _ b e _ a r) c g f m = rw run-append (elim (in? g slots) [
      | yes i ↦
          stays r (run (copies places slots) c) (dest places g) (in_left (dest places g) slots seen (rw e (factor-dest ok k b g f (rw e at i)))) (not-hand (dest places g) (ok.below g f))
          ∙ rw e (copies-move (head places k) (head-low ok k b) g c f (rw e at i))
      | no i ↦
          comes r (run (copies places slots) c) g f (λ u. elim (in-cases g slots seen u) [ inl v ↦ i v | inr v ↦ m v ])
          ∙ rw e (copies_keep (head places k) (head-low ok k b) g c (λ u. i (rw e u)) (not-hand g (dest-has places g f)))
    ])

    -- running the copy list brings every card where it goes
    pub brings-home : (c : ℕ → A) (g : ℕ) → dest places g ≢ FREE → run (copy_list places) c (dest places g) ≡ c g
    unfolding copy_list
    brings-home c g f = comes (factors-are ok) c g f (λ m. m)
