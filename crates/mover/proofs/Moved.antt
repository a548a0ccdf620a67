-- One move by a job is the capacities', and the refusal of a move, by the code's tests. Assumes nothing.
use mathlib.Core.Path.{◌≡◌, subst, ap, sym, ◌∙◌}
use mathlib.Core.List.{List, [], ◌∷◌}
use Prim.Native.Nat.{ℕ, ◌*◌}
use native.Mathlib.Omega.{arith}
use Rattle.counting.specs.Lists.{Pair}
use Rattle.counting.specs.Checks.{first}
use Rattle.counting.proofs.Checks.{known_past}
use Rattle.std.specs.Prelude.{Err}
use Rattle.answers.specs.Answers.{Refusal, placeless, moves_of, refusal_of, answered}
use Rattle.answers.specs.declared.Refusal as given
use Rattle.racks.specs.Racks.{Rack, of_caps}
use Rattle.racks.specs.Numbers.{size_checks}
use Rattle.racks.specs.Job.{racks_of, good_job}
use Rattle.racks.specs.declared.Job.{Job}
use Rattle.racks.proofs.Places.{NoPlace}
use Rattle.tables.specs.parts.Tables.{OpenCards, refusal_by, cards_number}
use Rattle.tables.proofs.Refusals.{placeless_by, kept_by}
use Rattle.carrying.proofs.Outcomes.{outcome-checks, outcome-racks}
use Rattle.moves.specs.Moves.{Held, carried, outcome_of, end_checks, move_checks, moved}
use Rattle.mover.specs.parts.Moving.{move_number, moved_by, MoveChecked}
use Rattle.moves.proofs.Ends.{ends-allowed, ends-placeless}

-- a job made from capacities gives their move
pub moved_by_lem : (caps : List ℕ) (b : ℕ) (job : Job) → (first (size_checks (of_caps caps) b) ≡ 0) × (job ≡ good_job (of_caps caps)) → (h : Held) (m : Pair) → moved_by job b h m ≡ moved (of_caps caps) b h m
unfolding moved_by moved move_number move_checks
moved_by_lem caps b job made h m = outcome-checks caps b job made (λ _. moves_of 1) (λ _. carried b (m ∷ []) h) h (λ (r : List Rack). end_checks r h.places m)

-- capacities, or B, that are refused give their refusal
pub moved-sizes : (caps : List ℕ) (b : ℕ) (e : given.Refusal) → refusal_of e ≡ placeless (first (size_checks (of_caps caps) b)) → (h : Held) (m : Pair) → outcome_of (answered (Err e)) h.places h.cards ≡ moved (of_caps caps) b h m
unfolding moved move_checks
moved-sizes caps b e is h m = outcome-racks caps b e is (moves_of 1) (carried b (m ∷ []) h) h (end_checks (of_caps caps) h.places m)

-- the refusal of a move, by the code's tests
module _ (job : Job) (b : ℕ) (h : Held) (m : Pair) (x : Refusal) where
  -- it is refused by the table and its cards
  pub move-refused : x ≡ refusal_by job h.places (cards_number job b h.places h.cards) → (x.number ≡ 0 → ⊥) → MoveChecked job b h m x
  unfolding move_number
  move-refused e f =
      record {
        refusal_is = kept_by job h.places (cards_number job b h.places h.cards) _ x e f;
        sized = λ z. absurd (f z);
        slots = λ z. absurd (f z);
      }

  -- it is that of its ends
  pub move-ends : cards_number job b h.places h.cards ≡ 0 → (racking : List ℕ) → OpenCards job b h.places h.cards racking
      → (n : ℕ) → n ≡ first (end_checks (racks_of job) h.places m) → x ≡ placeless n → MoveChecked job b h m x
  unfolding move_number
  move-ends z racking o n e ex =
      record {
        refusal_is = ex ∙ placeless_by job h.places n _ (subst NoPlace (sym e) (ends-placeless (racks_of job) h.places m)) (e ∙ sym (known_past (cards_number job b h.places h.cards) _ z));
        sized = λ q. ap (λ (k : ℕ). k * b) o.table.legal.long ∙ sym o.long;
        slots = λ q.
            let a = ends-allowed (racks_of job) h.places m (sym e ∙ sym (ap (λ (r : Refusal). r.number) ex) ∙ q) in
            record { from_lt = omega (arith, a.from_lt, o.table.legal.long); to_lt = omega (arith, a.to_lt, o.table.legal.long) };
      }
