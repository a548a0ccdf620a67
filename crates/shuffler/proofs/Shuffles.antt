-- The shuffle by a job: its refusal, and that it is the capacities'. Assumes nothing.
use mathlib.Core.Path.{◌≡◌, refl, sym, ◌∙◌}
use mathlib.Core.Bool.{true, false}
use mathlib.Core.List.{List, [], ◌∷◌}
use Prim.Native.Nat.{ℕ}
use lib.ListN.{length}
use Rattle.counting.proofs.Checks.{first-here, first-later, first-none, known_past}
use Rattle.std.specs.Prelude.{Err}
use Rattle.counting.specs.Checks.{first}
use Rattle.answers.specs.Answers.{placeless, refusal_of, answered, copies_of}
use Rattle.answers.specs.declared.Refusal as given
use Rattle.racks.specs.Racks.{Rack, of_caps}
use Rattle.racks.specs.Numbers.{some_away, size_checks}
use Rattle.racks.specs.Job.{racks_of, good_job}
use Rattle.racks.specs.declared.Job.{Job}
use Rattle.tables.specs.parts.Tables.{refusal_by, cards_number}
use Rattle.tables.proofs.Refusals.{placeless_by}
use Rattle.moves.specs.Moves.{Held, outcome_of}
use Rattle.carrying.proofs.Outcomes.{outcome-checks, outcome-racks}
use Rattle.factors.specs.Copies.{copy_list}
use Rattle.shuffle.specs.Shuffle.{settled_held, shuffle_checks, shuffled}
use Rattle.shuffler.specs.parts.Shuffled.{shuffle_number, shuffled_by}

module _ (job : Job) (b : ℕ) (h : Held) where
  module _ (z : cards_number job b h.places h.cards ≡ 0) where
    -- a card is away
    pub shuffled-away : some_away (racks_of job) h.places ≡ true → placeless 12 ≡ refusal_by job h.places (shuffle_number job b h)
    unfolding shuffle_number
    shuffled-away e = placeless_by job h.places 12 _ (refl, refl) (sym (known_past (cards_number job b h.places h.cards) _ z ∙ first-here _ 12 [] e))

    -- not refused
    pub shuffled-none : some_away (racks_of job) h.places ≡ false → placeless 0 ≡ refusal_by job h.places (shuffle_number job b h)
    unfolding shuffle_number
    shuffled-none e =
        placeless_by job h.places 0 _ (refl, refl) (sym (known_past (cards_number job b h.places h.cards) _ z ∙ first-later _ 12 [] e ∙ first-none))

-- a job made from capacities gives their shuffle
pub shuffled_by_lem : (caps : List ℕ) (b : ℕ) (job : Job) → (first (size_checks (of_caps caps) b) ≡ 0) × (job ≡ good_job (of_caps caps)) → (h : Held) → shuffled_by job b h ≡ shuffled (of_caps caps) b h
unfolding shuffled_by shuffle_number shuffled shuffle_checks
shuffled_by_lem caps b job m h =
    outcome-checks caps b job m (λ _. copies_of (length (copy_list h.places))) (λ (r : List Rack). settled_held r b h) h (λ (r : List Rack). (some_away r h.places, 12) ∷ [])

-- capacities, or B, that are refused give their refusal
pub shuffled-sizes : (caps : List ℕ) (b : ℕ) (e : given.Refusal) → refusal_of e ≡ placeless (first (size_checks (of_caps caps) b)) → (h : Held) → outcome_of (answered (Err e)) h.places h.cards ≡ shuffled (of_caps caps) b h
unfolding shuffled shuffle_checks
shuffled-sizes caps b e is h = outcome-racks caps b e is (copies_of (length (copy_list h.places))) (settled_held (of_caps caps) b h) h ((some_away (of_caps caps) h.places, 12) ∷ [])
