-- The outcomes of calls that are lent the cards, refused and done, by a job and by its capacities. Assumes nothing.
use mathlib.Core.Path.{◌≡◌}
use mathlib.Core.List.{List, ◌∷◌, ◌++◌}
use Prim.Native.Nat.{ℕ}
use borrow.Author.Tests.{ne_eqb}
use Rattle.std.specs.Prelude.{Ok, Err}
use Rattle.counting.specs.Checks.{Check, first, known}
use Rattle.answers.specs.Answers.{Refusal, placeless, refusal_of, answered}
use Rattle.answers.specs.declared.Refusal as given
use Rattle.answers.specs.declared.Tally.{Tally}
use Rattle.answers.proofs.Answers.{refuses}
use Rattle.racks.specs.Racks.{Rack, of_caps}
use Rattle.racks.specs.Numbers.{card_checks, size_checks, refusal_in}
use Rattle.racks.specs.Job.{racks_of, good_job}
use Rattle.racks.specs.declared.Job.{Job}
use Rattle.tables.specs.parts.Tables.{refusal_by, cards_number}
use Rattle.tables.proofs.Capacities.{refused-cards, refused-sizes, of-cards, of-card_refusal}
use Rattle.moves.specs.Moves.{Held, outcome, outcome_of}

-- a call that is lent the cards gives m
module _ (m : Refusal) (t : Tally) (new h : Held) where
  -- refused: the number and its place, no counts, and all as it was lent
  pub outcome-refused : (e : given.Refusal) → refusal_of e ≡ m → outcome_of (answered (Err e)) h.places h.cards ≡ outcome m t new h
  outcome-refused e is = rw (← is, ne_eqb (refusal_of e).number 0 (refuses e))

  -- done: the counts, and the new table and cards
  pub outcome-done : (s : Tally) (h' : Held) → s ≡ t → h' ≡ new → placeless 0 ≡ m → outcome_of (answered (Ok s)) h'.places h'.cards ≡ outcome m t new h
  outcome-done s h' es eh e = rw (es, eh, ← e)

-- capacities, or B, that are refused give their refusal
module _ (caps : List ℕ) (b : ℕ) (e : given.Refusal) (is : refusal_of e ≡ placeless (first (size_checks (of_caps caps) b))) (t : Tally) (new h : Held) where
  pub outcome-sizes : outcome_of (answered (Err e)) h.places h.cards ≡ outcome (refusal_in (of_caps caps) h.places (first (card_checks (of_caps caps) b h.places h.cards))) t new h
  outcome-sizes = outcome-refused _ t new h e (refused-sizes caps b e is h.places h.cards)

  -- before further checks too
  pub outcome-racks : (rest : List Check)
      → outcome_of (answered (Err e)) h.places h.cards ≡ outcome (refusal_in (of_caps caps) h.places (first (card_checks (of_caps caps) b h.places h.cards ++ rest))) t new h
  outcome-racks rest = outcome-refused _ t new h e (refused-cards caps b e is h.places h.cards rest)

-- a job made from capacities
module _ (caps : List ℕ) (b : ℕ) (job : Job) (m : (first (size_checks (of_caps caps) b) ≡ 0) × (job ≡ good_job (of_caps caps))) (t : List Rack → Tally) (new : List Rack → Held) (h : Held) where
  -- gives their outcome: by the checks of the table and its cards alone
  pub outcome-cards : outcome (refusal_by job h.places (cards_number job b h.places h.cards)) (t (racks_of job)) (new (racks_of job)) h
      ≡ outcome (refusal_in (of_caps caps) h.places (first (card_checks (of_caps caps) b h.places h.cards))) (t (of_caps caps)) (new (of_caps caps)) h
  outcome-cards = of-cards caps b job m h.places h.cards (λ (x : Refusal) (r : List Rack). outcome x (t r) (new r) h)

  -- and by further checks
  pub outcome-checks : (rest : List Rack → List Check)
      → outcome (refusal_by job h.places (first (known (cards_number job b h.places h.cards) ∷ rest (racks_of job)))) (t (racks_of job)) (new (racks_of job)) h
      ≡ outcome (refusal_in (of_caps caps) h.places (first (card_checks (of_caps caps) b h.places h.cards ++ rest (of_caps caps)))) (t (of_caps caps)) (new (of_caps caps)) h
  outcome-checks rest = of-card_refusal caps b job m h.places h.cards rest (λ (x : Refusal) (r : List Rack). outcome x (t r) (new r) h)
