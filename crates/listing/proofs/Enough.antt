-- How long a text is at most: that of a run, that of a refusal, that of any file. Assumes nothing.
use mathlib.Core.Path.{◌≡◌}
use mathlib.Core.Logic.{◌⊎◌, inl, inr}
use mathlib.Core.List.{List}
use Prim.Native.Nat.{ℕ, zero, suc, ◌+◌, ◌*◌, ◌≤◌, ◌<◌}
use native.Mathlib.Omega.{arith}
use native.Mathlib.Nat.{zero-mul, suc-mul}
use lib.ListN.{length, length-append}
use Rattle.counting.specs.Lists.{join}
use Rattle.counting.proofs.Tests.{by-test}
use Rattle.counting.specs.Every.{All}
use Rattle.counting.proofs.Every.{all_map}
use Rattle.counting.specs.Every.All.{none, more}
use Rattle.racks.proofs.Away.{aways-few}
use Rattle.racks.specs.Racks.{Rack, slots}
use Rattle.racks.specs.Table.{aways}
use Rattle.racks.specs.Numbers.{some_away}
use Rattle.racks.specs.Limits.{HAND}
use Rattle.racks.specs.parts.Legal.{Legal, Spared}
use Rattle.plans.specs.Plan.{plan}
use Rattle.plans.proofs.Plans.{plan-allowed}
use Rattle.moves.specs.Moves.{Held, carried_places}
use Rattle.moves.specs.Phases.{phases_from, phases}
use Rattle.carrying.specs.parts.Carrying.{AllSlots}
use Rattle.moves.proofs.Phases.{phases-moves, phases-pairs}
use Rattle.moves.proofs.FirstFit.{first-fit}
use Rattle.factors.specs.Copies.{copy_list}
use Rattle.factors.specs.parts.Chains.{Chained}
use Rattle.factors.proofs.Chains.{chained}
use Rattle.factors.proofs.Costs.{list_most}
use Rattle.factors.proofs.Home.{list_proper}
use Rattle.shuffle.specs.Shuffle.{settled_held}
use Rattle.runs.specs.Run.{gathered, counts}
use Rattle.runs.proofs.Gathering.{all-counted}
use Rattle.texts.specs.Lines.{end_line}
use Rattle.runtexts.specs.RunText.{FILE, run_text}
use Rattle.listing.specs.Listing.{ENOUGH}
use Rattle.runtexts.proofs.Settled.{settled-long}
use Rattle.texts.proofs.Lines.{phases-small, copies-small, length-cards-whole, end-small}
use Rattle.runs.proofs.Gathering.{legal-gathered}

-- no more phases than fuel
phases-short : (n : ℕ) (racks : List Rack) (places : List ℕ) → length (phases_from n racks places) ≤ n
unfolding phases_from
phases-short zero racks places = omega arith
phases-short (suc n) racks places =
    by-test (some_away racks places) (λ e. rw e (omega (arith, phases-short n racks (carried_places (plan racks places) places)))) (λ e. rw e (omega arith))

-- both ends of each move of each phase are slots
phases-slots : (n : ℕ) (racks : List Rack) (places : List ℕ) → slots racks ≤ 4096 → All (AllSlots 65536) (phases_from n racks places)
unfolding phases_from
phases-slots zero racks places small = none
phases-slots (suc n) racks places small =
    by-test (some_away racks places)
    (λ e. rw e (more (all_map (λ m a. record { from_lt = omega (arith, a.from_lt); to_lt = omega (arith, a.to_lt) }) (plan-allowed racks places)) (phases-slots n racks (carried_places (plan racks places) places) small)))
    (λ e. rw e none)

-- a slot, or the hand, is a number of 16 bits
end-small-16 : (s x : ℕ) → s ≤ 4096 → (x < s) ⊎ (x ≡ HAND) → x < 65536
end-small-16 s x small (inl l) = omega arith
end-small-16 s x small (inr e) = omega arith

-- both ends of each copy
copies-slots : {places : List ℕ} → Chained places → AllSlots 65536 (copy_list places)
copies-slots {places} ok =
    all_map (λ c p. record { from_lt = end-small-16 (length places) c.0 ok.small p.source; to_lt = end-small-16 (length places) c.1 ok.small p.target }) (list_proper ok)

-- a run of a legal job
module _ (racks : List Rack) (b : ℕ) (h : Held) (legal : Legal racks h.places) (spared : Spared racks) (small : slots racks ≤ 4096) (long : length h.cards ≡ slots racks * b) where
  -- what the phases leave is legal, and its cards are as long
  legal-last : Legal racks (gathered racks b h).places
  legal-last = legal-gathered racks b h legal spared

  abbrev last-places : List ℕ
  last-places = (gathered racks b h).places

  -- few phases
  phases-few : length (phases racks h.places) ≤ 4096
  unfolding phases
  phases-few = omega (arith, phases-short (aways racks h.places) racks h.places, aways-few racks h.places)

  phases-slots-16 : All (AllSlots 65536) (phases racks h.places)
  unfolding phases
  phases-slots-16 = phases-slots (aways racks h.places) racks h.places small

  moves-few : length (join (phases racks h.places)) ≤ 4096
  moves-few = omega (arith, phases-moves (first-fit spared) legal, aways-few racks h.places)

  copies-few : length (copy_list last-places) ≤ 6144
  copies-few = omega (arith, list_most (chained legal-last small), legal-last.long)

  end-few : length (end_line (counts racks b h)) ≤ 43
  unfolding counts
  end-few =
      end-small (counts racks b h) (omega (arith, all-counted (phases-pairs (first-fit spared) legal), phases-few)) (omega (arith, moves-few)) (omega (arith, copies-few))

  -- a space for each card and two digits for each of its bytes
  spread : slots racks * (1 + 2 * b) ≡ slots racks + 2 * (slots racks * b)
  spread = spread-is (slots racks) b
    where
      spread-is : (s b : ℕ) → s * (1 + 2 * b) ≡ s + 2 * (s * b)
      spread-is zero b = rw (zero-mul, zero-mul)
      spread-is (suc s) b = rw (suc-mul, suc-mul) (omega (arith, spread-is s b))

  -- **The text of a run is never longer than ENOUGH**, where its cards are part of a file that is not refused with 18
  pub run-enough : slots racks * b ≤ FILE → length (run_text racks b h) ≤ ENOUGH
  unfolding run_text
  run-enough within =
      let cards = (settled_held racks b (gathered racks b h)).cards in
      simp length-append (omega (
        arith,
        phases-small 1 (phases racks h.places) (omega (arith, phases-few)) phases-slots-16,
        phases-few,
        moves-few,
        copies-small (copy_list last-places) (copies-slots (chained legal-last small)),
        copies-few,
        length-cards-whole (slots racks) b cards (settled-long racks b h legal spared small long),
        spread,
        end-few,
      ))
