-- How many pairs a target gets, counted by the slots where it begins and ends, is its share of the plan. Assumes nothing.
use mathlib.Core.Path.{◌≡◌, ap, sym, ◌∙◌}
use mathlib.Core.Bool.{Bool}
use mathlib.Core.Logic.{◌≢◌}
use mathlib.Core.List.{List, ◌++◌, append-nil}
use Prim.Native.Nat.{ℕ, suc, ◌+◌, ◌-◌, ◌≤◌, ◌<◌}
use native.Mathlib.Omega.{arith}
use native.Mathlib.Decide.{ℕ_discrete}
use lib.ListN.{length, length-append}
use borrow.Author.Tests.{eqb-true}
use Rattle.counting.specs.Count.{count, select_from}
use Rattle.counting.proofs.Tests.{by-test, off, no_way}
use Rattle.counting.proofs.Select.{length-select}
use Rattle.counting.proofs.SelectFrom.{select-three, from_cong, from-none}
use Rattle.racks.specs.Limits.{FREE}
use Rattle.racks.specs.Racks.{Rack, base, slots, rack_of}
use Rattle.racks.specs.Table.{dest, free, rack_to, away_to, free_on}
use Rattle.racks.specs.parts.Legal.{Legal}
use Rattle.racks.proofs.Geometry.{base_mono, end_le, rack-is, rack_in}
use Rattle.racks.proofs.LegalTable.{legal-dest}
use Rattle.racks.proofs.Away.{away-held, away-is, to-away, to-rack, to-own, to_is, free_on_lem, free_off}
use Rattle.plans.specs.Plan.{open_slots}
use Rattle.plans.proofs.Grants.{length_open, length-plan_for}
use Rattle.spans.specs.parts.Spans.{range_of, free_range, entry_in}
use Rattle.spans.proofs.Found.{lies-on, lies-off, free-lies, found_by}
use Rattle.shares.specs.parts.Targets.{coming_to, share_to}
use Rattle.shares.specs.parts.Shares.{share_of}

-- a card on another rack is away to p exactly if its entry lies in p's slots
module _ (racks : List Rack) (places : List ℕ) (v : Legal racks places) (small : slots racks ≤ 4096) (p : ℕ) (l : p < length racks) where
  -- where p begins, and where it ends
  abbrev low : ℕ
  low = base racks p

  abbrev high : ℕ
  high = base racks (suc p)

  rises : low ≤ high
  rises = base_mono racks p (suc p) (omega arith)

  ends : high ≤ slots racks
  ends = end_le racks p l

  -- a slot of another rack
  pub away_range : (g : ℕ) → g < slots racks → rack_of racks g ≢ p → away_to racks places p g ≡ entry_in places (range_of low high) g
  unfolding entry_in free
  away_range g m d = by-test (free places g)
      (λ f. off (λ a. no_way f (away-held racks places g (to-away racks places p g a)))
      ∙ sym (lies-off low high (dest places g) (λ _ h. omega (arith, ends, eqb-true (dest places g) FREE f))))
      (λ f. elim (ℕ_discrete (rack_to racks places g) p) [
        | yes e ↦
            let b = rack_in racks p (dest places g) (legal-dest racks places v g m f) (there e) in
            to_is racks places p g (away-is racks places g f (λ q. d (q ∙ e))) e ∙ sym (lies-on low high (dest places g) b.0 b.1)
        | no e ↦ off (λ a. e (to-rack racks places p g a)) ∙ sym (lies-off low high (dest places g) (λ h h'. e (back (rack-is racks p (dest places g) l h h'))))
      ])
    where
      there : rack_to racks places g ≡ p → rack_of racks (dest places g) ≡ p
      there e = unfold rack_to in e

      back : rack_of racks (dest places g) ≡ p → rack_to racks places g ≡ p
      back e = unfold rack_to in e

  -- the slots of p are those from low up to high
  on-p : (g : ℕ) → low ≤ g → g < high → rack_of racks g ≡ p
  on-p g m n = rack-is racks p g l m n

  off-p : (g : ℕ) → g < slots racks → (low ≤ g → g < high → ⊥) → rack_of racks g ≢ p
  off-p g m f e = let b = rack_in racks p g m e in f b.0 b.1

  -- a count over all slots: those below p, those of p, those above it
  count-three : (f : ℕ → Bool) → count (slots racks) f ≡ length (select_from 0 low f) + (length (select_from low (high - low) f) + length (select_from high (slots racks - high) f))
  count-three f =
      sym (length-select (slots racks) f)
      ∙ ap length (select-three (slots racks) low high f rises ends)
      ∙ length-append (select_from 0 low f) (select_from low (high - low) f ++ select_from high (slots racks - high) f)
      ∙ ap (λ (n : ℕ). length (select_from 0 low f) + n) (length-append (select_from low (high - low) f) (select_from high (slots racks - high) f))

  -- the cards away to p: those below it and those above it
  coming-is : count (slots racks) (away_to racks places p) ≡ coming_to places low high
  unfolding coming_to
  coming-is =
      let f : ℕ → Bool = away_to racks places p in
      let own : length (select_from low (high - low) f) ≡ 0 = ap length (from-none low (high - low) f (λ g m n. to-own racks places p g (on-p g m (omega (arith, rises))))) in
      let below = found_by places (range_of low high) 0 low f (λ g m n. away_range g (omega (arith, rises, ends)) (off-p g (omega (arith, rises, ends)) (λ h _. omega arith))) in
      let above = found_by places (range_of low high) high (slots racks - high) f (λ g m n. away_range g (omega (arith, ends)) (off-p g (omega (arith, ends)) (λ _ h. omega arith))) in
      rw v.long (omega (arith, count-three f, own, below, above))

  -- the free slots of p
  pub opens-from : open_slots racks places p ≡ select_from (base racks p) (base racks (suc p) - base racks p) (free places)
  unfolding open_slots
  opens-from =
      select-three (slots racks) low high (free_on racks places p) rises ends
      ∙ rw (
        from-none 0 low (free_on racks places p) (λ g m n. free_off racks places p g (off-p g (omega (arith, rises, ends)) (λ h _. omega arith))),
        from-none high (slots racks - high) (free_on racks places p) (λ g m n. free_off racks places p g (off-p g (omega (arith, ends)) (λ _ h. omega arith))),
        append-nil,
        from_cong low (high - low) (free_on racks places p) (free places) (λ g m n. free_on_lem racks places p g (on-p g m (omega (arith, rises)))),
      )

  -- the code counts the pairs of target p
  pub share-is : share_to places (base racks p) (base racks (suc p)) ≡ share_of racks places p
  unfolding share_to share_of
  share-is =
      omega (
        arith,
        coming-is,
        length-plan_for racks places p,
        length_open racks places p,
        ap length opens-from,
        found_by places free_range low (high - low) (free places) (λ g _ _. free-lies places g),
      )
