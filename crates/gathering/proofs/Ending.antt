-- The end of a whole run: the shuffle of what the phases gathered. Assumes nothing.
use mathlib.Core.Path.{◌≡◌, ap, ◌∙◌}
use mathlib.Core.List.{List}
use Prim.Native.Nat.{ℕ, ◌*◌, ◌≤◌}
use native.Mathlib.Nat.{zero-add}
use lib.ListN.{length}
use Rattle.answers.specs.declared.Tally.{Tally}
use Rattle.racks.specs.Racks.{Rack, slots}
use Rattle.racks.specs.parts.Legal.{Legal, Spared}
use Rattle.moves.specs.Moves.{Held, held}
use Rattle.factors.specs.parts.Chains.{Chained}
use Rattle.factors.proofs.Chains.{chained}
use Rattle.shuffle.specs.Shuffle.{settled_held}
use Rattle.shuffle.specs.parts.Shuffled.{Shuffled}
use Rattle.shuffle.proofs.Settled.{settled-held}
use Rattle.runs.specs.Run.{counts}
use Rattle.gathering.specs.parts.Gathered.{PhasesMade}
use Rattle.runs.specs.parts.Ran.{phase_counts, Ran}
use Rattle.runs.proofs.Gathering.{legal-gathered, long-gathered}

module _ (racks : List Rack) (b : ℕ) (h : Held) (legal : Legal racks h.places) (spared : Spared racks) (small : slots racks ≤ 4096) (long : length h.cards ≡ slots racks * b) where
  module _ (h₁ : Held) (t : Tally) (log : List ℕ) (p : PhasesMade racks b h h₁ t log) where
    legal-after : Legal racks h₁.places
    legal-after = rw p.held-is (legal-gathered racks b h legal spared)

    -- what the phases gathered can be shuffled
    pub ends-chained : Chained h₁.places
    ends-chained = chained legal-after small

    pub ends-long : length h₁.cards ≡ length h₁.places * b
    ends-long = rw legal-after.long (ap (λ (x : Held). length x.cards) p.held-is ∙ long-gathered racks b h long)

    -- the shuffle's copies are the first that the tally counts
    pub ends-none : t.copies ≡ 0
    unfolding phase_counts
    ends-none = ap (λ (x : Tally). x.copies) p.tally-is

    -- shuffled, it is the end of a whole run
    pub ends-ran : (after : Tally) (places' cards' : List ℕ) → Shuffled b h₁.places h₁.cards t after places' cards' → Ran racks b h (held places' cards') after
    unfolding counts phase_counts
    ends-ran after places' cards' s =
        record {
          held-is = settled-held racks b h₁.places h₁.cards t after places' cards' legal-after.long s ∙ ap (settled_held racks b) p.held-is;
          tally-is = s.count-is ∙ rw (p.tally-is, p.held-is, zero-add);
        }
