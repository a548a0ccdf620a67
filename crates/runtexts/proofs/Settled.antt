-- The cards at the end of a run are S·B bytes. Assumes nothing.
use mathlib.Core.Path.{◌≡◌, ap, sym, ◌∙◌}
use mathlib.Core.List.{List}
use Prim.Native.Nat.{ℕ, zero, suc, ◌*◌, ◌≤◌, ◌<◌}
use native.Mathlib.Omega.{arith}
use native.Mathlib.Nat.{zero-mul, suc-mul}
use lib.ListN.{length, length-append}
use Rattle.counting.specs.Lists.{join, tabulate}
use Rattle.counting.proofs.Tests.{by-test}
use Rattle.counting.proofs.Lists.{join_more}
use Rattle.racks.specs.Racks.{Rack, slots}
use Rattle.racks.specs.parts.Legal.{Legal, Spared}
use Rattle.moves.specs.Moves.{Held}
use Rattle.moves.proofs.Blocks.{below, block-long, length-blank}
use Rattle.factors.proofs.Chains.{chained}
use Rattle.shuffle.specs.Shuffle.{brought, is_named, last_card, settled_held}
use Rattle.shuffle.proofs.Bytes.{length-brought}
use Rattle.runs.specs.Run.{gathered}
use Rattle.runs.proofs.Gathering.{legal-gathered, long-gathered}

-- cards of b bytes each, joined
length_blocks : (b s : ℕ) (f : ℕ → List ℕ) → ((d : ℕ) → d < s → length (f d) ≡ b) → length (join (tabulate s f)) ≡ s * b
unfolding join tabulate
length_blocks b zero f h = rw zero-mul
length_blocks b (suc s) f h =
    rw (join_more s f, suc-mul)
    (omega (arith, length-append (join (tabulate s f)) (f s), h s (omega arith), length_blocks b s f (λ d l. h d (omega arith))))

-- a run of a legal job
module _ (racks : List Rack) (b : ℕ) (h : Held) (legal : Legal racks h.places) (spared : Spared racks) (small : slots racks ≤ 4096) (long : length h.cards ≡ slots racks * b) where
  -- what the phases leave is legal, and its cards are as long
  legal-last : Legal racks (gathered racks b h).places
  legal-last = legal-gathered racks b h legal spared

  abbrev last-places : List ℕ
  last-places = (gathered racks b h).places

  abbrev last-brought : List ℕ
  last-brought = brought b (gathered racks b h).places (gathered racks b h).cards

  long-brought : length last-brought ≡ slots racks * b
  long-brought =
      let l = legal-last.long in
      length-brought (chained legal-last small) b (gathered racks b h).cards (long-gathered racks b h long ∙ ap (λ (n : ℕ). n * b) (sym l)) ∙ ap (λ (n : ℕ). n * b) l

  long-card : (d : ℕ) → d < slots racks → length (last_card b last-places last-brought d) ≡ b
  unfolding last_card
  long-card d l =
      by-test (is_named last-places d)
      (λ e. rw e (block-long b d last-brought (omega (arith, below b d (slots racks) l, long-brought))))
      (λ e. rw e (length-blank b))

  -- the cards at the end are S·B bytes
  pub settled-long : length (settled_held racks b (gathered racks b h)).cards ≡ slots racks * b
  unfolding settled_held
  settled-long = length_blocks b (slots racks) (last_card b last-places last-brought) long-card
