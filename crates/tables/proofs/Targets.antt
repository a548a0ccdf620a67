-- Where a card must end and whether it is away, by the table of each slot's rack. Assumes nothing.
use mathlib.Core.Path.{◌≡◌, sym, ap, ◌∙◌}
use mathlib.Core.Bool.{true, false, not}
use mathlib.Core.List.{List}
use Prim.Native.Nat.{ℕ, ◌≤◌, ◌<◌}
use native.Mathlib.Omega.{arith}
use lib.Dec.{eqb}
use lib.ListN.{length, get_or}
use borrow.Author.Tests.{eq-eqb}
use Rattle.counting.specs.Tests.{◌and◌}
use Rattle.counting.proofs.Tests.{by-test, and-off_l}
use Rattle.racks.specs.Racks.{Rack, slots}
use Rattle.racks.specs.Table.{dest, free, rack_to, on_rack, away, away_to}
use Rattle.racks.specs.parts.Legal.{Legal}
use Rattle.racks.proofs.Geometry.{rack_lt}
use Rattle.racks.proofs.Table.{read-dest}
use Rattle.racks.proofs.LegalTable.{legal-dest}
use Rattle.racks.proofs.Away.{away-held, to-away, to-rack, to_is}
use Rattle.tables.specs.parts.Tables.{named_slot, target, away_by, Aimed, Filled}

-- the slot that an entry names, as the code reads it
pub named-read : (places : List ℕ) (g n : ℕ) → g < length places → n ≡ named_slot g (get_or places g 0) → n ≡ named_slot g (dest places g)
named-read places g n l e = e ∙ ap (named_slot g) (read-dest places g l)

-- n is the slot that slot g's entry names
module _ (racking places : List ℕ) (g n : ℕ) (en : n ≡ named_slot g (dest places g)) where
  -- the table has the card's rack there
  pub at_target : get_or racking n 0 ≡ target racking places g
  unfolding target
  at_target = ap (λ (k : ℕ). get_or racking k 0) en

  -- and by it the card is away where this is another rack than the slot's
  pub at-away : not (eqb (get_or racking g 0) (get_or racking n 0)) ≡ away_by racking places g
  unfolding away_by
  at-away = ap (λ (p : ℕ). not (eqb (get_or racking g 0) p)) at_target

-- the slot that the entry of slot g names, as the code reads it
module _ (racking places : List ℕ) (g : ℕ) (a : Aimed racking places g) (n : ℕ) (en : n ≡ named_slot g (get_or places g 0)) where
  pub aim-is : n ≡ named_slot g (dest places g)
  aim-is = named-read places g n a.slot en

  -- the racking has a place for it
  pub aim-small : n < 4096
  aim-small = rw aim-is a.named

  -- and there a rack
  pub aim-racked : get_or racking n 0 < 64
  aim-racked = rw (at_target racking places g n aim-is) a.racked

-- a legal table, and each slot's rack
module _ (racks : List Rack) (places racking : List ℕ) (v : Legal racks places) (filled : Filled racks racking) (g : ℕ) (l : g < slots racks) where
  -- the table has slot g's rack, which is one
  pub here_lt : get_or racking g 0 < length racks
  here_lt = omega (arith, filled g l, rack_lt racks g l)

  -- it has the rack where the slot's card must end
  pub target_is : free places g ≡ false → target racking places g ≡ rack_to racks places g
  unfolding target named_slot free rack_to
  target_is f = rw f (filled (dest places g) (legal-dest racks places v g l f))

  -- of a free slot, its own
  target_free : free places g ≡ true → target racking places g ≡ get_or racking g 0
  unfolding target named_slot free
  target_free f = rw f

  -- which is a rack
  pub target_lt : target racking places g < length racks
  unfolding rack_to
  target_lt = by-test (free places g)
      (λ f. omega (arith, target_free f, here_lt))
      (λ f. rw (target_is f) (rack_lt racks (dest places g) (legal-dest racks places v g l f)))

  -- the entry names a slot
  pub named_lt : named_slot g (dest places g) < slots racks
  unfolding named_slot free
  named_lt = by-test (free places g)
      (λ f. rw f l)
      (λ f. rw f (legal-dest racks places v g l f))

  -- by the table the card is away exactly where it is
  pub away_by_lem : away_by racking places g ≡ away racks places g
  unfolding away_by away on_rack ◌and◌
  away_by_lem = by-test (free places g)
      (λ f. ap not (eq-eqb (get_or racking g 0) (target racking places g) (sym (target_free f))) ∙ sym (and-off_l _ (ap not f)))
      (λ f. rw (f, filled g l, target_is f))

  -- a card that is away is away to the rack where it must end
  pub sent-to : away racks places g ≡ true → away_to racks places (target racking places g) g ≡ true
  sent-to a = to_is racks places (target racking places g) g a (sym (target_is (away-held racks places g a)))

  -- and to no other
  pub sent-only : (p : ℕ) → away_to racks places p g ≡ true → p ≡ target racking places g
  sent-only p a = sym (to-rack racks places p g a) ∙ sym (target_is (away-held racks places g (to-away racks places p g a)))

  -- within the limits it can be looked at
  pub aimed : slots racks ≤ 4096 → length racks ≤ 64 → Aimed racking places g
  aimed small few =
      record {
        slot = omega (arith, v.long);
        small = omega arith;
        rack = omega (arith, here_lt);
        named = omega (arith, named_lt);
        racked = omega (arith, target_lt);
      }
