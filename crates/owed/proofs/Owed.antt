-- Laws of counting what racks owe, slot by slot. Assumes nothing.
use mathlib.Core.Path.{◌≡◌, sym, ◌∙◌}
use mathlib.Core.Bool.{true, false, not}
use mathlib.Core.Logic.{◌≢◌}
use mathlib.Core.List.{List}
use Prim.Native.Nat.{ℕ, ◌+◌, ◌≤◌, ◌<◌}
use native.Mathlib.Omega.{arith}
use native.Mathlib.Decide.{ℕ_discrete}
use lib.Dec.{eqb}
use lib.ListN.{length, get_or, set}
use Rattle.counting.specs.Tests.{bit}
use Rattle.counting.specs.Count.{count}
use Rattle.counting.proofs.Tests.{off}
use Rattle.counting.proofs.Count.{count_none}
use Rattle.racks.specs.Racks.{Rack, slots, rack_of}
use Rattle.racks.specs.Table.{dest, rack_to, away, bound, owes}
use Rattle.racks.specs.parts.Legal.{Legal}
use Rattle.racks.proofs.Away.{away-held, to-away, to-rack, to_is, bound-on, bound-off}
use Rattle.tables.specs.parts.Tables.{named_slot, target, away_by, Aimed, Filled}
use Rattle.tables.proofs.Targets.{at_target, at-away, aim-is, aim-racked, here_lt, target_is, target_lt, away_by_lem, aimed}
use Rattle.queues.specs.parts.Line.{Blank}
use Rattle.queues.proofs.Counts.{more_by, one-count, one-few, one-long}
use Rattle.owed.specs.parts.Owed.{cell, Owed, owes_with, Countable}

-- n is the slot that slot g's entry names, as the code reads it
module _ (places racking : List ℕ) (g n : ℕ) (en : n ≡ named_slot g (get_or places g 0)) (owed : List ℕ) (q : Countable places racking g owed) where
  -- it can be looked at
  pub aims : Aimed racking places g
  aims = record { slot = q.slot; small = q.small; rack = q.rack; named = q.named; racked = q.racked }

  aim : n ≡ named_slot g (dest places g)
  aim = aim-is racking places g aims n en

  -- the counts have a place for the two racks
  pub slot-cell : cell (get_or racking g 0) (get_or racking n 0) < 4096
  slot-cell = omega (arith, q.rack, aim-racked racking places g aims n en)

  -- the count is stored, with 0 or 1 added
  pub counted-slot : (x : ℕ) → x ≡ bit (not (eqb (get_or racking g 0) (get_or racking n 0)))
      → set owed (cell (get_or racking g 0) (get_or racking n 0)) (get_or owed (cell (get_or racking g 0) (get_or racking n 0)) 0 + x) ≡ owes_with places racking g owed
  unfolding owes_with
  counted-slot x ex = rw (ex, at-away racking places g n aim, at_target racking places g n aim) (more_by (away_by racking places g) (cell (get_or racking g 0) (target racking places g)) owed)

-- the first g slots are counted
pub record CountedTo (racks : List Rack) (places : List ℕ) (g : ℕ) (owed : List ℕ) : Type 0 where
  pub owed-are : (i p : ℕ) → i < 64 → p < 64 → get_or owed (cell i p) 0 ≡ count g (bound racks places i p)
  pub owed-few : (k : ℕ) → get_or owed k 0 ≤ g
  pub owed-long : length owed ≡ 4096

module _ (racks : List Rack) (places : List ℕ) where
  -- no slot is counted
  pub counted_none : {owed : List ℕ} → Blank 4096 owed → CountedTo racks places 0 owed
  counted_none e =
      record {
        owed-are = λ i p _ _. e.zero (cell i p) ∙ sym (count_none (bound racks places i p));
        owed-few = λ k. omega (arith, e.zero k);
        owed-long = e.long;
      }

  -- all slots are counted
  pub counted-all : (g : ℕ) (owed : List ℕ) → g ≡ slots racks → CountedTo racks places g owed → Owed racks places owed
  unfolding owes
  counted-all g owed e c = record { counts = rw e at c.owed-are; long = c.owed-long }

  -- slot g of a legal table is next
  module _ (v : Legal racks places) (few : length racks ≤ 64) (small : slots racks ≤ 4096) (racking : List ℕ) (filled : Filled racks racking)
      (g : ℕ) (l : g < slots racks) (owed : List ℕ) (c : CountedTo racks places g owed) where
    -- the table has its rack, and the rack where its card must end
    from_lt : get_or racking g 0 < length racks
    from_lt = here_lt racks places racking v filled g l

    to_lt : target racking places g < length racks
    to_lt = target_lt racks places racking v filled g l

    -- it can be counted
    pub countable : Countable places racking g owed
    countable =
        let a = aimed racks places racking v filled g l small few in
        record {
          slot = a.slot;
          small = a.small;
          rack = a.rack;
          named = a.named;
          racked = a.racked;
          owed-long = c.owed-long;
          owed-fit = λ k. omega (arith, c.owed-few k);
        }

    -- a card that is away by the table is away
    by-away : away_by racking places g ≡ true → away racks places g ≡ true
    by-away a = sym (away_by_lem racks places racking v filled g l) ∙ a

    -- and the table has the rack where it must end
    there : away_by racking places g ≡ true → target racking places g ≡ rack_to racks places g
    there a = target_is racks places racking v filled g l (away-held racks places g (by-away a))

    -- it is bound from its rack to the rack where it must end
    bound-here : (i p : ℕ) → i < 64 → p < 64 → away_by racking places g ≡ true → cell i p ≡ cell (get_or racking g 0) (target racking places g) → bound racks places i p g ≡ true
    bound-here i p h h' a q =
        let x : get_or racking g 0 ≡ i = omega (arith, from_lt, to_lt) in
        let y : target racking places g ≡ p = omega (arith, from_lt, to_lt) in
        bound-on racks places p g i (sym (filled g l) ∙ x) ∙ to_is racks places p g (by-away a) (sym (there a) ∙ y)

    -- and no other way
    bound-none : (i p : ℕ) → (away_by racking places g ≡ true → cell i p ≢ cell (get_or racking g 0) (target racking places g)) → bound racks places i p g ≡ false
    bound-none i p n = elim (ℕ_discrete (rack_of racks g) i) [
      | yes e ↦
          bound-on racks places p g i e
          ∙ off (λ b.
          let a : away_by racking places g ≡ true = away_by_lem racks places racking v filled g l ∙ to-away racks places p g b in
          n a (rw (filled g l, there a, e, to-rack racks places p g b)))
      | no d ↦ bound-off racks places p g i d
    ]

    -- one slot more is counted
    pub counted-more : (owed' : List ℕ) → owed' ≡ owes_with places racking g owed → CountedTo racks places (g + 1) owed'
    unfolding owes_with
    counted-more owed' k =
        let at : ℕ = cell (get_or racking g 0) (target racking places g) in
        let m : away_by racking places g ≡ true → at < length owed = λ _. omega (arith, from_lt, to_lt, c.owed-long) in
        record {
          owed-are = λ i p h h'. one-count _ at owed owed' k m g (cell i p) (bound racks places i p) (c.owed-are i p h h') (bound-here i p h h') (bound-none i p);
          owed-few = one-few _ at owed owed' k m g c.owed-few;
          owed-long = one-long _ at owed owed' k m ∙ c.owed-long;
        }
