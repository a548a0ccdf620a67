-- The ends of pairs, and how what slots hold differs by a move. Assumes nothing.
use mathlib.Core.Path.{◌≡◌, sym}
use mathlib.Core.Logic.{◌≢◌}
use mathlib.Core.List.{List}
use Prim.Native.Nat.{ℕ, ◌<◌}
use Rattle.counting.specs.Lists.{Pair}
use Rattle.counting.proofs.Tests.{no_way}
use Rattle.racks.specs.Racks.{Rack, slots}
use Rattle.plans.specs.Allowed.{Apart}
use Rattle.moves.specs.Moves.{Disjoint}
use Rattle.moves.specs.Turns.{ToFree}

-- what slots hold before and after a move: the target has what the source had, the source has z, any other slot what it had
pub record Moved {A : Type 0} (z : A) (m : Pair) (before after : ℕ → A) : Type 0 where
  pub at_from : after m.0 ≡ z
  pub at-to : after m.1 ≡ before m.0
  pub other : (g : ℕ) → g ≢ m.0 → g ≢ m.1 → after g ≡ before g

-- the ends of a pair are two of S slots
pub record Ends (S : ℕ) (m : Pair) : Type 0 where
  pub from_lt : m.0 < S
  pub to_lt : m.1 < S
  pub differ : m.0 ≢ m.1

-- then no end of m is one of n
pub disjoint_sym : {m n : Pair} → Disjoint m n → Disjoint n m
disjoint_sym d = record {
  from-from = λ e. d.from-from (sym e);
  from-to = λ e. d.to-from (sym e);
  to-from = λ e. d.from-to (sym e);
  to-to = λ e. d.to-to (sym e);
}

-- a card to any free slot
module _ {racks : List Rack} {places : List ℕ} {m : Pair} (f : ToFree racks places m) where
  -- its ends are two slots
  pub free-ends : Ends (slots racks) m
  free-ends = record { from_lt = f.from_lt; to_lt = f.to_lt; differ = λ e. no_way f.is_free (rw e at f.is_held) }

  -- two such pairs that are apart have four ends, since a source has a card and a target has none
  pub free-disjoint : {n : Pair} → ToFree racks places n → Apart m n → Disjoint m n
  free-disjoint h d = record {
    from-from = λ e. d.0 (sym e);
    from-to = λ e. no_way f.is_free (rw e at h.is_held);
    to-from = λ e. no_way (rw e at h.is_free) f.is_held;
    to-to = λ e. d.1 (sym e);
  }
