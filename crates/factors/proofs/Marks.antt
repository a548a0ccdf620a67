-- Marks that no slot of a table has: the racking has none, and marks of one kind leave those of another out. Assumes nothing.
use mathlib.Core.Path.{◌≡◌, sym, ◌∙◌}
use mathlib.Core.Logic.{◌≢◌}
use mathlib.Core.List.{List}
use Prim.Native.Nat.{ℕ, ◌≤◌}
use native.Mathlib.Omega.{arith}
use lib.ListN.{length}
use Rattle.counting.specs.Lists.{among}
use Rattle.counting.proofs.Tests.{by-test}
use Rattle.racks.specs.Job.{racks_of}
use Rattle.racks.specs.declared.Job.{Job}
use Rattle.racks.proofs.Geometry.{rack_lt}
use Rattle.racks.proofs.Jobs.{sound-few}
use Rattle.tables.specs.parts.Tables.{Open}
use Rattle.factors.specs.parts.Walks.{COUNTED, LISTED, Marked, Unmarked}

-- the racking of an accepted table, and a table that is as long
module _ {job : Job} {places racking : List ℕ} (o : Open job places racking) (after : List ℕ) (same : length after ≡ length places) where
  -- no slot has a mark that is no rack's number
  racking_unmarked : (mark : ℕ) → 64 ≤ mark → Unmarked after mark racking
  racking_unmarked mark l = record {
    none = λ v m e.
        let s = rack_lt (racks_of job) v (omega (arith, o.legal.long)) in
        absurd (omega (arith, s, sound-few job o.sound, sym e ∙ o.filled v (omega (arith, o.legal.long))));
    long = o.long;
  }

  -- so none is counted
  pub racking-counted : Unmarked after COUNTED racking
  racking-counted = racking_unmarked COUNTED (omega arith)

  -- and none is listed
  pub racking-listed : Unmarked after LISTED racking
  racking-listed = racking_unmarked LISTED (omega arith)

-- marks of another kind
pub unmarked-other : {places : List ℕ} (mark other : ℕ) → other ≢ mark → (slots before after : List ℕ) → Unmarked places mark before → Marked other slots before after → Unmarked places mark after
unmarked-other mark other q slots before after u m = record {
  none = λ v l. by-test (among v slots) (λ e i. q (sym (m.marks v ∙ rw e) ∙ i)) (λ e i. u.none v l (sym (m.marks v ∙ rw e) ∙ i));
  long = m.long ∙ u.long;
}
