-- Laws of the compare of an entry with a range, and of the entries of a span that lie in one. Assumes nothing.
use mathlib.Core.Path.{◌≡◌, ap, sym, ◌∙◌}
use mathlib.Core.Bool.{Bool, true, false}
use mathlib.Core.List.{List}
use Prim.Native.Nat.{ℕ, ◌+◌, ◌-◌, ◌≤◌, ◌<◌}
use native.Mathlib.Omega.{arith}
use native.Mathlib.Decide.{ℕ_discrete}
use lib.Dec.{leb}
use lib.ListN.{length}
use borrow.Author.Tests.{ne_eqb, le-leb, lt-ltb, leb-true, ltb-true}
use Rattle.counting.specs.Tests.{◌and◌}
use Rattle.counting.specs.Count.{select_from}
use Rattle.counting.proofs.Tests.{off, both, and_l, and_r}
use Rattle.counting.proofs.Count.{count_le}
use Rattle.counting.proofs.SelectFrom.{from_cong, length_from}
use Rattle.racks.specs.Limits.{FREE}
use Rattle.racks.specs.Table.{dest, free}
use Rattle.spans.specs.declared.parts.Range.{Range}
use Rattle.spans.specs.parts.Spans.{lies, RangeFits, range_of, free_range, entry_in, entries_in}

-- the slots of a rack fit
pub rack-fits : (first end : ℕ) (range : Range) → range ≡ range_of first end → first ≤ end → end ≤ 4096 → RangeFits range
rack-fits first end range e u l = rw e (omega arith)

-- the mark of a free slot fits
pub free-fits : (range : Range) → range ≡ free_range → RangeFits range
free-fits range e = rw e (omega arith)

-- a number that lies between first and end
pub lies-on : (first end x : ℕ) → first ≤ x → x < end → lies (range_of first end) x ≡ true
unfolding lies
lies-on first end x m n = both (le-leb first x m) (lt-ltb (x - first) (end - first) (omega arith))

-- or does not
pub lies-off : (first end x : ℕ) → (first ≤ x → x < end → ⊥) → lies (range_of first end) x ≡ false
unfolding lies
lies-off first end x f = off (λ t. f (leb-true first x (and_l _ t)) (omega (arith, ltb-true (x - first) (end - first) (and_r (leb first x) t))))

-- a free slot's entry is the mark
pub free-lies : (places : List ℕ) (g : ℕ) → free places g ≡ entry_in places free_range g
unfolding entry_in free lies ◌and◌
free-lies places g = elim (ℕ_discrete (dest places g) FREE) [
  | yes e ↦ rw e
  | no d ↦ ne_eqb (dest places g) FREE d ∙ sym (off (λ t. d (omega (arith, leb-true FREE (dest places g) (and_l _ t), ltb-true (dest places g - FREE) 1 (and_r (leb FREE (dest places g)) t)))))
]

-- no more entries of a span lie in a range than it has slots
pub found-few : (places : List ℕ) (range : Range) (low n r : ℕ) → r ≡ entries_in places range low n → r ≤ n
unfolding entries_in
found-few places range low n r e = omega (arith, e, count_le n (λ j. entry_in places range (low + j)))

-- they are counted by any test that says the same of each slot of the span
pub found_by : (places : List ℕ) (range : Range) (low n : ℕ) (f : ℕ → Bool) → ((g : ℕ) → low ≤ g → g < low + n → f g ≡ entry_in places range g)
    → length (select_from low n f) ≡ entries_in places range low n
unfolding entries_in
found_by places range low n f e = ap length (from_cong low n f (entry_in places range) e) ∙ length_from low n (entry_in places range)
