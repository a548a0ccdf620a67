-- The racks placed in the line, one at a time: a rack's free slots counted, and its numbers stored. Assumes nothing.
use mathlib.Core.Path.{◌≡◌, sym, ap, ◌∙◌}
use mathlib.Core.List.{List, ◌++◌}
use Prim.Native.Nat.{ℕ, zero, suc, ◌+◌, ◌-◌, ◌≤◌, ◌<◌}
use native.Mathlib.Omega.{arith}
use native.Mathlib.Decide.{ℕ_discrete, dec_le}
use native.Mathlib.Numerals.{add-one}
use lib.ListN.{length, take, drop, length-take, length-drop, take-append-drop}
use borrow.Author.Tests.{le-leb, lt-leb}
use Rattle.counting.specs.Tests.{◌and◌, bit}
use Rattle.counting.specs.Count.{count}
use Rattle.counting.proofs.Tests.{and-off_l}
use Rattle.counting.proofs.Count.{count-zero, count_cong, count_none, count-more}
use Rattle.racks.specs.Racks.{Rack, base}
use Rattle.racks.specs.Table.{free, free_on}
use Rattle.plans.specs.Plan.{room}
use Rattle.queues.specs.parts.Line.{Blank}
use Rattle.queues.specs.parts.Queued.{free_from, begins, placed, Placed}
use Rattle.queues.proofs.Openings.{part-free}
use Rattle.queues.proofs.OpenSlots.{rooms-short, on-off, on-here}
use Rattle.queues.proofs.Line.{placed-long, placed_else, placed-head, placed-tail, placed-room}

module _ (places : List ℕ) (low : ℕ) where
  -- no slot below the first counts
  pub free-none : (n : ℕ) → n ≤ low → count n (free_from places low) ≡ 0
  unfolding free_from
  free-none n l = count-zero n (free_from places low) (λ k m. and-off_l (free places k) (lt-leb low k (omega arith)))

  -- one slot more, counted where it is free
  pub free_more : (g free' x : ℕ) → low ≤ g → free' ≡ count g (free_from places low) → x ≡ bit (free places g) → free' + x ≡ count (g + 1) (free_from places low)
  unfolding count free_from ◌and◌
  free_more g free' x l e ex = rw (add-one g, le-leb low g l, ← ex) (omega arith)

-- the free slots counted from rack p's first slot up to its end are its room
pub free-room : (racks : List Rack) (places : List ℕ) (p : ℕ) → p < length racks → count (base racks (suc p)) (free_from places (base racks p)) ≡ room racks places p
unfolding free_from ◌and◌
free-room racks places p l =
    count_cong (base racks (suc p)) (free_from places (base racks p)) (free_on racks places p)
    (λ k m. elim (dec_le (base racks p) k) [
      | yes a ↦ rw (le-leb (base racks p) k a) (sym (on-here racks places p l k a m))
      | no a ↦ rw (lt-leb (base racks p) k (omega arith)) (sym (on-off racks places p l k (omega arith)))
    ])
    ∙ sym (rooms-short racks places p l)

-- the free slots of a part of a table, counted on their own
free-part : (places slots behind : List ℕ) (low : ℕ) → drop low places ≡ slots ++ behind → (n : ℕ) → n ≤ length slots
    → count n (free slots) ≡ count (low + n) (free_from places low)
free-part places slots behind low e zero l = count_none (free slots) ∙ sym (free-none places low (low + 0) (omega arith))
free-part places slots behind low e (suc n) l =
    let i : low + suc n ≡ low + n + 1 = omega arith in
    let j : suc n ≡ n + 1 = omega arith in
    rw (i, j)
    (sym (count-more n (free slots))
    ∙ free_more places low (low + n) _ _ (omega arith) (free-part places slots behind low e n (omega arith)) (ap bit (part-free places slots behind low e n (omega arith))))

-- as the code counts them
pub rooms-counted : (racks : List Rack) (places : List ℕ) (p low high r : ℕ) → p < length racks → low ≡ base racks p → high ≡ base racks (suc p) → low ≤ high → high ≤ length places
    → r ≡ count (length (take (high - low) (drop low places))) (free (take (high - low) (drop low places))) → r ≡ room racks places p
rooms-counted racks places p low high r l el eh up within e =
    let slots : List ℕ = take (high - low) (drop low places) in
    let k : low + length slots ≡ high = omega (arith, length-take (high - low) (drop low places), length-drop low places) in
    e
    ∙ free-part places slots (drop (high - low) (drop low places)) low (sym (take-append-drop (high - low) (drop low places))) (length slots) (omega arith)
    ∙ rw (k, el, eh) (free-room racks places p l)

-- no rack is placed
pub placed-none : (racks : List Rack) (places line : List ℕ) → Blank 4352 line → Placed racks places 0 line
placed-none racks places line e =
    record {
      heads-are = λ p l. absurd (omega arith);
      tails-are = λ p l. absurd (omega arith);
      rooms-are = λ p l. absurd (omega arith);
      heads-none = λ p l m. e.zero (4160 + p);
      tails-none = λ p l m. e.zero (4224 + p);
      rooms-none = λ p l m. e.zero (4288 + p);
      long = e.long;
    }

-- one rack more
pub placed-more : (racks : List Rack) (places : List ℕ) (p low rooms : ℕ) (line line' : List ℕ) → p < 64 → low ≡ base racks p → rooms ≡ room racks places p
    → line' ≡ placed p low rooms line → Placed racks places p line → Placed racks places (p + 1) line'
unfolding begins
placed-more racks places p low rooms line line' l el er e f = rw e (
    let k : length line ≡ 4352 = f.long in
    record {
      heads-are = λ q m. elim (ℕ_discrete q p) [ yes i ↦ rw i (placed-head line k p low rooms l ∙ rw el) | no i ↦ placed_else line k p low rooms l (4160 + q) (λ j. i (omega arith)) (λ j. omega arith) (λ j. omega arith) ∙ f.heads-are q (omega arith) ];
      tails-are = λ q m. elim (ℕ_discrete q p) [ yes i ↦ rw i (placed-tail line k p low rooms l ∙ rw el) | no i ↦ placed_else line k p low rooms l (4224 + q) (λ j. omega arith) (λ j. i (omega arith)) (λ j. omega arith) ∙ f.tails-are q (omega arith) ];
      rooms-are = λ q m. elim (ℕ_discrete q p) [ yes i ↦ rw i (placed-room line k p low rooms l ∙ er) | no i ↦ placed_else line k p low rooms l (4288 + q) (λ j. omega arith) (λ j. omega arith) (λ j. i (omega arith)) ∙ f.rooms-are q (omega arith) ];
      heads-none = λ q m n. placed_else line k p low rooms l (4160 + q) (λ j. omega arith) (λ j. omega arith) (λ j. omega arith) ∙ f.heads-none q (omega arith) n;
      tails-none = λ q m n. placed_else line k p low rooms l (4224 + q) (λ j. omega arith) (λ j. omega arith) (λ j. omega arith) ∙ f.tails-none q (omega arith) n;
      rooms-none = λ q m n. placed_else line k p low rooms l (4288 + q) (λ j. omega arith) (λ j. omega arith) (λ j. omega arith) ∙ f.rooms-none q (omega arith) n;
      long = placed-long line k p low rooms l;
    })
