-- Laws of writing the pairs of one target: what one pair more does to the list, and when all are written. Assumes nothing.
use mathlib.Core.Path.{◌≡◌, refl, ap, ◌∙◌}
use mathlib.Core.Bool.{true}
use mathlib.Core.List.{List, [], ◌∷◌}
use Prim.Native.Nat.{ℕ, ◌+◌, ◌*◌, ◌-◌, ◌^◌, ◌≤◌, ◌<◌, min}
use native.Mathlib.Omega.{arith}
use native.Mathlib.Numerals.{add-one}
use native.Mathlib.Decide.{dec_lt}
use lib.ListN.{length, get_or, set, length-set}
use lib.Seq.{sets, slice_empty, slice-cons, length-slice}
use Rattle.counting.specs.Lists.{pair_up, flat}
use Rattle.counting.proofs.Tests.{no_way}
use Rattle.counting.proofs.Pairs.{length-pair_up}
use Rattle.counting.proofs.Stores.{sets-flat-none, sets-flat-more}
use Rattle.racks.specs.Job.{start_in}
use Rattle.bits.specs.parts.Bits.{bit_on, turned_off, is_on, NextOn, Walking, Onward, WalkedOn}
use Rattle.bits.proofs.Walks.{onward, walk-next, walk_more, some-bit}
use Rattle.queues.specs.parts.Line.{queue_of, head_of, tail_of, room_of}
use Rattle.queues.specs.parts.Queues.{Rows, rows_of, opens, part, Visitable}
use Rattle.pairing.specs.parts.Phase.{served, sent, pairs_for, visited, Visited}
use Rattle.queues.proofs.Opens.{open-some, open-first}

module _ (bits queue : List ℕ) (head end low : ℕ) where
  -- no card is taken: no pair
  pub served-end : head ≡ end → served bits queue head end low ≡ []
  unfolding served part pair_up
  served-end e = rw (e, slice_empty end queue)

  -- as many pairs as cards are taken, where there are slots for them
  pub served-long : end ≤ length queue → end ≤ head + length (opens bits low 4096) → length (served bits queue head end low) ≡ end - head
  unfolding served part
  served-long l m = omega (arith, length-pair_up (part queue head end) (opens bits low 4096), length-slice head end queue l)

  -- t is the next free slot, and a card is left: the two are the first pair
  pub served-first : {t : ℕ} → NextOn (is_on bits) low 4096 t → head < end → end ≤ length queue → t < 4096
      → served bits queue head end low ≡ (get_or queue head 0, t) ∷ served bits queue (head + 1) end (t + 1)
  unfolding served part pair_up
  served-first o l q m = rw (open-first bits o 4096 m (omega arith), slice-cons head end queue 0 l q, add-one head)

-- the pairs of a rack that can be visited
module _ (rows : Rows) (p : ℕ) (v : Visitable rows p) where
  -- no more cards than wait
  pub sent_le : rows.heads p + sent rows p ≤ rows.tails p
  unfolding sent
  sent_le = omega (arith, v.queued)

  -- there are slots for them
  pub sent-roomy : rows.heads p + sent rows p ≤ rows.heads p + length (opens rows.bits (rows.lows p) 4096)
  unfolding sent
  sent-roomy = omega (arith, v.roomy)

  -- as many as the rack takes
  pub pairs-long : length rows.queue ≡ 4160 → length (pairs_for rows p) ≡ sent rows p
  unfolding pairs_for
  pairs-long q =
      omega (arith, served-long rows.bits rows.queue (rows.heads p) (rows.heads p + sent rows p) (rows.lows p) (omega (arith, sent_le, v.within)) sent-roomy)

-- no card waits: no pair
pub pairs-none : (rows : Rows) (p : ℕ) → rows.tails p ≤ rows.heads p → pairs_for rows p ≡ []
unfolding pairs_for sent
pairs-none rows p l = served-end rows.bits rows.queue (rows.heads p) (rows.heads p + sent rows p) (rows.lows p) (omega arith)

-- what is left to write behind k, of the cards from h on and the slots from t on, is what there was to write from `at` on
pub record Left (bits queue : List ℕ) (head end low : ℕ) (before : List ℕ) (at : ℕ) (after : List ℕ) (h t k : ℕ) : Type 0 where
  pub up : head ≤ h
  pub h_in : h ≤ end
  pub t_in : t ≤ 4096
  pub roomy : end ≤ h + length (opens bits t 4096)
  pub long : length after ≡ length before
  pub list : sets after k (flat (served bits queue h end t)) ≡ sets before at (flat (served bits queue head end low))
  pub behind : k + 2 * head ≡ at + 2 * h

-- the same, where a walk over the free slots has come to t
pub record Paired (bits queue : List ℕ) (head end low : ℕ) (before : List ℕ) (at : ℕ) (after : List ℕ) (h k base rest : ℕ) : Type 0 where
  pub t : ℕ
  pub left : Left bits queue head end low before at after h t k
  pub walking : Walking bits t base rest

module _ {bits queue : List ℕ} {head end low : ℕ} {before : List ℕ} {at : ℕ} where
  -- all is left: the walk starts at the rack's first slot
  pub paired-all : head ≤ end → low ≤ 4096 → end ≤ head + length (opens bits low 4096) → {rest : ℕ} → Walking bits low low rest
      → Paired bits queue head end low before at before head at low rest
  paired-all l m n w = record {
    t = low;
    left = record { up = omega arith; h_in = l; t_in = m; roomy = n; long = refl; list = refl; behind = refl };
    walking = w;
  }

  module _ {after : List ℕ} {h k base rest : ℕ} (l : Paired bits queue head end low before at after h k base rest) where
    -- no card is left: all is written
    pub paired-done : end ≤ h → after ≡ sets before at (flat (served bits queue head end low))
    paired-done m =
        let e : h ≡ end = omega (arith, l.left.h_in) in
        rw (served-end bits queue h end l.t e, sets-flat-none after k) at l.left.list

    -- a card is left
    module _ (m : h < end) where
      -- and a slot
      some : (i : ℕ) × (l.t ≤ i) × (i < 4096) × (is_on bits i ≡ true)
      some = open-some bits l.t 4096 (omega (arith, l.left.roomy))

      -- so the walk can go on
      pub paired-onward : Onward bits base rest
      paired-onward = onward l.walking some.1 some.2 some.3

      -- it goes on, and b is the first bit that is left
      module _ {base' rest' b : ℕ} (w : WalkedOn bits base rest base' rest') (f : rest' < 2 ^ 64) (o : NextOn (bit_on rest') 0 64 b) where
        on : Walking bits l.t base' rest'
        on = w.kept l.t l.walking

        pub paired-bit : b < 64
        paired-bit = some-bit rest' b f w.left o

        -- its slot is the next that is free
        pub paired-slot : base' + b < 4096
        paired-slot = elim (dec_lt (base' + b) 4096) [
          | yes i ↦ i
          | no i ↦
              let n : NextOn (is_on bits) l.t 4096 4096 = walk-next on o paired-bit l.left.t_in (omega arith) in
              absurd (no_way some.3 (n.passed some.0 some.1 some.2))
        ]

        slot : NextOn (is_on bits) l.t 4096 (base' + b)
        slot = walk-next on o paired-bit l.left.t_in (omega (arith, paired-slot))

        -- one pair more fits the list
        pub paired-room : at + 2 * (end - head) ≤ length before → k + 2 ≤ length after
        paired-room r = omega (arith, l.left.behind, l.left.long, l.left.up)

        -- they are the next pair
        pub paired-more : end ≤ length queue → {x rest'' : ℕ} → x ≡ get_or queue h 0 → rest'' ≡ turned_off rest' b
            → Paired bits queue head end low before at (set (set after k x) (k + 1) (base' + b)) (h + 1) (k + 2) base' rest''
        paired-more q {x} {rest''} ex e =
            let first = served-first bits queue h end l.t slot m q paired-slot in
            record {
              t = base' + b + 1;
              left = record {
                up = omega (arith, l.left.up);
                h_in = omega arith;
                t_in = omega (arith, paired-slot);
                roomy = omega (arith, l.left.roomy, ap length (open-first bits slot 4096 paired-slot (omega arith)));
                long = simp length-set l.left.long;
                list = rw ex (rw (first, sets-flat-more after k (get_or queue h 0) (base' + b) (served bits queue (h + 1) end (base' + b + 1))) at l.left.list);
                behind = omega (arith, l.left.behind);
              };
              walking = rw e (walk_more on o paired-bit);
            }

-- a visit of rack p, as the code makes it: it takes the smaller of room and cards
module _ (ends line bits : List ℕ) (p made : ℕ) (e : made ≡ min (room_of line p) (tail_of line p - head_of line p)) where
  pub visit-made : made ≡ sent (rows_of ends line bits) p
  unfolding sent
  visit-made = e

  pub visit-done : (log : List ℕ) (at : ℕ) (log' : List ℕ) {low : ℕ} → low ≡ start_in ends p → log' ≡ sets log at (flat (served bits (queue_of line) (head_of line p) (head_of line p + made) low))
      → Visited ends line bits p log at (set (set line (4160 + p) (head_of line p + made)) (4288 + p) (room_of line p - made)) log' made
  unfolding visited pairs_for
  visit-done log at log' f w = record {
    made-is = visit-made;
    list = w ∙ rw (f, ← visit-made);
    line-is = refl;
  }
