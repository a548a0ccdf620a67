-- The pass that fills the queues: after g slots each rack's queue has the slots of the cards away to it among these. Assumes nothing.
use mathlib.Core.Path.{◌≡◌, refl, sym, ◌∙◌}
use mathlib.Core.Bool.{true, false}
use mathlib.Core.List.{List}
use mathlib.Core.Logic.{◌≢◌}
use Prim.Native.Nat.{ℕ, suc, ◌+◌, ◌≤◌, ◌<◌}
use native.Mathlib.Omega.{arith}
use native.Mathlib.Decide.{ℕ_discrete, dec_lt}
use lib.ListN.{length, get_or, set}
use Rattle.counting.specs.Count.{select}
use Rattle.counting.proofs.Tests.{by-test, off, no_way}
use Rattle.counting.proofs.Select.{select-on, select-off}
use Rattle.racks.specs.Racks.{Rack, slots}
use Rattle.racks.specs.Table.{away, away_to}
use Rattle.racks.proofs.Geometry.{end_le}
use Rattle.racks.specs.parts.Legal.{Legal}
use Rattle.racks.proofs.Away.{to-away, to-rack}
use Rattle.tables.specs.parts.Tables.{target, Filled}
use Rattle.tables.proofs.Targets.{target_lt, away_by_lem, sent-to, aimed}
use Rattle.queues.specs.parts.Line.{queue_of, head_of, tail_of, room_of}
use Rattle.queues.specs.parts.Queues.{part}
use Rattle.queues.specs.parts.Queued.{begins, Placed, queued, Queueable}
use Rattle.queues.proofs.Stretch.{part_none, part_push, part-before, part-behind}
use Rattle.queues.proofs.Fits.{begins_mono, tail_at, tail_none, tail-up, tail-on, tail-off, tail-room}
use Rattle.queues.proofs.Line.{queue_long}
use Rattle.queues.proofs.QueueSlot.{stored, stored-long, stored-queue, stored-tail, stored_else, queued-is}

-- a legal table of racks within the limits, and each slot's rack
pub record Tabled (racks : List Rack) (places racking : List ℕ) : Type 0 where
  pub legal : Legal racks places
  pub filled : Filled racks racking
  pub small : slots racks ≤ 4096
  pub few : length racks ≤ 64

-- the line after g slots: the queues have grown, all else is as at the start
pub record Queueing (racks : List Rack) (places start : List ℕ) (g : ℕ) (line : List ℕ) : Type 0 where
  pub tails-are : (p : ℕ) → p < length racks → tail_of line p ≡ tail_at racks places g p
  pub waits : (p : ℕ) → p < length racks → part (queue_of line) (begins racks p) (tail_at racks places g p) ≡ select g (away_to racks places p)
  pub heads-same : (p : ℕ) → p < 64 → head_of line p ≡ head_of start p
  pub rooms_same : (p : ℕ) → p < 64 → room_of line p ≡ room_of start p
  pub tails-same : (p : ℕ) → length racks ≤ p → p < 64 → tail_of line p ≡ tail_of start p
  pub long : length line ≡ 4352

-- before the first slot each queue is empty
pub queueing-none : (racks : List Rack) (places line : List ℕ) {n : ℕ} → n ≡ length racks → Placed racks places n line → Queueing racks places line 0 line
queueing-none racks places line e f =
    record {
      tails-are = λ p l. f.tails-are p (omega arith) ∙ sym (tail_none racks places p);
      waits = λ p l. rw (tail_none racks places p) (part_none (queue_of line) (begins racks p) ∙ unfold select in refl);
      heads-same = λ p l. refl;
      rooms_same = λ p l. refl;
      tails-same = λ p l m. refl;
      long = f.long;
    }

-- one slot more
module _ (racks : List Rack) (places racking : List ℕ) (t : Tabled racks places racking) (g : ℕ) (l : g < slots racks) where
  -- each queue has room for one slot more in its own places
  room_at : (p : ℕ) → tail_at racks places g p < begins racks (suc p)
  room_at p = tail-room racks places p t.legal g (omega arith)

  -- a store at the tail of one queue does not touch another: each lies in its own places
  other-kept : (queue : List ℕ) (p q x : ℕ) → p ≢ q
      → part (set queue (tail_at racks places g p) x) (begins racks q) (tail_at racks places g q) ≡ part queue (begins racks q) (tail_at racks places g q)
  other-kept queue p q x d = elim (dec_lt p q) [
    | yes m ↦ part-behind queue (begins racks q) (tail_at racks places g q) (tail_at racks places g p) x
        (omega (arith, room_at p, begins_mono racks p q m))
    | no m ↦ part-before queue (begins racks q) (tail_at racks places g q) (tail_at racks places g p) x
        (omega (arith, tail-up racks places p g, room_at q, begins_mono racks q p (omega arith)))
  ]

  -- the places of the queues
  tail-small : (p : ℕ) → p < length racks → tail_at racks places g p < 4160
  unfolding begins
  tail-small p m = omega (arith, room_at p, end_le racks p m, t.small, t.few)

  -- the rack where slot g's card must end is one; of a free slot, its own
  to_lt : target racking places g < length racks
  to_lt = target_lt racks places racking t.legal t.filled g l

  module _ (start line : List ℕ) (q : Queueing racks places start g line) where
    -- the tail of that rack's queue
    target-tail : tail_of line (target racking places g) ≡ tail_at racks places g (target racking places g)
    target-tail = q.tails-are (target racking places g) to_lt

    -- the slot can be queued
    pub queueable : Queueable racking places g line
    queueable =
        let a = aimed racks places racking t.legal t.filled g l t.small t.few in
        record {
          slot = a.slot;
          small = a.small;
          rack = a.rack;
          named = a.named;
          racked = a.racked;
          fits = omega (arith, target-tail, tail-small (target racking places g) to_lt);
          long = q.long;
        }

    abbrev p : ℕ
    p = target racking places g

    -- the queues and the tails with the slot stored
    module _ (y : ℕ) (tails : (k : ℕ) → k < length racks → k ≢ p → tail_at racks places (g + 1) k ≡ tail_at racks places g k) (own : y ≡ tail_at racks places (g + 1) p)
        (waits : (k : ℕ) → k < length racks → part (set (queue_of line) (tail_at racks places g p) g) (begins racks k) (tail_at racks places (g + 1) k) ≡ select (g + 1) (away_to racks places k)) where
      grown : Queueing racks places start (g + 1) (stored line p g y)
      grown =
          let few : p < 64 = queueable.racked in
          let fits : tail_of line p < 4160 = queueable.fits in
          let else : (k : ℕ) → 4160 ≤ k → k ≢ 4224 + p → get_or (stored line p g y) k 0 ≡ get_or line k 0 = stored_else line p g y q.long few fits in
          record {
            tails-are = λ k m. elim (ℕ_discrete k p) [
              | yes e ↦ rw e (stored-tail line p g y q.long few fits ∙ own)
              | no e ↦ else (4224 + k) (omega arith) (λ i. e (omega arith)) ∙ q.tails-are k m ∙ sym (tails k m e)
            ];
            waits = λ k m. rw (stored-queue line p g y q.long few fits, target-tail) (waits k m);
            heads-same = λ k m. else (4160 + k) (omega arith) (λ i. omega arith) ∙ q.heads-same k m;
            rooms_same = λ k m. else (4288 + k) (omega arith) (λ i. omega arith) ∙ q.rooms_same k m;
            tails-same = λ k n m. else (4224 + k) (omega arith) (λ i. omega (arith, to_lt)) ∙ q.tails-same k n m;
            long = stored-long line p g y q.long few fits;
          }

    -- no card is away from slot g: the store is behind rack p's queue, and the queues stay
    queueing-kept : away racks places g ≡ false → Queueing racks places start (g + 1) (stored line p g (tail_of line p + 0))
    queueing-kept a = grown (tail_of line p + 0)
        (λ k m _. tail-off racks places k g (none k))
        (omega (arith, target-tail, tail-off racks places p g (none p)))
        (λ k m. rw (tail-off racks places k g (none k), select-off g (away_to racks places k) (none k)) (behind k ∙ q.waits k m))
      where
        none : (k : ℕ) → away_to racks places k g ≡ false
        none k = off (λ s. no_way (to-away racks places k g s) a)

        behind : (k : ℕ) → part (set (queue_of line) (tail_at racks places g p) g) (begins racks k) (tail_at racks places g k) ≡ part (queue_of line) (begins racks k) (tail_at racks places g k)
        behind k = elim (ℕ_discrete k p) [
          | yes e ↦ rw e (part-before (queue_of line) (begins racks p) (tail_at racks places g p) (tail_at racks places g p) g (omega arith))
          | no e ↦ other-kept (queue_of line) p k g (λ x. e (sym x))
        ]

    -- a card is away to rack p: its slot is the last of p's queue
    queueing-sent : away_to racks places p g ≡ true → Queueing racks places start (g + 1) (stored line p g (tail_of line p + 1))
    queueing-sent a = grown (tail_of line p + 1)
        (λ k m e. tail-off racks places k g (none k e))
        (omega (arith, target-tail, tail-on racks places p g a))
        (λ k m. elim (ℕ_discrete k p) [
          | yes e ↦ rw (e, tail-on racks places p g a, select-on g (away_to racks places p) a, ← q.waits p to_lt)
              (part_push (queue_of line) (begins racks p) (tail_at racks places g p) g (tail-up racks places p g) (omega (arith, queue_long line q.long, tail-small p to_lt)))
          | no e ↦ rw (tail-off racks places k g (none k e), select-off g (away_to racks places k) (none k e)) (other-kept (queue_of line) p k g (λ x. e (sym x)) ∙ q.waits k m)
        ])
      where
        none : (k : ℕ) → k ≢ p → away_to racks places k g ≡ false
        none k d = off (λ s. d (sym (to-rack racks places k g s) ∙ to-rack racks places p g a))

    -- the line after slot g
    pub queueing-more : (line' : List ℕ) → line' ≡ queued racking places g line → Queueing racks places start (g + 1) line'
    queueing-more line' s = rw (s, queued-is racking places g line queueable, away_by_lem racks places racking t.legal t.filled g l)
        (by-test (away racks places g)
        (λ a. rw a (queueing-sent (sent-to racks places racking t.legal t.filled g l a)))
        (λ a. rw a (queueing-kept a)))
