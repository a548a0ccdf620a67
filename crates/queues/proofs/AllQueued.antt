-- After all slots the line and the set of free slots are the rows of the table. Assumes nothing.
use mathlib.Core.Path.{◌≡◌, sym, ap, ◌∙◌}
use mathlib.Core.List.{List}
use Prim.Native.Nat.{ℕ, ◌+◌, ◌^◌, ◌≤◌, ◌<◌}
use native.Mathlib.Omega.{arith}
use native.Mathlib.Decide.{ℕ_discrete, dec_lt}
use lib.Dec.{ltb}
use lib.ListN.{length, set}
use lib.Seq.{get_or-set_same}
use borrow.Author.Tests.{le-ltb, lt-ltb}
use Rattle.racks.specs.Racks.{Rack, base, slots}
use Rattle.racks.specs.Job.{start_in, racks_of}
use Rattle.racks.specs.declared.Job.{Job}
use Rattle.racks.proofs.Geometry.{end_le}
use Rattle.racks.proofs.Jobs.{sound-few}
use Rattle.tables.specs.parts.Tables.{Open}
use Rattle.bits.specs.parts.Bits.{bit_on, turned_on}
use Rattle.bits.proofs.Words.{bit-none, turned-on-here, turned-on-other}
use Rattle.bits.proofs.Sets.{beside-kept, topped-beside}
use Rattle.queues.specs.parts.Line.{head_of, tail_of}
use Rattle.queues.specs.parts.Queues.{rows_of, Visitable}
use Rattle.queues.specs.parts.Queued.{begins, Placed, Awaiting}
use Rattle.queues.specs.parts.Openings.{FreeSet, Shown}
use Rattle.queues.specs.parts.Ready.{Ready}
use Rattle.queues.proofs.Line.{queue_long}
use Rattle.queues.proofs.OpenSlots.{opens-roomy}
use Rattle.queues.proofs.Fits.{tail-up, tail-room}
use Rattle.queues.proofs.Queueing.{Tabled, Queueing}

-- a job that is open, with its table and each slot's rack
pub job_tabled : (job : Job) (places racking : List ℕ) → Open job places racking → Tabled (racks_of job) places racking
job_tabled job places racking o = record { legal = o.legal; filled = o.filled; small = o.sound.small; few = sound-few job o.sound }

-- no rack waits yet
pub awaiting-none : (line : List ℕ) → Awaiting 0 line 0
awaiting-none line = record { racks-are = λ p l. absurd (omega arith); rest = λ p l. bit-none p }

-- one rack more, for which a card waits
pub awaiting-on : {n : ℕ} {line : List ℕ} {word : ℕ} → Awaiting n line word → head_of line n < tail_of line n → Awaiting (n + 1) line (turned_on word n)
awaiting-on {n} {line} {word} a h = record {
  racks-are = λ p l. elim (ℕ_discrete p n) [
    | yes i ↦ rw i (turned-on-here word n ∙ sym (lt-ltb _ _ h))
    | no i ↦ turned-on-other word n p i ∙ a.racks-are p (omega arith)
  ];
  rest = λ p l. turned-on-other word n p (λ i. omega arith) ∙ a.rest p (omega arith);
}

-- and for which none does
pub awaiting-off : {n : ℕ} {line : List ℕ} {word : ℕ} → Awaiting n line word → tail_of line n ≤ head_of line n → Awaiting (n + 1) line word
awaiting-off {n} {line} {word} a h = record {
  racks-are = λ p l. elim (ℕ_discrete p n) [
    | yes i ↦ rw i (a.rest n (omega arith) ∙ sym (le-ltb _ _ h))
    | no i ↦ a.racks-are p (omega arith)
  ];
  rest = λ p l. a.rest p (omega arith);
}

module _ (racks : List Rack) (places racking : List ℕ) (t : Tabled racks places racking) where
  -- the rows after all slots
  pub queues-ready : (ends : List ℕ) → ((p : ℕ) → p < length racks → start_in ends p ≡ base racks p) → ((p : ℕ) → p < 64 → start_in ends p ≤ 4096)
      → (n : ℕ) (start line bits : List ℕ) (word : ℕ) → n ≡ length racks → word < 2 ^ 64 → Placed racks places n start → Queueing racks places start (slots racks) line
      → FreeSet places bits → Awaiting n line word → Ready racks places (rows_of ends line (set bits 65 word))
  unfolding begins
  queues-ready ends starts small n start line bits word en fw f q c a =
      record {
        bounded =
            record {
              queue_long = queue_long line q.long;
              racks = visitable;
              topped = topped-beside bits word c.topped fw;
              exact = λ p l. ap (λ (w : ℕ). bit_on w p) (get_or-set_same bits 65 word 0 (omega (arith, c.topped.long))) ∙ exact p l;
            };
        few = t.few;
        small = t.small;
        waits = λ p l. rw (head-is p l, q.tails-are p l) (q.waits p l);
        shown = shown;
        rooms-are = λ p l. q.rooms_same p (omega (arith, t.few)) ∙ f.rooms-are p (omega arith);
        lows-are = starts;
        others = λ p l m. head-none p l m ∙ sym (tail_none p l m);
        others-full = λ p l m. q.rooms_same p m ∙ f.rooms-none p (omega arith) m;
      }
    where
      head-is : (p : ℕ) → p < length racks → head_of line p ≡ begins racks p
      head-is p l = q.heads-same p (omega (arith, t.few)) ∙ f.heads-are p (omega arith)

      head-none : (p : ℕ) → length racks ≤ p → p < 64 → head_of line p ≡ 0
      head-none p l m = q.heads-same p m ∙ f.heads-none p (omega arith) m

      tail_none : (p : ℕ) → length racks ≤ p → p < 64 → tail_of line p ≡ 0
      tail_none p l m = q.tails-same p l m ∙ f.tails-none p (omega arith) m

      shown : Shown (slots racks) places (set bits 65 word)
      shown k l = beside-kept bits word k (omega (arith, t.small)) ∙ c.shown k (omega (arith, t.legal.long))

      visitable : (p : ℕ) → p < 64 → Visitable (rows_of ends line (set bits 65 word)) p
      visitable p m = elim (dec_lt p (length racks)) [
        | yes l ↦
            record {
              queued = omega (arith, head-is p l, q.tails-are p l, tail-up racks places p (slots racks));
              within = omega (arith, q.tails-are p l, tail-room racks places p t.legal (slots racks) (omega arith), end_le racks p l, t.small);
              low_in = small p m;
              roomy = rw (starts p l) (omega (arith, q.rooms_same p m, f.rooms-are p (omega arith), opens-roomy racks places p l t.small (set bits 65 word) shown));
            }
        | no l ↦ record {
          queued = omega (arith, head-none p (omega arith) m);
          within = omega (arith, tail_none p (omega arith) m);
          low_in = small p m;
          roomy = omega (arith, q.rooms_same p m, f.rooms-none p (omega arith) m);
        }
      ]

      exact : (p : ℕ) → p < 64 → bit_on word p ≡ ltb (head_of line p) (tail_of line p)
      exact p m = elim (dec_lt p (length racks)) [
        | yes l ↦ a.racks-are p (omega arith)
        | no l ↦ a.rest p (omega arith) ∙ sym (le-ltb (head_of line p) (tail_of line p) (omega (arith, tail_none p (omega arith) m)))
      ]
