-- Laws of planning a phase rack by rack: what one rack more does to the pairs, the queues and the racks that wait. Assumes nothing.
use mathlib.Core.Path.{◌≡◌, refl, sym, ap, ◌∙◌}
use mathlib.Core.Bool.{true, false}
use mathlib.Core.List.{List, [], ◌++◌, append-nil}
use Prim.Native.Nat.{ℕ, zero, suc, ◌+◌, ◌*◌, ◌^◌, ◌≤◌, ◌<◌}
use native.Mathlib.Omega.{arith}
use native.Mathlib.Numerals.{add-one}
use native.Mathlib.Decide.{ℕ_discrete, dec_le}
use lib.Dec.{ltb}
use lib.ListN.{length, get_or, set, length-append}
use lib.Seq.{sets, length-sets, get_or-set_same}
use borrow.Author.Tests.{ltb-false}
use Rattle.counting.specs.Tests.{pick}
use Rattle.counting.specs.Lists.{tabulate, join, flat}
use Rattle.counting.proofs.Tests.{by-test, no_way}
use Rattle.counting.proofs.Select.{sum_mono, sum_more}
use Rattle.counting.proofs.Lists.{join_more, length-join}
use Rattle.counting.proofs.Stores.{length-flat, flat_append, sets-append, sets-flat-none}
use Rattle.bits.specs.parts.Bits.{bit_on, turned_off, NextOn}
use Rattle.bits.proofs.Words.{turned-off-here, turned-off-other}
use Rattle.bits.proofs.Sets.{beside-kept, topped-beside}
use Rattle.queues.specs.parts.Line.{head_of, tail_of}
use Rattle.queues.specs.parts.Queues.{Rows, rows_of, Visitable}
use Rattle.pairing.specs.parts.Phase.{sent, pairs_for, queued_plan, visited, Visited, RacksPassed, Plannable, PhasePlanned}
use Rattle.pairing.proofs.Visits.{visited-long, visited-queue, visited-head, visited-room, visited-heads, visited-tails, visited-rooms}
use Rattle.pairing.proofs.Pairing.{pairs-long, pairs-none}

module _ (rows : Rows) where
  -- the plan of no racks
  pub queued-none : queued_plan 0 rows ≡ []
  unfolding queued_plan tabulate join
  queued-none = refl

  -- the plan of one rack more
  pub queued-more : (p : ℕ) → queued_plan (p + 1) rows ≡ queued_plan p rows ++ pairs_for rows p
  unfolding queued_plan
  queued-more p = rw (add-one p) (join_more p (pairs_for rows))

  -- a rack's pairs and those of the racks before it are no more than those of all
  pub queued_le : (n p : ℕ) → p < n → length (queued_plan p rows) + length (pairs_for rows p) ≤ length (queued_plan n rows)
  unfolding queued_plan
  queued_le n p l =
      let sized : ℕ → ℕ = λ q. length (pairs_for rows q) in
      omega (
        arith,
        length-join p (pairs_for rows),
        length-join n (pairs_for rows),
        sum_more p sized,
        sum_mono (p + 1) n sized (omega arith),
      )

-- a rack that can be visited still can be where its numbers are the same
pub visit-same : {rows rows' : Rows} {p : ℕ} → rows'.heads p ≡ rows.heads p → rows'.tails p ≡ rows.tails p → rows'.lows p ≡ rows.lows p → rows'.rooms p ≡ rows.rooms p
    → rows'.bits ≡ rows.bits → Visitable rows p → Visitable rows' p
visit-same h t l r b v = record {
  queued = rw (h, t) v.queued;
  within = rw t v.within;
  low_in = rw l v.low_in;
  roomy = rw (r, l, b) v.roomy;
}

-- p racks are planned; the bits of the others are those of the start
pub record Planned (p : ℕ) (ends line bits log : List ℕ) (at : ℕ) (line' log' : List ℕ) (count waiting : ℕ) : Type 0 where
  pub few : p ≤ 64
  pub list : log' ≡ sets log at (flat (queued_plan p (rows_of ends line bits)))
  pub count-is : count ≡ length (queued_plan p (rows_of ends line bits))
  pub passed : RacksPassed p (rows_of ends line bits) (rows_of ends line' bits)
  pub long : length line' ≡ 4352
  pub exact : (q : ℕ) → q < p → bit_on waiting q ≡ ltb (head_of line' q) (tail_of line' q)
  pub bits-rest : (q : ℕ) → p ≤ q → bit_on waiting q ≡ bit_on (get_or bits 65 0) q

-- the racks still to be visited: none before p, and from p on those that waited at the start
pub record Ahead (p start left : ℕ) : Type 0 where
  pub below : (q : ℕ) → q < p → bit_on left q ≡ false
  pub rest : (q : ℕ) → p ≤ q → bit_on left q ≡ bit_on start q

module _ {p start left : ℕ} (a : Ahead p start left) where
  -- p is visited
  ahead-off : Ahead (p + 1) start (turned_off left p)
  ahead-off = record {
    below = λ q l. elim (ℕ_discrete q p) [
      | yes e ↦ rw e (turned-off-here left p)
      | no e ↦ turned-off-other left p q e ∙ a.below q (omega arith)
    ];
    rest = λ q l. turned-off-other left p q (λ e. omega arith) ∙ a.rest q (omega arith);
  }

  module _ {q : ℕ} (o : NextOn (bit_on left) 0 64 q) where
    -- the first to be visited does not lie before p
    ahead-up : p ≤ 64 → p ≤ q
    ahead-up m = elim (dec_le p q) [
      | yes l ↦ l
      | no l ↦ absurd (no_way (o.hit (omega arith)) (a.below q (omega arith)))
    ]

    -- it is the first from p on that waited at the start
    ahead-next : p ≤ 64 → NextOn (bit_on start) p 64 q
    ahead-next m = record {
      up = ahead-up m;
      within = o.within;
      passed = λ k l i. sym (a.rest k l) ∙ o.passed k (omega arith) i;
      hit = λ l. sym (a.rest q (ahead-up m)) ∙ o.hit l;
    }

    -- none before it is to be visited
    ahead-on : p ≤ 64 → Ahead q start left
    ahead-on m = record {
      below = λ k l. o.passed k (omega arith) l;
      rest = λ k l. a.rest k (omega (arith, ahead-up m));
    }

-- the racks before p are planned, and p is the next to be visited, or there is none
pub record Reached (p : ℕ) (ends line bits log : List ℕ) (at : ℕ) (line' log' : List ℕ) (count waiting left : ℕ) : Type 0 where
  pub planned : Planned p ends line bits log at line' log' count waiting
  pub hit : p < 64 → bit_on waiting p ≡ true
  pub ahead : Ahead p (get_or bits 65 0) left

module _ {ends line bits log : List ℕ} {at : ℕ} (b : Plannable ends line bits log at) where
  abbrev rows : Rows
  rows = rows_of ends line bits

  -- no rack is planned yet
  planned-none : Planned 0 ends line bits log at line log 0 (get_or bits 65 0)
  planned-none =
      record {
        few = omega arith;
        list = rw (queued-none rows, sets-flat-none log at);
        count-is = rw (queued-none rows);
        passed = record {
          queue-is = refl;
          tails-are = λ q l. refl;
          heads-are = λ q l. absurd (omega arith);
          rooms-are = λ q l. absurd (omega arith);
          heads-rest = λ q l m. refl;
          rooms-rest = λ q l m. refl;
        };
        long = b.long;
        exact = λ q l. absurd (omega arith);
        bits-rest = λ q l. refl;
      }

  module _ {line' log' : List ℕ} {count waiting : ℕ} where
    -- a rack whose bit is off has no pair
    planned_skip : {p : ℕ} → Planned p ends line bits log at line' log' count waiting → p < 64 → bit_on waiting p ≡ false → Planned (p + 1) ends line bits log at line' log' count waiting
    unfolding sent
    planned_skip {p} s m o =
        let off : ltb (head_of line p) (tail_of line p) ≡ false = sym (b.bounded.exact p m) ∙ sym (s.bits-rest p (omega arith)) ∙ o in
        let over : tail_of line p ≤ head_of line p = ltb-false _ _ off in
        let none : pairs_for rows p ≡ [] = pairs-none rows p over in
        let same : queued_plan (p + 1) rows ≡ queued_plan p rows = queued-more rows p ∙ rw (none, append-nil) in
        let h : head_of line' p ≡ head_of line p = s.passed.heads-rest p (omega arith) m in
        let r : (rows_of ends line' bits).rooms p ≡ rows.rooms p = s.passed.rooms-rest p (omega arith) m in
        record {
          few = omega arith;
          list = rw same s.list;
          count-is = rw same s.count-is;
          passed = record {
            queue-is = s.passed.queue-is;
            tails-are = s.passed.tails-are;
            heads-are = λ q l. elim (ℕ_discrete q p) [
              | yes e ↦ rw e (omega (arith, h))
              | no e ↦ s.passed.heads-are q (omega arith)
            ];
            rooms-are = λ q l. elim (ℕ_discrete q p) [
              | yes e ↦ rw e (omega (arith, r))
              | no e ↦ s.passed.rooms-are q (omega arith)
            ];
            heads-rest = λ q l i. s.passed.heads-rest q (omega arith) i;
            rooms-rest = λ q l i. s.passed.rooms-rest q (omega arith) i;
          };
          long = s.long;
          exact = λ q l. elim (ℕ_discrete q p) [
            | yes e ↦ rw (e, h, s.passed.tails-are p m) (o ∙ sym off)
            | no e ↦ s.exact q (omega arith)
          ];
          bits-rest = λ q l. s.bits-rest q (omega arith);
        }

    -- nor have the racks up to the next whose bit is on
    planned-to : {p : ℕ} → Planned p ends line bits log at line' log' count waiting → (q : ℕ) → p ≤ q → q ≤ 64 → ((k : ℕ) → p ≤ k → k < q → bit_on waiting k ≡ false)
        → Planned q ends line bits log at line' log' count waiting
    planned-to {p} s zero l m f = let e : p ≡ 0 = omega arith in rw e at s
    planned-to {p} s (suc q) l m f = elim (dec_le p q) [
      | yes i ↦ rw (← (add-one q)) (planned_skip (planned-to s q i (omega arith) (λ k a c. f k a (omega arith))) (omega arith) (f q i (omega arith)))
      | no i ↦ let e : p ≡ suc q = omega arith in rw e at s
    ]

    -- the next to be visited is reached
    pub reached-next : {p q left : ℕ} → Planned p ends line bits log at line' log' count waiting → Ahead p (get_or bits 65 0) left → NextOn (bit_on left) 0 64 q
        → Reached q ends line bits log at line' log' count waiting left
    reached-next {p} {q} s a o =
        let m : p ≤ 64 = s.few in
        let i : NextOn (bit_on (get_or bits 65 0)) p 64 q = ahead-next a o m in
        record {
          planned = planned-to s q i.up i.within (λ k l j. s.bits-rest k l ∙ i.passed k l j);
          hit = λ l. s.bits-rest q i.up ∙ i.hit l;
          ahead = ahead-on a o m;
        }

  -- the first rack that waits
  pub reached-first : {p : ℕ} → NextOn (bit_on (get_or bits 65 0)) 0 64 p → Reached p ends line bits log at line log 0 (get_or bits 65 0) (get_or bits 65 0)
  reached-first o = reached-next planned-none (record { below = λ q l. absurd (omega arith); rest = λ q l. refl }) o

  module _ {p : ℕ} {line' log' : List ℕ} {count waiting left : ℕ} (r : Reached p ends line bits log at line' log' count waiting left) where
    -- the log is as long as it was
    pub planned-long : length log' ≡ length log
    planned-long = ap length r.planned.list ∙ length-sets log at (flat (queued_plan p rows))

    -- all racks are planned
    pub planned-all : 64 ≤ p → waiting < 2 ^ 64 → PhasePlanned ends line bits log at line' (set bits 65 waiting) log' count
    planned-all l f =
        let e : p ≡ 64 = omega (arith, r.planned.few) in
        let s : Planned 64 ends line bits log at line' log' count waiting = rw e at r.planned in
        record {
          written = record { list = s.list; count-is = s.count-is };
          passed = s.passed;
          long = s.long;
          topped = topped-beside bits waiting b.bounded.topped f;
          same = beside-kept bits waiting;
          exact = λ q m. ap (λ (w : ℕ). bit_on w q) (get_or-set_same bits 65 waiting 0 (omega (arith, b.bounded.topped.long))) ∙ s.exact q m;
        }

    -- p's rack is next
    module _ (m : p < 64) where
      -- its numbers are those of the start
      head-is : head_of line' p ≡ head_of line p
      head-is = r.planned.passed.heads-rest p (omega arith) m

      room-is : (rows_of ends line' bits).rooms p ≡ rows.rooms p
      room-is = r.planned.passed.rooms-rest p (omega arith) m

      sent_is : sent (rows_of ends line' bits) p ≡ sent rows p
      unfolding sent
      sent_is = rw (head-is, room-is, r.planned.passed.tails-are p m)

      pairs-are : pairs_for (rows_of ends line' bits) p ≡ pairs_for rows p
      unfolding pairs_for
      pairs-are = rw (head-is, sent_is, r.planned.passed.queue-is)

      many : length (pairs_for rows p) ≡ sent rows p
      many = pairs-long rows p (b.bounded.racks p m) b.bounded.queue_long

      -- it can be visited
      pub next-visitable : Visitable (rows_of ends line' bits) p
      next-visitable = visit-same head-is (r.planned.passed.tails-are p m) refl room-is refl (b.bounded.racks p m)

      -- and its pairs fit the log
      pub next_fits : at + 2 * count + 2 * sent (rows_of ends line' bits) p ≤ length log'
      next_fits = omega (arith, r.planned.count-is, planned-long, queued_le rows 64 p m, b.fits, sent_is, many)

      -- the next to be visited lies behind it
      pub reached-up : {q left' : ℕ} → left' ≡ turned_off left p → NextOn (bit_on left') 0 64 q → p < q
      reached-up {q} {left'} i o =
          let a : Ahead (p + 1) (get_or bits 65 0) left' = rw i (ahead-off r.ahead) in
          omega (arith, ahead-up a o (omega arith))

      module _ {line'' log'' : List ℕ} {made : ℕ} (w : Visited ends line' bits p log' (at + 2 * count) line'' log'' made) where
        made-is : made ≡ sent rows p
        made-is = w.made-is ∙ sent_is

        -- the line is as long
        pub next-long : length line'' ≡ 4352
        next-long = ap length w.line-is ∙ visited-long line' r.planned.long p made m

        -- the pairs counted are no more than the log has room for
        pub next-count : 2 * (count + made) ≤ length log'
        next-count = omega (arith, next_fits, w.made-is)

        module _ {waiting' : ℕ} (e : waiting' ≡ pick (ltb (head_of line'' p) (tail_of line'' p)) waiting (turned_off waiting p)) where
          -- another rack's bit stays
          bit_kept : (q : ℕ) → (q ≡ p → ⊥) → bit_on waiting' q ≡ bit_on waiting q
          bit_kept q d = by-test (ltb (head_of line'' p) (tail_of line'' p))
              (λ t. rw (e, t))
              (λ t. rw (e, t) (turned-off-other waiting p q d))

          -- p's bit is on where a card is left in its queue
          bit-here : bit_on waiting' p ≡ ltb (head_of line'' p) (tail_of line'' p)
          bit-here = by-test (ltb (head_of line'' p) (tail_of line'' p))
              (λ t. rw (e, t) (r.hit m))
              (λ t. rw (e, t) (turned-off-here waiting p))

          -- p is planned
          planned-more : Planned (p + 1) ends line bits log at line'' log'' (count + made) waiting'
          planned-more =
              let s = r.planned in
              record {
                few = omega arith;
                list = w.list ∙ rw (pairs-are, queued-more rows p, flat_append (queued_plan p rows) (pairs_for rows p), sets-append log at (flat (queued_plan p rows)) (flat (pairs_for rows p)), length-flat (queued_plan p rows), s.list, s.count-is);
                count-is = rw (queued-more rows p, length-append) (omega (arith, s.count-is, made-is, many));
                passed = rw w.line-is passed;
                long = next-long;
                exact = λ q l. elim (ℕ_discrete q p) [
                  | yes i ↦ rw i bit-here
                  | no i ↦ bit_kept q i ∙ s.exact q (omega arith) ∙ rw (w.line-is, visited-heads line' s.long p made m q (omega arith) i, visited-tails line' s.long p made m q (omega arith))
                ];
                bits-rest = λ q l. bit_kept q (λ i. omega arith) ∙ s.bits-rest q (omega arith);
              }
            where
              passed : RacksPassed (p + 1) rows (rows_of ends (visited p made line') bits)
              passed =
                  let s = r.planned.passed in
                  let k = r.planned.long in
                  record {
                    queue-is = visited-queue line' k p made m ∙ s.queue-is;
                    tails-are = λ q l. visited-tails line' k p made m q l ∙ s.tails-are q l;
                    heads-are = λ q l. elim (ℕ_discrete q p) [
                      | yes i ↦ rw i (omega (arith, visited-head line' k p made m, head-is, made-is))
                      | no i ↦ visited-heads line' k p made m q (omega arith) i ∙ s.heads-are q (omega arith)
                    ];
                    rooms-are = λ q l. elim (ℕ_discrete q p) [
                      | yes i ↦ rw i (omega (arith, visited-room line' k p made m, room-is, made-is))
                      | no i ↦ visited-rooms line' k p made m q (omega arith) i ∙ s.rooms-are q (omega arith)
                    ];
                    heads-rest = λ q l i. visited-heads line' k p made m q i (λ j. omega arith) ∙ s.heads-rest q (omega arith) i;
                    rooms-rest = λ q l i. visited-rooms line' k p made m q i (λ j. omega arith) ∙ s.rooms-rest q (omega arith) i;
                  }

          -- and the next rack to be visited is reached
          pub reached-more : {q left' : ℕ} → left' ≡ turned_off left p → NextOn (bit_on left') 0 64 q
              → Reached q ends line bits log at line'' log'' (count + made) waiting' left'
          reached-more {q} {left'} i o = let a : Ahead (p + 1) (get_or bits 65 0) left' = rw i (ahead-off r.ahead) in reached-next planned-more a o
