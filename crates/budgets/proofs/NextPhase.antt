-- After a phase carried whole the rows fit the new table. Assumes nothing.
use mathlib.Core.Path.{◌≡◌, refl, sym, ap, ◌∙◌}
use mathlib.Core.List.{List, []}
use mathlib.Core.Logic.{◌≢◌}
use Prim.Native.Nat.{ℕ, zero, suc, ◌+◌, ◌≤◌, ◌<◌}
use native.Mathlib.Omega.{arith}
use native.Mathlib.Decide.{ℕ_discrete, dec_lt}
use lib.ListN.{length}
use borrow.Author.Tests.{eq-eqb, ne_eqb}
use Rattle.counting.specs.Lists.{Pair, tabulate, join, matching}
use Rattle.counting.specs.Every.{All}
use Rattle.counting.specs.Every.All.{more, none}
use Rattle.counting.proofs.Every.{all_map}
use Rattle.counting.proofs.Lists.{matching-append, join_more}
use Rattle.racks.specs.Racks.{Rack, rack_of}
use Rattle.racks.specs.parts.Legal.{Legal}
use Rattle.racks.proofs.Away.{on-rack}
use Rattle.tables.specs.parts.Tables.{Filled}
use Rattle.plans.specs.Plan.{plan_for, plan, room}
use Rattle.plans.proofs.Plans.{plan_for_serves, plan-allowed, plan-apart}
use Rattle.bits.specs.parts.Bits.{bit_on}
use Rattle.queues.specs.parts.Line.{head_of, tail_of, room_of}
use Rattle.queues.specs.parts.Queues.{Rows, rows_of, Visitable}
use Rattle.pairing.specs.parts.Phase.{sent, PhasePlanned}
use Rattle.queues.specs.parts.Ready.{Ready}
use Rattle.queues.proofs.Stretch.{part-drop}
use Rattle.pairing.proofs.Pairing.{sent_le, pairs-long}
use Rattle.queues.proofs.OpenSlots.{opens-roomy}
use Rattle.pairing.proofs.Ready.{ready_for}
use Rattle.queues.proofs.Line.{queue_long}
use Rattle.moves.specs.Moves.{carried_places}
use Rattle.moves.specs.Turns.{InTurn}
use Rattle.moves.proofs.Carry.{pairs_in-turn}
use Rattle.moves.proofs.Rooms.{lands}
use Rattle.moves.proofs.Waits.{waits-carried}
use Rattle.budgets.specs.parts.Engine.{noted, noted_line}
use Rattle.budgets.proofs.Shows.{Midway, midway-carried}

-- moves that all land on rack q
module _ (racks : List Rack) (p q : ℕ) where
  land-all : {ms : List Pair} → All (λ (m : Pair). rack_of racks m.1 ≡ q) ms → q ≡ p → matching (lands racks p) ms ≡ length ms
  unfolding matching lands
  land-all none e = refl
  land-all (more {x} h r) e = rw (eq-eqb (rack_of racks x.1) p (h ∙ e)) (omega (arith, land-all r e))

  land-none : {ms : List Pair} → All (λ (m : Pair). rack_of racks m.1 ≡ q) ms → q ≢ p → matching (lands racks p) ms ≡ 0
  unfolding matching lands
  land-none none d = refl
  land-none (more {x} h r) d = rw (ne_eqb (rack_of racks x.1) p (λ e. d (sym h ∙ e))) (omega (arith, land-none r d))

module _ (racks : List Rack) (places : List ℕ) where
  -- the pairs of target q land on q
  lands-on : (q : ℕ) → All (λ (m : Pair). rack_of racks m.1 ≡ q) (plan_for racks places q)
  lands-on q = all_map (λ m s. on-rack racks places q m.1 s.1.1) (plan_for_serves racks places q)

  -- of the first n targets' pairs, those of p land on p
  lands-less : (p n : ℕ) → n ≤ p → matching (lands racks p) (join (tabulate n (plan_for racks places))) ≡ 0
  unfolding tabulate join matching
  lands-less p zero l = refl
  lands-less p (suc n) l = rw (join_more n (plan_for racks places), matching-append) (omega (arith, lands-less p n (omega arith), land-none racks p n (lands-on n) (λ e. omega arith)))

  lands_in : (p n : ℕ) → p < n → matching (lands racks p) (join (tabulate n (plan_for racks places))) ≡ length (plan_for racks places p)
  lands_in p zero l = absurd (omega arith)
  lands_in p (suc n) l = rw (join_more n (plan_for racks places), matching-append) (elim (ℕ_discrete n p) [
    | yes e ↦ rw e (omega (arith, lands-less p p (omega arith), land-all racks p p (lands-on p) refl))
    | no d ↦ omega (arith, lands_in p n (omega arith), land-none racks p n (lands-on n) d)
  ])

  -- as many moves of the plan land on p as p has pairs
  pub plan-lands : (p : ℕ) → p < length racks → matching (lands racks p) (plan racks places) ≡ length (plan_for racks places p)
  unfolding plan
  plan-lands p l = lands_in p (length racks) l

-- the moves of the plan, each allowed when its turn comes
pub plan_in-turn : {racks : List Rack} {places : List ℕ} → Legal racks places → InTurn racks places (plan racks places)
plan_in-turn {racks} {places} l = pairs_in-turn l (plan-apart racks places) (plan-allowed racks places)

module _ {racks : List Rack} {places ends line bits : List ℕ} (l : Legal racks places) (r : Ready racks places (rows_of ends line bits)) (racking : List ℕ) (filled : Filled racks racking)
    {log : List ℕ} {at : ℕ} {line₁ bits₁ log' : List ℕ} {count : ℕ} (d : PhasePlanned ends line bits log at line₁ bits₁ log' count) where
  abbrev rows : Rows
  rows = rows_of ends line bits

  abbrev places' : List ℕ
  places' = carried_places (plan racks places) places

  abbrev line' : List ℕ
  line' = noted_line racking (plan racks places) line₁

  abbrev bits' : List ℕ
  bits' = noted (plan racks places) bits₁

  visit : (p : ℕ) → p < 64 → Visitable rows p
  visit p m = r.bounded.racks p m

  -- a rack takes as many cards as it has pairs
  sent_is : (p : ℕ) → p < length racks → sent rows p ≡ length (plan_for racks places p)
  sent_is p h =
      sym (pairs-long rows p (visit p (omega (arith, r.few))) r.bounded.queue_long) ∙ ap length (ready_for racks places rows r p h)

  -- planned, but not noted yet
  midway : Midway racks line₁ bits₁ places (plan racks places) line₁ bits₁
  unfolding sent
  midway = record {
    topped = d.topped;
    shown = λ k h. d.same k (omega (arith, r.small)) ∙ r.shown k h;
    waiting-same = refl;
    rooms-are = λ p h. omega (arith, d.passed.rooms-are p (omega (arith, r.few)), plan-lands racks places p h, sent_is p h, r.rooms-are p h);
    rooms_same = λ p h i. refl;
    heads-same = λ p h. refl;
    tails-same = λ p h. refl;
    queue-same = refl;
    long = d.long;
  }

  end : Midway racks line₁ bits₁ places' [] line' bits'
  end = midway-carried r.small r.few racking filled l (plan_in-turn l) midway

  head-is : (p : ℕ) → p < 64 → head_of line' p ≡ head_of line p + sent rows p
  head-is p m = end.heads-same p m ∙ d.passed.heads-are p m

  tail-is : (p : ℕ) → p < 64 → tail_of line' p ≡ tail_of line p
  tail-is p m = end.tails-same p m ∙ d.passed.tails-are p m

  queue-is : (rows_of ends line' bits').queue ≡ rows.queue
  queue-is = end.queue-same ∙ d.passed.queue-is

  room-is : (p : ℕ) → p < length racks → room_of line' p ≡ room racks places' p
  unfolding matching
  room-is p h = omega (arith, end.rooms-are p h)

  room-none : (p : ℕ) → length racks ≤ p → p < 64 → room_of line' p ≡ 0
  room-none p h m = end.rooms_same p h m ∙ omega (arith, d.passed.rooms-are p m, r.others-full p h m)

  visitable : (p : ℕ) → p < 64 → Visitable (rows_of ends line' bits') p
  visitable p m =
      let v = visit p m in
      record {
        queued = omega (arith, head-is p m, tail-is p m, sent_le rows p v);
        within = omega (arith, tail-is p m, v.within);
        low_in = v.low_in;
        roomy = elim (dec_lt p (length racks)) [
          | yes h ↦ rw (r.lows-are p h) (omega (arith, room-is p h, opens-roomy racks places' p h r.small bits' end.shown))
          | no h ↦ omega (arith, room-none p (omega arith) m)
        ];
      }

  -- the rows fit the table after the phase
  pub ready-next : Ready racks places' (rows_of ends line' bits')
  ready-next =
      record {
        bounded =
            record {
              queue_long = queue_long line' end.long;
              racks = visitable;
              topped = end.topped;
              exact = λ p m. ap (λ (w : ℕ). bit_on w p) end.waiting-same ∙ d.exact p m ∙ rw (end.heads-same p m, end.tails-same p m);
            };
        few = r.few;
        small = r.small;
        waits = λ p h.
            let m : p < 64 = omega (arith, r.few) in
            rw (queue-is, head-is p m, tail-is p m, part-drop rows.queue (rows.heads p) (rows.tails p) (sent rows p), r.waits p h, sent_is p h)
            (sym (waits-carried racks places l (plan_in-turn l) p h));
        shown = end.shown;
        rooms-are = room-is;
        lows-are = r.lows-are;
        others = λ p h m. omega (arith, head-is p m, tail-is p m, r.others p h m, sent_le rows p (visit p m));
        others-full = room-none;
      }

  -- the line has its length
  pub next-long : length line' ≡ 4352
  next-long = end.long
