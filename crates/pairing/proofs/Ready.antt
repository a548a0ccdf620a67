-- Rows that fit the table give the plan of the phase. Assumes nothing.
use mathlib.Core.Path.{◌≡◌, ap, ◌∙◌}
use mathlib.Core.List.{List, [], ◌++◌, append-nil}
use Prim.Native.Nat.{ℕ, zero, suc, ◌+◌, ◌-◌, ◌≤◌, ◌<◌, min}
use native.Mathlib.Omega.{arith}
use native.Mathlib.Nat.{add-zero}
use native.Mathlib.Decide.{dec_le}
use lib.ListN.{length, take, length-take}
use lib.Seq.{take_all, length-slice}
use Rattle.counting.specs.Lists.{tabulate, join, pair_up}
use Rattle.counting.proofs.Lists.{length-tabulate, get_d_tabulate, tabulate-is}
use Rattle.counting.proofs.Pairs.{pair_up-front, pair_up-take}
use Rattle.racks.specs.Racks.{Rack}
use Rattle.plans.specs.Plan.{plan_for, plan, open_slots}
use Rattle.plans.proofs.Grants.{length_open, plan_for-is}
use Rattle.queues.specs.parts.Queues.{Rows, part}
use Rattle.pairing.specs.parts.Phase.{served, sent, pairs_for, queued_plan}
use Rattle.queues.specs.parts.Ready.{Ready}
use Rattle.queues.proofs.Stretch.{part-take}
use Rattle.pairing.proofs.Pairing.{pairs-none, sent_le}
use Rattle.pairing.proofs.Planning.{queued-more}
use Rattle.queues.proofs.OpenSlots.{opens-front}

-- as many of a as there are of both, with b and more behind it: a with b
pair-front : (s : ℕ) (a b c : List ℕ) → s ≡ min (length b) (length a) → pair_up (take s a) (b ++ c) ≡ pair_up a b
pair-front s a b c e =
    pair_up-front (take s a) b c (omega (arith, length-take s a))
    ∙ elim (dec_le (length a) (length b)) [
      | yes l ↦ rw (take_all s a (omega arith))
      | no l ↦ let q : s ≡ length b = omega arith in rw q (pair_up-take a b)
    ]

module _ (racks : List Rack) (places : List ℕ) (rows : Rows) (r : Ready racks places rows) where
  -- a rack takes as many cards as there are of both
  many : (p : ℕ) → p < length racks → sent rows p ≡ min (length (open_slots racks places p)) (length (part rows.queue (rows.heads p) (rows.tails p)))
  unfolding sent part
  many p l =
      let v = r.bounded.racks p (omega (arith, r.few)) in
      omega (arith, r.rooms-are p l, length_open racks places p, length-slice (rows.heads p) (rows.tails p) rows.queue (omega (arith, v.within, r.bounded.queue_long)))

  -- the pairs of each target are those of the plan
  pub ready_for : (p : ℕ) → p < length racks → pairs_for rows p ≡ plan_for racks places p
  unfolding pairs_for served
  ready_for p l =
      let v = r.bounded.racks p (omega (arith, r.few)) in
      let a : List ℕ = part rows.queue (rows.heads p) (rows.tails p) in
      rw (part-take rows.queue (rows.heads p) (rows.tails p) (sent rows p) (sent_le rows p v), r.lows-are p l, opens-front racks places p l r.small rows.bits r.shown)
      (pair-front (sent rows p) a (open_slots racks places p) _ (many p l) ∙ rw (r.waits p l, plan_for-is racks places p))

  -- nor has any other rack a pair
  ready-none : (d : ℕ) → length racks + d ≤ 64 → queued_plan (length racks + d) rows ≡ queued_plan (length racks) rows
  ready-none zero l = rw add-zero
  ready-none (suc d) l =
      let p : ℕ = length racks + d in
      let e : length racks + suc d ≡ p + 1 = omega arith in
      rw e (queued-more rows p ∙ rw (pairs-none rows p (omega (arith, r.others p (omega arith) (omega arith))), append-nil) (ready-none d (omega arith)))

  -- and so are all together
  pub ready-plan : queued_plan 64 rows ≡ plan racks places
  unfolding queued_plan plan
  ready-plan =
      let e : 64 ≡ length racks + (64 - length racks) = omega (arith, r.few) in
      ap (λ (n : ℕ). queued_plan n rows) e ∙ ready-none (64 - length racks) (omega (arith, r.few)) ∙ all
    where
      all : queued_plan (length racks) rows ≡ plan racks places
      all = ap join (tabulate-is (length racks) (plan_for racks places) (tabulate (length racks) (pairs_for rows)) [] (length-tabulate _ (pairs_for rows))
          (λ k l. get_d_tabulate _ (pairs_for rows) k [] l ∙ ready_for k l))
