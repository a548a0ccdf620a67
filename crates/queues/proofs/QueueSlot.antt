-- One slot of the pass, as the code makes it without a branch: what it needs, and what it does. Assumes nothing.
use mathlib.Core.Path.{◌≡◌, sym, ap, ◌∙◌}
use mathlib.Core.Bool.{not}
use mathlib.Core.Logic.{◌≢◌}
use mathlib.Core.List.{List}
use Prim.Native.Nat.{ℕ, ◌+◌, ◌≤◌, ◌<◌}
use native.Mathlib.Omega.{arith}
use lib.Dec.{eqb}
use lib.ListN.{length, get_or, set, length-set}
use lib.Seq.{get_or-set_same, get_or-set_other}
use Rattle.counting.specs.Tests.{bit}
use Rattle.racks.specs.Table.{dest}
use Rattle.tables.specs.parts.Tables.{named_slot, target, away_by, Aimed}
use Rattle.tables.proofs.Targets.{at_target, at-away, aim-is}
use Rattle.queues.specs.parts.Line.{queue_of, tail_of}
use Rattle.queues.specs.parts.Queued.{queued, Queueable}
use Rattle.queues.proofs.Counts.{more_by}
use Rattle.queues.proofs.Line.{queue-kept, queue-stored}

-- a slot stored at the tail of rack p's queue, and the tail
abbrev pub stored : List ℕ → ℕ → ℕ → ℕ → List ℕ
stored line p g y = set (set line (tail_of line p) g) (4224 + p) y

-- a line in which the tail of rack p's queue lies in the queues
module _ (line : List ℕ) (p g y : ℕ) (e : length line ≡ 4352) (m : p < 64) (f : tail_of line p < 4160) where
  pub stored-long : length (stored line p g y) ≡ 4352
  stored-long = length-set (set line (tail_of line p) g) (4224 + p) y ∙ length-set line (tail_of line p) g ∙ e

  pub stored-queue : queue_of (stored line p g y) ≡ set (queue_of line) (tail_of line p) g
  stored-queue = queue-kept (set line (tail_of line p) g) (4224 + p) y (omega arith) ∙ queue-stored line (tail_of line p) g f

  pub stored-tail : tail_of (stored line p g y) p ≡ y
  stored-tail = get_or-set_same (set line (tail_of line p) g) (4224 + p) y 0 (omega (arith, length-set line (tail_of line p) g))

  pub stored_else : (k : ℕ) → 4160 ≤ k → k ≢ 4224 + p → get_or (stored line p g y) k 0 ≡ get_or line k 0
  stored_else k l d =
      get_or-set_other (set line (tail_of line p) g) (4224 + p) k y 0 d
      ∙ get_or-set_other line (tail_of line p) k g 0 (λ i. omega arith)

-- what slot g does, with 0 or 1 added to the tail
pub queued-is : (racking places : List ℕ) (g : ℕ) (line : List ℕ) → Queueable racking places g line
    → queued racking places g line ≡ stored line (target racking places g) g (tail_of line (target racking places g) + bit (away_by racking places g))
unfolding queued
queued-is racking places g line q =
    let p : ℕ = target racking places g in
    let l : List ℕ = set line (tail_of line p) g in
    let same : get_or l (4224 + p) 0 ≡ tail_of line p = get_or-set_other line (tail_of line p) (4224 + p) g 0 (λ i. omega (arith, q.fits)) in
    sym (more_by (away_by racking places g) (4224 + p) l) ∙ ap (λ (t : ℕ). set l (4224 + p) (t + bit (away_by racking places g))) same

-- n is the slot that slot g's entry names, as the code reads it
module _ (racking places : List ℕ) (g n : ℕ) (en : n ≡ named_slot g (get_or places g 0)) (line : List ℕ) (q : Queueable racking places g line) where
  -- it can be looked at
  pub aims : Aimed racking places g
  aims = record { slot = q.slot; small = q.small; rack = q.rack; named = q.named; racked = q.racked }

  aim : n ≡ named_slot g (dest places g)
  aim = aim-is racking places g aims n en

  -- the line at the tail of that rack's queue
  pub slot-fits : tail_of line (get_or racking n 0) < 4160
  slot-fits = rw (at_target racking places g n aim) q.fits

  -- each store is made, and adds 0 where nothing is to be added
  pub queued-slot : (x : ℕ) → x ≡ bit (not (eqb (get_or racking g 0) (get_or racking n 0)))
      → stored line (get_or racking n 0) g (tail_of line (get_or racking n 0) + x) ≡ queued racking places g line
  queued-slot x ex = rw (ex, at-away racking places g n aim, at_target racking places g n aim) (sym (queued-is racking places g line q))
