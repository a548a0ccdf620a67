-- The line read after a store: a store of one kind of number leaves the others. Assumes nothing.
use mathlib.Core.Path.{◌≡◌, sym, ◌∙◌}
use mathlib.Core.Logic.{◌≢◌}
use mathlib.Core.List.{List}
use Prim.Native.Nat.{ℕ, ◌+◌, ◌≤◌, ◌<◌}
use native.Mathlib.Omega.{arith}
use lib.ListN.{length, get_or, set, replicate, length-set, length-replicate}
use lib.Seq.{length-take-le, take-set-le, take-set-lt, get_or-take, get_or-set_same, get_or-set_other, ext_get_or}
use Rattle.counting.proofs.Lists.{zeros}
use Rattle.queues.specs.parts.Line.{Blank, queue_of, head_of, tail_of, room_of}
use Rattle.queues.specs.parts.Queued.{placed}

-- a list of zeros
pub blank-is : {n : ℕ} {list : List ℕ} → Blank n list → list ≡ replicate n 0
blank-is {n} {list} e = ext_get_or 0 list (replicate n 0) (e.long ∙ sym (length-replicate {A = ℕ} n 0)) (λ k _. e.zero k ∙ sym (zeros n k))

pub blank-zeros : (n : ℕ) → Blank n (replicate n 0)
blank-zeros n = record { zero = zeros n; long = length-replicate {A = ℕ} n 0 }

module _ (line : List ℕ) where
  -- the queues have their places
  pub queue_long : length line ≡ 4352 → length (queue_of line) ≡ 4160
  unfolding queue_of
  queue_long e = length-take-le 4160 line (omega arith)

  -- the queues read in the line
  pub queue-get : (h : ℕ) → h < 4160 → get_or line h 0 ≡ get_or (queue_of line) h 0
  unfolding queue_of
  queue-get h l = rw (get_or-take 4160 line h 0 l)

  -- a store behind the queues leaves them
  pub queue-kept : (i x : ℕ) → 4160 ≤ i → queue_of (set line i x) ≡ queue_of line
  unfolding queue_of
  queue-kept i x l = take-set-le 4160 line i x l

  -- a store in them is one of theirs
  pub queue-stored : (i x : ℕ) → i < 4160 → queue_of (set line i x) ≡ set (queue_of line) i x
  unfolding queue_of
  queue-stored i x l = take-set-lt 4160 line i x l

-- rack p placed
module _ (line : List ℕ) (e : length line ≡ 4352) (p low rooms : ℕ) (l : p < 64) where
  a : List ℕ
  a = set line (4160 + p) (low + p)

  b : List ℕ
  b = set a (4224 + p) (low + p)

  a-long : length a ≡ 4352
  unfolding a
  a-long = length-set line (4160 + p) (low + p) ∙ e

  b-long : length b ≡ 4352
  unfolding b
  b-long = length-set a (4224 + p) (low + p) ∙ a-long

  pub placed-long : length (placed p low rooms line) ≡ 4352
  unfolding placed a b
  placed-long = length-set b (4288 + p) rooms ∙ b-long

  pub placed_else : (k : ℕ) → k ≢ 4160 + p → k ≢ 4224 + p → k ≢ 4288 + p → get_or (placed p low rooms line) k 0 ≡ get_or line k 0
  unfolding placed a b
  placed_else k h t r =
      get_or-set_other b (4288 + p) k rooms 0 r ∙ get_or-set_other a (4224 + p) k (low + p) 0 t ∙ get_or-set_other line (4160 + p) k (low + p) 0 h

  pub placed-head : head_of (placed p low rooms line) p ≡ low + p
  unfolding placed a b
  placed-head =
      get_or-set_other b (4288 + p) (4160 + p) rooms 0 (λ q. omega arith) ∙ get_or-set_other a (4224 + p) (4160 + p) (low + p) 0 (λ q. omega arith)
      ∙ get_or-set_same line (4160 + p) (low + p) 0 (omega arith)

  pub placed-tail : tail_of (placed p low rooms line) p ≡ low + p
  unfolding placed a b
  placed-tail =
      get_or-set_other b (4288 + p) (4224 + p) rooms 0 (λ q. omega arith) ∙ get_or-set_same a (4224 + p) (low + p) 0 (omega (arith, a-long))

  pub placed-room : room_of (placed p low rooms line) p ≡ rooms
  unfolding placed a b
  placed-room = get_or-set_same b (4288 + p) rooms 0 (omega (arith, b-long))
