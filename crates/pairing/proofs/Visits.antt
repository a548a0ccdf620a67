-- Laws of the line after a visit of a rack. Assumes nothing.
use mathlib.Core.Path.{◌≡◌, ◌∙◌}
use mathlib.Core.Logic.{◌≢◌}
use mathlib.Core.List.{List}
use Prim.Native.Nat.{ℕ, ◌+◌, ◌-◌, ◌<◌}
use native.Mathlib.Omega.{arith}
use lib.ListN.{length, get_or, set, length-set}
use lib.Seq.{get_or-set_same, get_or-set_other}
use Rattle.queues.specs.parts.Line.{queue_of, head_of, tail_of, room_of}
use Rattle.queues.proofs.Line.{queue-kept}
use Rattle.pairing.specs.parts.Phase.{visited}

-- rack p visited
module _ (line : List ℕ) (e : length line ≡ 4352) (p r : ℕ) (l : p < 64) where
  pub visited-long : length (visited p r line) ≡ 4352
  unfolding visited
  visited-long = length-set (set line (4160 + p) (head_of line p + r)) (4288 + p) (room_of line p - r) ∙ length-set line (4160 + p) (head_of line p + r) ∙ e

  pub visited-queue : queue_of (visited p r line) ≡ queue_of line
  unfolding visited
  visited-queue =
      queue-kept (set line (4160 + p) (head_of line p + r)) (4288 + p) (room_of line p - r) (omega arith)
      ∙ queue-kept line (4160 + p) (head_of line p + r) (omega arith)

  -- any number but its two
  visited_else : (k : ℕ) → k ≢ 4160 + p → k ≢ 4288 + p → get_or (visited p r line) k 0 ≡ get_or line k 0
  unfolding visited
  visited_else k a b =
      get_or-set_other (set line (4160 + p) (head_of line p + r)) (4288 + p) k (room_of line p - r) 0 b
      ∙ get_or-set_other line (4160 + p) k (head_of line p + r) 0 a

  pub visited-head : head_of (visited p r line) p ≡ head_of line p + r
  unfolding visited
  visited-head =
      get_or-set_other (set line (4160 + p) (head_of line p + r)) (4288 + p) (4160 + p) (room_of line p - r) 0 (λ q. omega arith)
      ∙ get_or-set_same line (4160 + p) (head_of line p + r) 0 (omega arith)

  pub visited-room : room_of (visited p r line) p ≡ room_of line p - r
  unfolding visited
  visited-room =
      get_or-set_same (set line (4160 + p) (head_of line p + r)) (4288 + p) (room_of line p - r) 0 (omega (arith, length-set line (4160 + p) (head_of line p + r)))

  pub visited-heads : (q : ℕ) → q < 64 → q ≢ p → head_of (visited p r line) q ≡ head_of line q
  visited-heads q m d = visited_else (4160 + q) (λ i. d (omega arith)) (λ i. omega arith)

  pub visited-tails : (q : ℕ) → q < 64 → tail_of (visited p r line) q ≡ tail_of line q
  visited-tails q m = visited_else (4224 + q) (λ i. omega arith) (λ i. omega arith)

  pub visited-rooms : (q : ℕ) → q < 64 → q ≢ p → room_of (visited p r line) q ≡ room_of line q
  visited-rooms q m d = visited_else (4288 + q) (λ i. omega arith) (λ i. d (omega arith))
