-- Text at the front of a buffer. Assumes nothing.
use mathlib.Core.Path.{◌≡◌}
use mathlib.Core.List.{List}
use Prim.Native.Nat.{ℕ, ◌≤◌}
use native.Mathlib.Omega.{arith}
use lib.ListN.{length, take}
use Rattle.counting.proofs.Stores.{take-front}
use Rattle.texts.specs.parts.Writing.{Wrote}

-- text at the front of the buffer is what stands before the position behind it
pub wrote-front : {a l m : List ℕ} {i j : ℕ} → Wrote a l i m j → i ≡ 0 → length a ≤ length l → take j m ≡ a
wrote-front {a} {l} {j = j} w z h = rw (w.stored, z) (take-front l a j (omega (arith, w.behind)) (omega (arith, w.behind)))
