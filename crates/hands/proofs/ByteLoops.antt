-- A card's bytes, as they are taken and laid. Assumes nothing.
use mathlib.Core.Path.{◌≡◌}
use mathlib.Core.List.{List, ◌++◌}
use Prim.Native.Nat.{ℕ, ◌*◌, ◌≤◌}
use native.Mathlib.Omega.{arith}
use lib.ListN.{length, take, drop, length-append, length-drop}
use lib.Seq.{sets, take_at}
use Rattle.moves.specs.Blocks.{put_block}

-- the bytes taken to the front of a list, which stays as long
pub front_is : (b : ℕ) (hand bytes front : List ℕ) → front ≡ bytes → length bytes ≡ b → b ≤ length hand → (take b (front ++ drop b hand) ≡ bytes) × (length (front ++ drop b hand) ≡ length hand)
front_is b hand bytes front e n fits =
    rw e (take_at bytes (drop b hand) b n, omega (arith, n, length-append bytes (drop b hand), length-drop b hand))

-- the bytes stored, as the slot's
pub put_is : (b t : ℕ) (bytes cards now : List ℕ) → now ≡ sets cards (t * b) bytes → now ≡ put_block b t bytes cards
unfolding put_block
put_is b t bytes cards now e = e
