-- A card copied and a slot blanked, as the code stores their bytes. Assumes nothing.
use mathlib.Core.Path.{◌≡◌, sym, ◌∙◌}
use mathlib.Core.List.{List}
use Prim.Native.Nat.{ℕ, ◌+◌, ◌*◌, ◌-◌, ◌≤◌, ◌<◌}
use native.Mathlib.Nat.{mul-le-mul_right}
use native.Mathlib.Decide.{dec_lt}
use native.Mathlib.Omega.{arith}
use lib.ListN.{length, take, drop, get_or, set, replicate, length-drop, length-replicate}
use lib.Seq.{sets, get_or-drop, length-take-le}
use borrow.Rule.Slice.PartMut.{put_mid}
use Rattle.counting.proofs.Stores.{sets-take, sets_else}
use Rattle.moves.specs.Blocks.{block, put_block, blank}
use Rattle.moves.proofs.Blocks.{below}
use Rattle.racks.proofs.Puts.{sets-mid}

-- each of n slots lies inside a buffer of n cards
pub inside : (b g n len : ℕ) → g < n → n * b ≡ len → g * b + b ≤ len
inside b g n len h e = rw (← e) (below b g n h)

-- one byte more of a card is copied: what is read is as it was, since what was written lies wholly before it or behind it
pub copy_more : (b f t i : ℕ) (lent cards : List ℕ) → i < b → f * b + b ≤ length lent → cards ≡ sets lent (t * b) (take i (drop (f * b) lent))
    → set cards (t * b + i) (get_or cards (f * b + i) 0) ≡ sets lent (t * b) (take (i + 1) (drop (f * b) lent))
copy_more b f t i lent cards h fits e =
    let s : List ℕ = drop (f * b) lent in
    let n : i < length s = simp length-drop (omega arith) in
    let m : length (take i s) ≡ i = length-take-le i s (omega arith) in
    let old : get_or (sets lent (t * b) (take i s)) (f * b + i) 0 ≡ get_or lent (f * b + i) 0 =
    elim (dec_lt f t) [
      | yes less ↦ sets_else (take i s) lent (t * b) (f * b + i) (λ q. absurd (omega (arith, below b f t less)))
      | no more ↦ sets_else (take i s) lent (t * b) (f * b + i) (λ q. omega (arith, mul-le-mul_right {m = t} {n = f} b (omega arith)))
    ] in
    rw (e, old, ← get_or-drop (f * b) lent i 0) (sym (sets-take s lent (t * b) i n))

-- all its bytes are
pub copy_done : (b f t i : ℕ) (lent cards : List ℕ) → cards ≡ sets lent (t * b) (take i (drop (f * b) lent)) → i ≡ b → cards ≡ put_block b t (block b f lent) lent
unfolding put_block block
copy_done b f t i lent cards h e = h ∙ rw e

-- a card's bytes all filled with zeros
pub filled : (b g n : ℕ) (cards zeros : List ℕ) → g * b + b ≤ length cards → zeros ≡ replicate n 0 → n ≡ b
    → put_mid (g * b) (g * b + b - g * b) cards zeros ≡ put_block b g (blank b) cards
unfolding put_block blank
filled b g n cards zeros fits e m =
    let long : length (replicate b 0) ≡ b = length-replicate {A = ℕ} b 0 in
    rw (e, m) (rw long at (sets-mid cards (replicate b 0) (g * b) (omega arith)))
