-- The bytes of slots in a buffer of n slots: what a slot holds after a store, and after a move. Assumes nothing.
use mathlib.Core.Path.{◌≡◌, sym, ◌∙◌}
use mathlib.Core.Logic.{◌≢◌}
use mathlib.Core.List.{List, ◌++◌, append_assoc}
use Prim.Native.Nat.{ℕ, zero, suc, ◌+◌, ◌*◌, ◌-◌, ◌≤◌, ◌<◌}
use native.Mathlib.Nat.{suc-mul, zero-mul, mul-le-mul_right, add_comm}
use native.Mathlib.Omega.{arith}
use native.Mathlib.Decide.{ℕ_discrete, dec_lt}
use lib.ListN.{length, get_or, take, drop, length-take, length-drop, length-replicate, take-append-drop}
use lib.Seq.{sets-eq, length-sets, take_at, drop_at, drop-drop, ext_get_or, get_or-take, get_or-drop, length-take-le}
use Rattle.counting.specs.Lists.{Pair}
use Rattle.counting.proofs.Stores.{sets_else}
use Rattle.moves.specs.Blocks.{block, put_block, blank}
use Rattle.moves.specs.Moves.{moved_cards}
use Rattle.moves.proofs.Pairs.{Moved, Ends}

-- a slot below another ends where that one begins, or before
pub below : (b g t : ℕ) → g < t → g * b + b ≤ t * b
below b g t h = rw suc-mul at (mul-le-mul_right b h)

-- a slot's bytes in the buffer
module _ (b g : ℕ) (cards : List ℕ) where
  -- one of them
  pub block_at : (i : ℕ) → i < b → get_or (block b g cards) i 0 ≡ get_or cards (g * b + i) 0
  unfolding block
  block_at i l = get_or-take b (drop (g * b) cards) i 0 l ∙ get_or-drop (g * b) cards i 0

  -- there are b
  pub block-long : g * b + b ≤ length cards → length (block b g cards) ≡ b
  unfolding block
  block-long l = length-take-le b (drop (g * b) cards) (simp length-drop (omega arith))

  -- as the code takes a part of the buffer, from one end to the other
  pub block-part : take (g * b + b - g * b) (drop (g * b) cards) ≡ block b g cards
  unfolding block
  block-part = let e : g * b + b - g * b ≡ b = omega arith in rw e

-- a store keeps the length of the buffer
pub length-put : (b g : ℕ) (bytes cards : List ℕ) → length (put_block b g bytes cards) ≡ length cards
unfolding put_block
length-put b g bytes cards = length-sets cards (g * b) bytes

-- a move keeps the length of the buffer
pub length-moved-cards : (b : ℕ) (m : Pair) (cards : List ℕ) → length (moved_cards b m cards) ≡ length cards
unfolding moved_cards
length-moved-cards b m cards = simp length-put

-- b zero bytes are b bytes long
pub length-blank : (b : ℕ) → length (blank b) ≡ b
unfolding blank
length-blank b = length-replicate b 0

-- a store into another slot leaves a slot's bytes
pub block-other : (b g t : ℕ) (bytes cards : List ℕ) → length bytes ≡ b → g ≢ t → block b g (put_block b t bytes cards) ≡ block b g cards
unfolding block put_block
block-other b g t bytes cards e n =
    ext_get_or 0 _ _ (simp (length-take, length-drop, length-sets))
    (λ i lt. let k : i < b = omega (arith, simp (length-take, length-drop, length-sets) at lt) in
    rw (get_or-take, get_or-take, get_or-drop, get_or-drop)
    (sets_else bytes cards (t * b) (g * b + i) (λ m. elim (dec_lt g t) [
      | yes h ↦ absurd (omega (arith, below b g t h))
      | no h ↦ omega (arith, below b t g (omega arith))
    ])))

-- two buffers of n slots are equal when all their slots have the same bytes
pub blocks_ext : (b n : ℕ) (a c : List ℕ) → length a ≡ n * b → length c ≡ n * b → ((g : ℕ) → g < n → block b g a ≡ block b g c) → a ≡ c
unfolding block
blocks_ext b zero a c x y h = ext_get_or 0 a c (x ∙ sym y) (λ i lt. absurd (omega (arith, zero-mul b)))
blocks_ext b (suc n) a c x y h =
    sym (take-append-drop b a)
    ∙ rw (
      rw zero-mul at (h 0 (omega arith)),
      blocks_ext b n (drop b a) (drop b c) (simp length-drop (omega (arith, suc-mul n b))) (simp length-drop (omega (arith, suc-mul n b)))
          (λ g lt. rw (drop-drop, drop-drop, add_comm b (g * b), ← suc-mul) (h (suc g) (omega arith))),
    ) (take-append-drop b c)

-- a buffer of n slots of b bytes
module _ (b n : ℕ) where
  -- a slot lies within the buffer
  pub within : (g : ℕ) (cards : List ℕ) → length cards ≡ n * b → g < n → g * b + b ≤ length cards
  within g cards sized h = omega (arith, below b g n h)

  -- a slot has b bytes
  pub length-block : (g : ℕ) (cards : List ℕ) → length cards ≡ n * b → g < n → length (block b g cards) ≡ b
  unfolding block
  length-block g cards sized h = block-long b g cards (within g cards sized h)

  -- the slot stored into has the bytes stored
  pub block_same : (g : ℕ) (bytes cards : List ℕ) → length cards ≡ n * b → g < n → length bytes ≡ b → block b g (put_block b g bytes cards) ≡ bytes
  unfolding block put_block
  block_same g bytes cards sized h e =
      let fits : g * b + length bytes ≤ length cards = omega (arith, within g cards sized h) in
      rw (
        sets-eq bytes cards (g * b),
        append_assoc,
        drop_at (take (g * b) cards) (bytes ++ drop (g * b + length bytes) cards) (g * b) (length-take-le (g * b) cards (omega arith)),
      ) (take_at bytes (drop (g * b + length bytes) cards) b e)

  -- stores into two slots may change places
  pub put_comm : (t u : ℕ) (x y cards : List ℕ) → length cards ≡ n * b → length x ≡ b → length y ≡ b → t ≢ u
      → put_block b t x (put_block b u y cards) ≡ put_block b u y (put_block b t x cards)
  put_comm t u x y cards sized ex ey d =
      let d' : u ≢ t = λ e. d (sym e) in
      blocks_ext b n _ _ (simp length-put sized) (simp length-put sized) (λ g h. elim (ℕ_discrete g t) [
        | yes e ↦
            rw e
            (block_same t x (put_block b u y cards) (simp length-put sized) (rw e at h) ex
            ∙ sym (block-other b t u y (put_block b t x cards) ey d ∙ block_same t x cards sized (rw e at h) ex))
        | no nt ↦ elim (ℕ_discrete g u) [
          | yes e ↦
              rw e
              (block-other b u t x (put_block b u y cards) ex d' ∙ block_same u y cards sized (rw e at h) ey
              ∙ sym (block_same u y (put_block b t x cards) (simp length-put sized) (rw e at h) ey))
          | no nu ↦
              block-other b g t x (put_block b u y cards) ex nt ∙ block-other b g u y cards ey nu
              ∙ sym (block-other b g u y (put_block b t x cards) ey nu ∙ block-other b g t x cards ex nt)
        ]
      ])

  -- after a move the target has the card's bytes, the source is all zero, any other slot has what it had
  pub moved-cards : {m : Pair} (cards : List ℕ) → length cards ≡ n * b → Ends n m → Moved (blank b) m (λ g. block b g cards) (λ g. block b g (moved_cards b m cards))
  unfolding moved_cards
  moved-cards {m} cards sized e =
      let bytes : List ℕ = block b m.0 cards in
      let long : length bytes ≡ b = length-block m.0 cards sized e.from_lt in
      let middle : List ℕ = put_block b m.1 bytes cards in
      record {
        at_from = block_same m.0 (blank b) middle (simp length-put sized) e.from_lt (length-blank b);
        at-to =
            block-other b m.1 m.0 (blank b) middle (length-blank b) (λ q. e.differ (sym q))
            ∙ block_same m.1 bytes cards sized e.to_lt long;
        other = λ g p q. block-other b g m.0 (blank b) middle (length-blank b) p ∙ block-other b g m.1 bytes cards long q;
      }
