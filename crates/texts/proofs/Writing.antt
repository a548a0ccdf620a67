-- Laws of text written into a buffer: text behind text, and what is left to write. Assumes nothing.
use mathlib.Core.Path.{◌≡◌, refl, ap, ◌∙◌}
use mathlib.Core.List.{List, [], ◌++◌}
use Prim.Native.Nat.{ℕ, ◌+◌, ◌≤◌, ◌<◌}
use native.Mathlib.Omega.{arith}
use native.Mathlib.Numerals.{add-one}
use lib.ListN.{length, drop, get_or, length-append, drop_of_length-le}
use Rattle.counting.specs.Lists.{join, each}
use lib.Seq.{sets, length-sets, drop-cons}
use Rattle.counting.proofs.Stores.{sets-append}
use Rattle.texts.specs.parts.Writing.{Reaches, Wrote}

-- what fits, its first part fits
pub room-first : (a b l : List ℕ) (i : ℕ) → Reaches (a ++ b) i l → Reaches a i l
room-first a b l i h = omega (arith, length-append a b)

module _ {a l m : List ℕ} {i j : ℕ} where
  -- text keeps the length of the buffer
  pub wrote-length : Wrote a l i m j → length m ≡ length l
  wrote-length w = ap length w.stored ∙ length-sets l i a

  -- what fits, its second part fits behind the first
  pub room_next : (b : List ℕ) → Wrote a l i m j → Reaches (a ++ b) i l → Reaches b j m
  room_next b w h = omega (arith, length-append a b, wrote-length w, w.behind)

  -- text, and then other text behind it
  pub wrote_then : {b n : List ℕ} {k : ℕ} → Wrote a l i m j → Wrote b m j n k → Wrote (a ++ b) l i n k
  wrote_then {b} {n} {k} v w = record {
    stored = w.stored ∙ rw (v.stored, v.behind, sets-append l i a b);
    behind = omega (arith, length-append a b, v.behind, w.behind);
  }

-- with `rest` from `at` on, the buffer is as with all the words from `start` on
pub record Left (rest out : List ℕ) (at : ℕ) (words before : List ℕ) (start : ℕ) : Type 0 where
  pub to_store : sets out at rest ≡ sets before start words
  pub to_end : at + length rest ≡ start + length words
  pub kept : length out ≡ length before

-- at first all is left
pub left-first : (words l : List ℕ) (i : ℕ) → Left words l i words l i
left-first words l i = record { to_store = refl; to_end = refl; kept = refl }

module _ {words l m : List ℕ} {i j : ℕ} where
  -- what is left fits
  pub left-room : {rest : List ℕ} → Left rest m j words l i → Reaches words i l → Reaches rest j m
  left-room left h = omega (arith, left.to_end, left.kept)

  -- the first part of what is left is written
  pub left-next : {a rest n : List ℕ} {k : ℕ} → Left (a ++ rest) m j words l i → Wrote a m j n k → Left rest n k words l i
  left-next {a} {rest} {n} {k} left w = record {
    to_store = rw (w.stored, w.behind, ← sets-append m j a rest) left.to_store;
    to_end = omega (arith, length-append a rest, left.to_end, w.behind);
    kept = wrote-length w ∙ left.kept;
  }

  -- nothing is left
  pub left-done : Left [] m j words l i → Wrote words l i m j
  left-done left = record { stored = left.to_store; behind = omega (arith, left.to_end) }

-- a list's items written one by one: those from item j on are left
module _ {A : Type 0} (f : A → List ℕ) (xs : List A) (other : A) (j : ℕ) {l m : List ℕ} {start at : ℕ} (left : Left (join (each f (drop j xs))) m at (join (each f xs)) l start) where
  -- the first that is left, and those after it
  items-more : j < length xs → join (each f (drop j xs)) ≡ f (get_or xs j other) ++ join (each f (drop (j + 1) xs))
  unfolding join each
  items-more h = rw (drop-cons xs j other h, add-one)

  -- no item is left
  items-none : length xs ≤ j → join (each f (drop j xs)) ≡ []
  unfolding join each
  items-none h = rw (drop_of_length-le xs {i = j} h)

  -- the first that is left fits
  pub item-room : j < length xs → Reaches (join (each f xs)) start l → Reaches (f (get_or xs j other)) at m
  item-room h room = room-first (f (get_or xs j other)) (join (each f (drop (j + 1) xs))) m at (left-room (rw (items-more h) at left) room)

  -- it is written
  pub item-next : {n : List ℕ} {k : ℕ} → j < length xs → Wrote (f (get_or xs j other)) m at n k → Left (join (each f (drop (j + 1) xs))) n k (join (each f xs)) l start
  item-next h w = left-next (rw (items-more h) at left) w

  -- all are written
  pub items-done : length xs ≤ j → Wrote (join (each f xs)) l start m at
  items-done h = left-done (rw (items-none h) at left)
