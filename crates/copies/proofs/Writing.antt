-- Copies written into a list: one, those of a shift, those of a factor. Assumes nothing.
use mathlib.Core.Path.{◌≡◌, refl, sym, ap, ◌∙◌}
use mathlib.Core.Logic.{◌≢◌}
use mathlib.Core.List.{List, [], ◌∷◌, ◌++◌}
use Prim.Native.Nat.{ℕ, ◌+◌, ◌*◌}
use native.Mathlib.Omega.{arith}
use native.Mathlib.Numerals.{add-one}
use lib.ListN.{length, set}
use lib.Seq.{length-sets}
use Rattle.counting.specs.Lists.{Pair, flat}
use Rattle.racks.specs.Limits.{FREE, HAND}
use Rattle.racks.specs.Table.{dest}
use Rattle.factors.specs.Copies.{shift}
use Rattle.factors.specs.parts.Walks.{steps, walked}
use Rattle.copies.specs.parts.Writes.{put_copies}
use Rattle.copies.specs.parts.Made.{made}
use Rattle.counting.proofs.Stores.{length-flat, flat_append, sets-append}
use Rattle.factors.proofs.Costs.{length_shift}
use Rattle.factors.proofs.Walked.{length-steps, walked-shift, walked-hand}

module _ (list : List ℕ) (at : ℕ) where
  -- copies keep the length of the list
  pub length-put-copies : (cs : List Pair) → length (put_copies list at cs) ≡ length list
  unfolding put_copies
  length-put-copies cs = length-sets list (2 * at) (flat cs)

  -- no copies leave it as it is
  pub put-none : put_copies list at [] ≡ list
  unfolding put_copies flat
  put-none = refl

  -- copies written, and then others behind them
  pub put-append : (a b : List Pair) → put_copies list at (a ++ b) ≡ put_copies (put_copies list at a) (at + length a) b
  unfolding put_copies
  put-append a b =
      let e : 2 * at + length (flat a) ≡ 2 * (at + length a) = omega (arith, length-flat a) in
      rw (flat_append a b) (sets-append list (2 * at) (flat a) (flat b) ∙ rw e)

  -- one copy is two stores
  pub put_one : (from to : ℕ) → set (set list (2 * at) from) (2 * at + 1) to ≡ put_copies list at ((from, to) ∷ [])
  unfolding put_copies flat
  put_one from to = rw add-one

-- so what is written is as long as what was there
pub put-long : (list after : List ℕ) (at : ℕ) (cs : List Pair) → after ≡ put_copies list at cs → length after ≡ length list
put-long list after at cs e = ap length e ∙ length-put-copies list at cs

-- as they are made one after another
made-put : (at : ℕ) (cs : List Pair) (list : List ℕ) → made (λ n from to l. put_copies l n ((from, to) ∷ [])) at cs list ≡ put_copies list at cs
unfolding made
made-put at [] list = sym (put-none list at)
made-put at (c ∷ cs) list = made-put (at + 1) cs (put_copies list at (c ∷ [])) ∙ sym (put-append list at (c ∷ []) cs)

pub put-made : (list l : List ℕ) (at : ℕ) (cs : List Pair) → l ≡ made (λ n from to l. put_copies l n ((from, to) ∷ [])) at cs list → l ≡ put_copies list at cs
put-made list l at cs e = e ∙ made-put at cs list

-- the copies of a factor, as they are walked
module _ (places : List ℕ) (h n end : ℕ) where
  -- written: a shift
  pub wrote-shift : end ≡ FREE → (list l : List ℕ) (at : ℕ) → l ≡ put_copies list at (shift h (steps (dest places) n h)) → l ≡ put_copies list at (walked places h n end)
  wrote-shift e list l at p = p ∙ ap (put_copies list at) (sym (walked-shift places h n end e))

  -- written: by the hand, in three parts
  pub wrote-hand : end ≢ FREE → (list l₁ l₂ l₃ : List ℕ) (at behind last first : ℕ) → first ≡ h → behind ≡ at + 1 → last ≡ behind + n
      → l₁ ≡ put_copies list at ((end, HAND) ∷ []) → l₂ ≡ put_copies l₁ behind (shift h (steps (dest places) n h)) → l₃ ≡ put_copies l₂ last ((HAND, first) ∷ [])
      → l₃ ≡ put_copies list at (walked places h n end)
  wrote-hand q list l₁ l₂ l₃ at behind last first j i k p o s =
      let cs : List Pair = shift h (steps (dest places) n h) in
      let d : last ≡ at + length ((end, HAND) ∷ cs) = omega (arith, length_shift h (steps (dest places) n h), length-steps (dest places) n h) in
      s ∙ rw (o, p, j, i, ← put-append list at ((end, HAND) ∷ []) cs, d, ← put-append list at ((end, HAND) ∷ cs) ((HAND, h) ∷ [])) (ap (put_copies list at) (sym (walked-hand places h n end q)))
