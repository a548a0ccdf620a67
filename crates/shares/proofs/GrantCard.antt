-- One slot of the pass that grants the cards, as the code reads it. Assumes nothing.
use mathlib.Core.Path.{◌≡◌, ap, sym, ◌∙◌}
use mathlib.Core.Bool.{Bool, not}
use mathlib.Core.List.{List}
use Prim.Native.Nat.{ℕ, ◌+◌, ◌*◌, ◌≤◌, ◌<◌}
use native.Mathlib.Omega.{arith}
use lib.Dec.{eqb, ltb}
use lib.ListN.{length, get_or, set}
use lib.Seq.{set-get_or}
use borrow.Author.Tests.{ltb-true}
use Rattle.counting.specs.Tests.{◌and◌, pick, bit}
use Rattle.counting.proofs.Tests.{by-test, and_r}
use Rattle.racks.specs.Table.{dest}
use Rattle.tables.specs.parts.Tables.{named_slot, target}
use Rattle.tables.proofs.Targets.{at_target, at-away, aim-is}
use Rattle.shares.specs.parts.Cards.{takes_card, Grantable, CardGranted}

-- n is the slot that the entry of slot g names
module _ (racking places : List ℕ) (g : ℕ) (nexts stops lent : List ℕ) (t : Grantable racking places g nexts stops lent) (n : ℕ) (en : n ≡ named_slot g (get_or places g 0)) where
  -- as the definitions name it
  aim : n ≡ named_slot g (dest places g)
  aim = aim-is racking places g t.aims n en

  -- its rack is the target
  to-target : get_or racking n 0 ≡ target racking places g
  to-target = at_target racking places g n aim

  -- whose next pair can be doubled in 16 bits
  pub next_small : get_or nexts (get_or racking n 0) 0 ≤ 4096
  next_small = rw to-target t.few

  -- whether it takes the card
  module _ (taken : Bool) (e : taken ≡ (not (eqb (get_or racking g 0) (get_or racking n 0)) and ltb (get_or nexts (get_or racking n 0) 0) (get_or stops (get_or racking n 0) 0))) where
    taken_is : taken ≡ takes_card racking places g nexts stops
    unfolding takes_card
    taken_is = e ∙ rw (at-away racking places g n aim, to-target)

    -- where the store goes
    module _ (at : ℕ) (ea : at ≡ pick taken (2 * get_or nexts (get_or racking n 0) 0) 0) where
      -- it lies in the list
      pub grant-at : at < length lent
      grant-at = by-test taken
          (λ y.
          let m : at ≡ 2 * get_or nexts (get_or racking n 0) 0 = rw y at ea in
          let fits : 2 * get_or stops (get_or racking n 0) 0 ≤ length lent = rw to-target t.fits in
          let left = ltb-true (get_or nexts (get_or racking n 0) 0) (get_or stops (get_or racking n 0) 0) (and_r (not (eqb (get_or racking g 0) (get_or racking n 0))) (sym e ∙ y)) in
          omega (arith, left))
          (λ y. let m : at ≡ 0 = rw y at ea in omega (arith, t.some))

      -- where no card is taken, it is of what stood there
      grant_store : set lent at (pick taken g (get_or lent at 0)) ≡ pick taken (set lent (2 * get_or nexts (get_or racking n 0) 0) g) lent
      grant_store = by-test taken (λ y. rw (ea, y)) (λ y. rw (ea, y) (set-get_or lent 0 0))

      -- what the slot leaves
      pub card-granted : (x one : ℕ) → x ≡ pick taken g (get_or lent at 0) → one ≡ bit taken
          → CardGranted racking places g nexts stops lent one (set nexts (get_or racking n 0) (get_or nexts (get_or racking n 0) 0 + one)) (set lent at x)
      card-granted x one ex eo =
          record {
            one-is = eo ∙ ap bit taken_is;
            nexts-are = rw (to-target, eo, taken_is);
            list = rw (← to-target, ← taken_is, ex) grant_store;
          }
