-- Moves paid for, one after another. Assumes nothing.
use mathlib.Core.Path.{◌≡◌}
use mathlib.Core.List.{List, [], ◌∷◌}
use Prim.Native.Nat.{ℕ, ◌-◌, ◌<◌}
use native.Mathlib.Omega.{arith}
use lib.ListN.{length, get_or, set, length-set}
use Rattle.counting.specs.Lists.{Pair}
use Rattle.owed.specs.parts.Owed.{cell}
use Rattle.owed.specs.parts.Kept.{cell_of, pay, paid, Payable}
use Rattle.owed.specs.parts.Kept.Payable.{more}

-- the moves left can be paid for, and end as all of them do
pub record Paying (ms : List Pair) (racking counts end : List ℕ) : Type 0 where
  pub payable : Payable racking ms counts
  pub ends : paid racking ms counts ≡ end
  pub long : length counts ≡ 4096

-- where moves can be paid for, the first of them can
head : {racking : List ℕ} {m : Pair} {ms : List Pair} {counts : List ℕ} → Payable racking (m ∷ ms) counts
    → (m.0 < 4096) × (m.1 < 4096) × (get_or racking m.0 0 < 64) × (get_or racking m.1 0 < 64) × (0 < get_or counts (cell_of racking m) 0)
head (more a b x y o r) = (a, b, x, y, o)

-- and then those after it
tail : {racking : List ℕ} {m : Pair} {ms : List Pair} {counts : List ℕ} → Payable racking (m ∷ ms) counts → Payable racking ms (pay racking m counts)
tail (more a b x y o r) = r

module _ {racking counts end : List ℕ} where
  module _ {m : Pair} {ms : List Pair} (s : Paying (m ∷ ms) racking counts end) where
    -- the ends of the first of them are in the table, and their racks below 64
    pub paying-ends : (m.0 < 4096) × (m.1 < 4096) × (get_or racking m.0 0 < 64) × (get_or racking m.1 0 < 64)
    paying-ends = let h = head s.payable in (h.0, h.1, h.2, h.3)

    module _ (k : ℕ) (e : k ≡ cell (get_or racking m.0 0) (get_or racking m.1 0)) where
      -- it is still owed
      pub paying-owed : (k < 4096) × (0 < get_or counts k 0)
      unfolding cell_of
      paying-owed = let h = head s.payable in (omega arith, rw e h.4)

      -- once it is paid for, those after it can be
      pub paying-more : Paying ms racking (set counts k (get_or counts k 0 - 1)) end
      unfolding cell_of pay paid
      paying-more = record { payable = rw e (tail s.payable); ends = rw e s.ends; long = simp length-set s.long }

  -- none is left
  pub paying-done : Paying [] racking counts end → counts ≡ end
  unfolding paid
  paying-done s = s.ends
