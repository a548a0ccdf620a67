-- A chain cut into a near stretch and the far part behind it. Assumes nothing.
use mathlib.Core.Path.{◌≡◌, sym, ap, ◌∙◌}
use mathlib.Core.List.{List, [], ◌∷◌, ◌++◌, append_assoc, append-nil}
use Prim.Native.Nat.{ℕ, zero, suc, ◌+◌, ◌-◌, ◌≤◌, ◌<◌}
use native.Mathlib.Omega.{arith}
use native.Mathlib.Nat.{suc-sub-suc}
use lib.ListN.{get_or}
use Rattle.counting.specs.Lists.{Pair}
use Rattle.racks.specs.Table.{dest}
use Rattle.factors.specs.Copies.{shift}
use Rattle.factors.specs.parts.Walks.{steps, stepped, Inside}
use Rattle.factors.proofs.Walked.{inside-here, inside-step, inside-next}

-- fewer slots follow
pub inside_near : (places : List ℕ) (n k x : ℕ) → Inside places n x → k ≤ n → Inside places k x
unfolding Inside
inside_near places n zero x h l = inside-here places n x h
inside_near places zero (suc k) x h l = absurd (omega arith)
inside_near places (suc n) (suc k) x h l = (h.0, inside_near places n k (dest places x) h.1 (omega arith))

-- those that follow the slot m steps on
pub inside_far : (places : List ℕ) (n m k x y : ℕ) → y ≡ stepped (dest places) m x → Inside places n x → m + k ≤ n → Inside places k y
unfolding Inside stepped
inside_far places n zero k x y e h l = rw e (inside_near places n k x h (omega arith))
inside_far places zero (suc m) k x y e h l = absurd (omega arith)
inside_far places (suc n) (suc m) k x y e h l = inside_far places n m k (dest places x) y e h.1 (omega arith)

-- the copies of the far part, and then those of the stretch
pub shift-cut : (f : ℕ → ℕ) (n m x y : ℕ) → m ≤ n → y ≡ stepped f m x → shift x (steps f n x) ≡ shift y (steps f (n - m) y) ++ shift x (steps f m x)
unfolding shift steps stepped
shift-cut f n zero x y l e = let z : n - 0 ≡ n = omega arith in rw (z, e) (sym (append-nil (shift x (steps f n x))))
shift-cut f zero (suc m) x y l e = absurd (omega arith)
shift-cut f (suc n) (suc m) x y l e =
    rw (suc-sub-suc n m) (ap (λ (cs : List Pair). cs ++ (x, f x) ∷ []) (shift-cut f n m (f x) y (omega arith) e) ∙ append_assoc (shift y (steps f (n - m) y)) (shift (f x) (steps f m (f x))) ((x, f x) ∷ []))

-- k of n steps are made, to y
pub record Stepping (places : List ℕ) (n x k y : ℕ) : Type 0 where
  pub ahead : Inside places (n - k) y
  pub ends : stepped (dest places) (n - k) y ≡ stepped (dest places) n x

module _ (places : List ℕ) (n x : ℕ) where
  -- none is
  pub stepping_begin : Inside places n x → Stepping places n x 0 x
  stepping_begin h = let z : n - 0 ≡ n = omega arith in record { ahead = rw z h; ends = rw z }

  module _ (k y : ℕ) (s : Stepping places n x k y) where
    -- all are
    pub stepping-end : n ≤ k → y ≡ stepped (dest places) n x
    unfolding stepped
    stepping-end l = let z : n - k ≡ 0 = omega arith in rw z at s.ends

    -- one more
    pub stepping-more : k < n → (z : ℕ) → z ≡ get_or places y 0 → Stepping places n x (k + 1) z
    unfolding stepped
    stepping-more l z e =
        let i : n - k ≡ suc (n - (k + 1)) = omega arith in
        let j : n - k - 1 ≡ n - (k + 1) = omega arith in
        record {
          ahead = rw j at (inside-next places (n - k) y z s.ahead e (omega arith));
          ends = rw (inside-step places (n - k) y z s.ahead e) (rw i at s.ends);
        }
