-- Copies made one after another: none, some and then others, those of a chain. Assumes nothing.
use mathlib.Core.Path.{◌≡◌, refl, sym, ◌∙◌}
use mathlib.Core.Logic.{◌≢◌}
use mathlib.Core.List.{List, [], ◌∷◌, ◌++◌}
use Prim.Native.Nat.{ℕ, zero, suc, ◌+◌, ◌-◌, ◌≤◌}
use native.Mathlib.Omega.{arith}
use lib.ListN.{length, get_or}
use Rattle.counting.specs.Lists.{Pair}
use Rattle.racks.specs.Table.{dest}
use Rattle.factors.specs.Copies.{shift}
use Rattle.factors.specs.parts.Walks.{steps, stepped, Inside}
use Rattle.factors.proofs.Costs.{length_shift}
use Rattle.factors.proofs.Walked.{length-steps, inside-step}
use Rattle.factors.proofs.Stretches.{shift-cut}
use Rattle.copies.specs.parts.Made.{made}

module _ {A : Type 0} (step : ℕ → ℕ → ℕ → List A → List A) where
  -- some, and then others behind them
  pub made-append : (at : ℕ) (a b : List Pair) (list : List A) → made step at (a ++ b) list ≡ made step (at + length a) b (made step at a list)
  unfolding made
  made-append at [] b list = let e : at + 0 ≡ at = omega arith in rw e
  made-append at (c ∷ a) b list =
      let e : at + 1 + length a ≡ at + length (c ∷ a) = omega arith in
      made-append (at + 1) a b (step at c.0 c.1 list) ∙ rw e

  -- no slots follow: no copies
  pub made_none : (f : ℕ → ℕ) (at n x : ℕ) (list : List A) → n ≡ 0 → list ≡ made step at (shift x (steps f n x)) list
  unfolding made shift steps
  made_none f at n x list e = rw e

  -- the copies of what follows, and then the copy from x to the slot after it
  pub made-more : (places : List ℕ) (list l m : List A) (at n x y e : ℕ) → Inside places n x → y ≡ get_or places x 0 → n ≢ 0 → e ≡ at + (n - 1)
      → l ≡ made step at (shift y (steps (dest places) (n - 1) y)) list → m ≡ step e x y l → m ≡ made step at (shift x (steps (dest places) n x)) list
  unfolding shift steps made
  made-more places list l m at zero x y e h i q k p r = absurd (q refl)
  made-more places list l m at (suc n) x y e h i q k p r =
      let f : ℕ → ℕ = dest places in
      let z : suc n - 1 ≡ n = omega arith in
      let d : e ≡ at + length (shift y (steps f n y)) = omega (arith, length_shift y (steps f n y), length-steps f n y) in
      r ∙ rw (p, z, d, ← inside-step places (suc n) x y h i) (sym (made-append at (shift y (steps f n y)) ((x, y) ∷ []) list))

  -- the copies of the far part of a chain, and then those of the stretch before it
  pub made-both : (f : ℕ → ℕ) (list l m : List A) (at behind n s x y : ℕ) → s ≤ n → y ≡ stepped f s x → behind ≡ at + (n - s)
      → l ≡ made step at (shift y (steps f (n - s) y)) list → m ≡ made step behind (shift x (steps f s x)) l → m ≡ made step at (shift x (steps f n x)) list
  made-both f list l m at behind n s x y h e k p r =
      let far : List Pair = shift y (steps f (n - s) y) in
      let d : behind ≡ at + length far = omega (arith, length_shift y (steps f (n - s) y), length-steps f (n - s) y) in
      r ∙ rw (p, d, shift-cut f n s x y h e) (sym (made-append at far (shift x (steps f s x)) list))
