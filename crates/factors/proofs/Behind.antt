-- The way on from the first slot of a shift, by the way back from one of its slots and the way on from there. Assumes nothing.
use mathlib.Core.Path.{◌≡◌, refl, sym, ap, ◌∙◌}
use mathlib.Core.Logic.{◌≢◌}
use mathlib.Core.Bool.{Bool, true, false}
use mathlib.Core.List.{List, [], ◌∷◌}
use Prim.Native.Nat.{ℕ, ◌+◌, ◌<◌}
use native.Mathlib.Omega.{arith}
use lib.Dec.{eqb}
use lib.ListN.{length}
use Rattle.counting.specs.Tests.{◌or◌}
use Rattle.counting.specs.Lists.{among, last}
use Rattle.racks.specs.Limits.{FREE}
use Rattle.racks.specs.Table.{dest}
use Rattle.factors.specs.Copies.{source, onward, back}
use Rattle.factors.specs.parts.Chains.{Chained}
use Rattle.factors.proofs.Walks.{Path}
use Rattle.factors.proofs.Chains.{dest-source, onward_path, back_path, shift-ends}

-- the way back turned round, before what follows x
ahead : ℕ → List ℕ → List ℕ → List ℕ
ahead x [] rest = rest
ahead x (y ∷ l) rest = ahead y l (x ∷ rest)

-- each slot is f of the one before, and the last has none
abbrev FreePath : (ℕ → ℕ) → ℕ → List ℕ → Type 0
FreePath f x [] = f x ≡ FREE
FreePath f x (y ∷ l) = (f x ≡ y) × (y ≢ FREE) × FreePath f y l

path-free : (f : ℕ → ℕ) (s x : ℕ) (l : List ℕ) → Path f s x l → f (last x l) ≡ FREE → FreePath f x l
unfolding last
path-free f s x [] p e = e
path-free f s x (y ∷ l) p e = (p.0, p.1, path-free f s y l p.3 e)

-- there is one such way
free_one : (f : ℕ → ℕ) (x : ℕ) (a b : List ℕ) → FreePath f x a → FreePath f x b → a ≡ b
free_one f x [] [] p q = refl
free_one f x [] (y ∷ b) p q = absurd (q.1 (sym q.0 ∙ p))
free_one f x (y ∷ a) [] p q = absurd (p.1 (sym p.0 ∙ q))
free_one f x (y ∷ a) (z ∷ b) p q =
    let e : y ≡ z = sym p.0 ∙ q.0 in
    rw e (ap {B = List ℕ} (λ l. z ∷ l) (free_one f z a b (rw e at p.2) q.2))

length-ahead : (x : ℕ) (l rest : List ℕ) → length (ahead x l rest) ≡ length l + length rest
unfolding ahead
length-ahead x [] rest = omega arith
length-ahead x (y ∷ l) rest = length-ahead y l (x ∷ rest) ∙ omega arith

or_turn : (a e c : Bool) → (a or (e or c)) ≡ ((e or a) or c)
unfolding ◌or◌
or_turn true true c = refl
or_turn true false c = refl
or_turn false true c = refl
or_turn false false c = refl

among-ahead : (v x : ℕ) (l rest : List ℕ) → among v (last x l ∷ ahead x l rest) ≡ (among v l or among v (x ∷ rest))
unfolding among ahead last ◌or◌
among-ahead v x [] rest = refl
among-ahead v x (y ∷ l) rest = among-ahead v y l (x ∷ rest) ∙ or_turn (among v l) (eqb v y) (among v (x ∷ rest))

module _ {places : List ℕ} (ok : Chained places) where
  ahead-free : (s x : ℕ) (l rest : List ℕ) → x ≢ FREE → Path (source places) s x l → FreePath (dest places) x rest → FreePath (dest places) (last x l) (ahead x l rest)
  unfolding ahead last
  ahead-free s x [] rest q p r = r
  ahead-free s x (y ∷ l) rest q p r =
      let e : dest places y ≡ x = ap (dest places) (sym p.0) ∙ dest-source ok x (rw p.0 p.1) in
      ahead-free s y l (x ∷ rest) p.1 p.3 (e, q, r)

  -- slot k is on a shift: from its first slot on
  module _ (k : ℕ) (low : k < length places) (ends : dest places (last k (onward places k)) ≡ FREE) (start : source places (last k (back places k)) ≡ FREE) (here : last k (back places k) < length places) where
    onward-is : onward places (last k (back places k)) ≡ ahead k (back places k) (onward places k)
    onward-is =
        let h : ℕ = last k (back places k) in
        free_one (dest places) h (onward places h) (ahead k (back places k) (onward places k))
        (path-free (dest places) h h (onward places h) (onward_path ok h here) (shift-ends ok h here start))
        (ahead-free k k (back places k) (onward places k) (omega (arith, ok.small)) (back_path ok k low) (path-free (dest places) k k (onward places k) (onward_path ok k low) ends))

    -- as many slots follow
    pub behind-count : length (onward places (last k (back places k))) ≡ length (back places k) + length (onward places k)
    behind-count = ap length onward-is ∙ length-ahead k (back places k) (onward places k)

    -- and they are those
    pub behind-among : (v : ℕ) → among v (last k (back places k) ∷ onward places (last k (back places k))) ≡ (among v (back places k) or among v (k ∷ onward places k))
    behind-among v = ap (λ (l : List ℕ). among v (last k (back places k) ∷ l)) onward-is ∙ among-ahead v k (back places k) (onward places k)
