-- The factors of an accepted table are shifts, cycles and settled cards, and the copy list is theirs. Assumes nothing.
use mathlib.Core.Path.{◌≡◌, refl, sym, ap, ◌∙◌}
use mathlib.Core.Logic.{◌≢◌, inl, inr}
use mathlib.Core.List.{List, [], ◌∷◌, ◌++◌, reverse, reverse-cons}
use Prim.Native.Nat.{ℕ, ◌<◌}
use native.Mathlib.Omega.{arith}
use lib.ListN.{length}
use Rattle.counting.specs.Lists.{last}
use Rattle.counting.proofs.Every.{all_map}
use Rattle.racks.specs.Limits.{FREE, HAND}
use Rattle.racks.specs.Table.{dest}
use Rattle.factors.specs.Copies.{source, onward, head, factor, shift, cycle, copy_list}
use Rattle.factors.specs.parts.Chains.{Chained}
use Rattle.counting.specs.Every.{In}
use Rattle.factors.proofs.Walks.{Path, Ends}
use Rattle.factors.proofs.Chains.{source-dest, onward-low, onward_path, onward-ends, head-low, head-cases, shift-ends, cycle-ends}
use Rattle.factors.specs.Factors.{Lowest}
use Rattle.factors.proofs.Factors.{factors-lowest, factors_ascend, factors-once, factors-all, factors-slots}
use Rattle.factors.proofs.Costs.{copies-shift, copies-cycle, cost-shift, cost-cycle, cost-settled, list_most}
use Rattle.factors.proofs.Counted.{list_count}
use Rattle.shuffle.proofs.Bytes.{brought-home}
use Rattle.conduct.specs.Section2.{Leads, links, Factor, Redistribution}
use Rattle.conduct.specs.Section2.Factor.{is_shift, is_cycle, is_settled}

-- back to front is the chain's copies, the last first
shift_is : (x : ℕ) (l : List ℕ) → shift x l ≡ reverse (links x l)
unfolding shift links
shift_is x [] = refl
shift_is x (y ∷ l) = rw (shift_is y l) (sym (reverse-cons (x, y) (links y l)))

cycle-is : (x y : ℕ) (l : List ℕ) → cycle x (y ∷ l) ≡ (last y l, HAND) ∷ reverse (links x (y ∷ l)) ++ (HAND, x) ∷ []
unfolding cycle
cycle-is x y l = rw (shift_is x (y ∷ l))

leads : (places : List ℕ) (s x : ℕ) (l : List ℕ) → Path (dest places) s x l → Leads places x l
leads places s x [] p = tt
leads places s x (y ∷ l) p = (p.0, leads places s y l p.3)

module _ {places : List ℕ} (ok : Chained places) where
  -- where a card goes to slot x, it has a source
  has-source : (g x : ℕ) → g < length places → x < length places → dest places g ≡ x → source places x ≢ FREE
  has-source g x l m e =
      let s : source places x ≡ g = ap (source places) (sym e) ∙ source-dest ok g (λ u. omega (arith, sym e ∙ u, ok.small)) in
      λ u. omega (arith, sym s ∙ u, ok.small)

  -- a chain from its first slot x; k is the lowest slot
  module _ (k x : ℕ) where
    chain : (l : List ℕ) → Lowest k (x ∷ l) → ((v : ℕ) → In v (x ∷ l) → v < length places) → Path (dest places) x x l → Ends x (dest places (last x l))
        → (dest places (last x l) ≡ x → x ≡ k) → (source places x ≢ FREE → dest places (last x l) ≡ x) → Factor places (x ∷ l)
    unfolding last
    chain l f low p (inl e) c d =
        is_shift {x = x} {l = l} (record {
          starts = λ g m q. absurd (omega (arith, sym e ∙ d (has-source g x m (low x (inl refl)) q), low x (inl refl), ok.small));
          follows = leads places x x l p;
          ends = e;
          copies-are = copies-shift places x l e ∙ shift_is x l;
          cost = cost-shift places x l e;
        })
    chain [] f low p (inr e) c d =
        is_settled {x = x} (record {
          stays = e;
          none = cost-settled places x (λ u. omega (arith, sym e ∙ u, low x (inl refl), ok.small));
        })
    chain (y ∷ l) f low p (inr e) c d =
        let q : dest places (last x (y ∷ l)) ≢ FREE = λ u. omega (arith, sym e ∙ u, low x (inl refl), ok.small) in
        is_cycle {x = x} {y = y} {l = l} (record {
          lowest = λ v m. omega (arith, f.least v m, c e);
          follows = leads places x x (y ∷ l) p;
          ends = e;
          copies-are = copies-cycle places x (y ∷ l) q ∙ cycle-is x y l;
          cost = cost-cycle places x y l q;
        })

  -- a factor with its lowest slot is a shift, a cycle or a settled card
  factor-is : (slots : List ℕ) → (k : ℕ) × (k < length places) × (slots ≡ factor places k) × Lowest k slots → Factor places slots
  unfolding factor
  factor-is slots (k, b, e, f) =
      let h : ℕ = head places k in
      let low : h < length places = head-low ok k b in
      let whole : Factor places (h ∷ onward places h) =
      chain k h (onward places h) (rw e at f) (onward-low ok h low) (onward_path ok h low) (onward-ends ok h low)
      (λ c. elim (head-cases ok k b) [
        | inl u ↦ u.0
        | inr u ↦ absurd (omega (arith, sym c ∙ shift-ends ok h low u.1, ok.small))
      ]) (cycle-ends ok k b) in
      rw e whole

  -- the copy list
  pub copy-list : Redistribution places
  unfolding copy_list
  copy-list =
      record {
        joined = refl;
        each-is = all_map factor-is (factors-lowest ok);
        every-slot = factors-all ok;
        no_other = factors-slots ok;
        once = factors-once ok;
        by-lowest = factors_ascend ok;
        copies-count = list_count ok;
        at_most = list_most ok;
        brings = λ b cards e. brought-home ok b cards e;
      }
