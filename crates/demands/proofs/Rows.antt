-- The number of checks in order is given by rows in order, where each test says its row's condition. Assumes nothing.
use mathlib.Core.Path.{◌≡◌, sym, ◌∙◌}
use mathlib.Core.Logic.{◌≢◌, ◌↔◌, ◌⊎◌, inl, inr}
use mathlib.Core.Bool.{Bool, true, false, not}
use mathlib.Core.List.{List, [], ◌∷◌, ◌++◌}
use Prim.Native.Nat.{ℕ}
use native.Mathlib.Decide.{ℕ_discrete}
use lib.Dec.{eqb}
use borrow.Author.Tests.{eq-eqb, ne_eqb}
use Rattle.counting.specs.Checks.{Check, first, known}
use Rattle.counting.proofs.Tests.{by-test, no_way}
use Rattle.counting.proofs.Checks.{first-here, first-later, first-none}
use Rattle.demands.specs.Rows.{Row, None, Holds, Numbered, Given}

-- no rows: the number is 0
pub given-none : Given (first []) []
unfolding None Holds Numbered
given-none = record { refused = λ n f. (λ e. f (sym e ∙ first-none), λ h. absurd h); done = (λ e. tt, λ u. first-none); numbered = tt }

-- one row more in front
pub given_row : {b : Bool} {A : Type 0} {m : ℕ} (cs : List Check) {rows : List Row} → m ≢ 0 → (b ≡ true) ↔ A → Given (first cs) rows → Given (first ((b, m) ∷ cs)) ((m, A) ∷ rows)
unfolding None Holds Numbered
given_row {b} {A} {m} cs {rows} f says g = by-test b on_it off_it
  where
    on_it : b ≡ true → Given (first ((b, m) ∷ cs)) ((m, A) ∷ rows)
    on_it t =
        let e : first ((b, m) ∷ cs) ≡ m = first-here b m cs t in
        record {
          refused = λ n k. (λ q. inl (sym q ∙ e, says.0 t), λ h. elim h [ inl p ↦ e ∙ sym p.0 | inr p ↦ absurd (p.0 (says.0 t)) ]);
          done = (λ q. absurd (f (sym e ∙ q)), λ h. absurd (h.0 (says.0 t)));
          numbered = (f, g.numbered);
        }

    off_it : b ≡ false → Given (first ((b, m) ∷ cs)) ((m, A) ∷ rows)
    off_it t =
        let e : first ((b, m) ∷ cs) ≡ first cs = first-later b m cs t in
        let never : ¬ A = λ a. no_way (says.1 a) t in
        record {
          refused = λ n k. (λ q. inr (never, (g.refused n k).0 (sym e ∙ q)), λ h. elim h [ inl p ↦ absurd (never p.1) | inr p ↦ e ∙ (g.refused n k).1 p.1 ]);
          done = (λ q. (never, g.done.0 (sym e ∙ q)), λ h. e ∙ g.done.1 h.1);
          numbered = (f, g.numbered);
        }

-- the number of a condition that holds is not 0
pub holds-some : (n : ℕ) (rows : List Row) → Numbered rows → Holds n rows → n ≢ 0
unfolding Numbered Holds
holds-some n [] k h = absurd h
holds-some n (r ∷ rows) k (inl p) = λ z. k.0 (sym p.0 ∙ z)
holds-some n (r ∷ rows) k (inr p) = holds-some n rows k.1 p.1

-- rows after rows
module _ (more : List Row) where
  pub none_both : (rows : List Row) → None rows → None more → None (rows ++ more)
  unfolding None
  none_both [] a b = b
  none_both (r ∷ rows) a b = (a.0, none_both rows a.1 b)

  pub none_left : (rows : List Row) → None (rows ++ more) → None rows
  unfolding None
  none_left [] h = tt
  none_left (r ∷ rows) h = (h.0, none_left rows h.1)

  pub none_right : (rows : List Row) → None (rows ++ more) → None more
  unfolding None
  none_right [] h = h
  none_right (r ∷ rows) h = none_right rows h.1

  pub numbered-both : (rows : List Row) → Numbered rows → Numbered more → Numbered (rows ++ more)
  unfolding Numbered
  numbered-both [] a b = b
  numbered-both (r ∷ rows) a b = (a.0, numbered-both rows a.1 b)

  module _ (n : ℕ) where
    pub holds-left : (rows : List Row) → Holds n rows → Holds n (rows ++ more)
    unfolding Holds
    holds-left [] h = absurd h
    holds-left (r ∷ rows) (inl p) = inl p
    holds-left (r ∷ rows) (inr p) = inr (p.0, holds-left rows p.1)

    pub holds_right : (rows : List Row) → None rows → Holds n more → Holds n (rows ++ more)
    unfolding Holds None
    holds_right [] a h = h
    holds_right (r ∷ rows) a h = inr (a.0, holds_right rows a.1 h)

    pub holds-either : (rows : List Row) → Holds n (rows ++ more) → Holds n rows ⊎ (None rows × Holds n more)
    unfolding Holds None
    holds-either [] h = inr (tt, h)
    holds-either (r ∷ rows) (inl p) = inl (inl p)
    holds-either (r ∷ rows) (inr p) = elim (holds-either rows p.1) [ inl q ↦ inl (inr (p.0, q)) | inr q ↦ inr ((p.0, q.0), q.1) ]

-- where no condition of the rows holds, no number is theirs
none_holds : (n : ℕ) (rows : List Row) → None rows → Holds n rows → ⊥
unfolding None Holds
none_holds n [] a h = h
none_holds n (r ∷ rows) a (inl p) = a.0 p.1
none_holds n (r ∷ rows) a (inr p) = none_holds n rows a.1 p.1

numbered_right : (more rows : List Row) → Numbered (rows ++ more) → Numbered more
unfolding Numbered
numbered_right more [] k = k
numbered_right more (r ∷ rows) k = numbered_right more rows k.1

-- and the number is given by those behind them
pub given-behind : {number : ℕ} (rows more : List Row) → None rows → Given number (rows ++ more) → Given number more
given-behind rows more a g =
    record {
      refused = λ n f. (
        λ q. elim (holds-either more n rows ((g.refused n f).0 q)) [ inl p ↦ absurd (none_holds n rows a p) | inr p ↦ p.1 ],
        λ h. (g.refused n f).1 (holds_right more n rows a h),
      );
      done = (λ q. none_right more rows (g.done.0 q), λ h. g.done.1 (none_both more rows a h));
      numbered = numbered_right more rows g.numbered;
    }

-- a number found elsewhere, and more checks where it is 0
pub given-after : (m : ℕ) (rows : List Row) (cs : List Check) (more : List Row)
    → Given m rows → Numbered more → (m ≡ 0 → Given (first cs) more) → Given (first (known m ∷ cs)) (rows ++ more)
given-after m rows cs more g k rest = elim (ℕ_discrete m 0) [ yes z ↦ go_on z | no f ↦ stop f ]
  where
    go_on : m ≡ 0 → Given (first (known m ∷ cs)) (rows ++ more)
    go_on z =
        let e : first (known m ∷ cs) ≡ first cs = first-later (not (eqb m 0)) m cs (rw (eq-eqb m 0 z)) in
        let none = g.done.0 z in
        record {
          refused = λ n f. (
            λ q. holds_right more n rows none (((rest z).refused n f).0 (sym e ∙ q)),
            λ h. elim (holds-either more n rows h) [ inl p ↦ absurd (f (sym ((g.refused n f).1 p) ∙ z)) | inr p ↦ e ∙ ((rest z).refused n f).1 p.1 ],
          );
          done = (λ q. none_both more rows none ((rest z).done.0 (sym e ∙ q)), λ h. e ∙ (rest z).done.1 (none_right more rows h));
          numbered = numbered-both more rows g.numbered k;
        }

    stop : (m ≡ 0 → ⊥) → Given (first (known m ∷ cs)) (rows ++ more)
    stop s =
        let e : first (known m ∷ cs) ≡ m = first-here (not (eqb m 0)) m cs (rw (ne_eqb m 0 s)) in
        record {
          refused = λ n f. (
            λ q. holds-left more n rows ((g.refused n f).0 (sym e ∙ q)),
            λ h. elim (holds-either more n rows h) [ inl p ↦ e ∙ (g.refused n f).1 p | inr p ↦ absurd (s (g.done.1 p.0)) ],
          );
          done = (λ q. absurd (s (sym e ∙ q)), λ h. absurd (s (g.done.1 (none_left more rows h))));
          numbered = numbered-both more rows g.numbered k;
        }
