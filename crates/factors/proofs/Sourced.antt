-- The inverse of the table, filled in one pass. Assumes nothing.
use mathlib.Core.Path.{◌≡◌, refl, sym, ap, ◌∙◌}
use mathlib.Core.Logic.{◌≢◌}
use mathlib.Core.List.{List}
use Prim.Native.Nat.{ℕ, ◌+◌, ◌≤◌, ◌<◌}
use native.Mathlib.Omega.{arith}
use native.Mathlib.Numerals.{add-one}
use native.Mathlib.Decide.{ℕ_discrete}
use lib.ListN.{length, get_or, take, set, replicate, length-set, get_or-replicate, length-replicate}
use lib.Seq.{get_or-set_same, get_or-set_other, get_or-take, length-take-le}
use borrow.Author.Tests.{eq-eqb, ne_eqb}
use Rattle.counting.specs.Count.{seek}
use Rattle.racks.specs.Limits.{FREE}
use Rattle.racks.specs.Table.{dest, names}
use Rattle.racks.proofs.Table.{read-dest, dest-has}
use Rattle.factors.specs.Copies.{source, onward, back}
use Rattle.factors.specs.parts.Chains.{Chained}
use Rattle.tables.specs.parts.Tables.{named_slot}
use Rattle.factors.specs.parts.Walks.{NoSources, Sources, put_source}
use Rattle.factors.proofs.Walks.{after_same}
use Rattle.factors.proofs.Chains.{dest-source, source-low}

-- the sources among the first g slots are in the table
pub record SourcesTo (places : List ℕ) (g : ℕ) (noted : List ℕ) : Type 0 where
  pub sources : (d : ℕ) → d < length places → get_or noted d 0 ≡ seek FREE g (names places d)
  pub long : 4097 ≤ length noted

-- a list as it is made
pub made_none : (n : ℕ) → n ≤ 4096 → (noted : List ℕ) → noted ≡ replicate 4097 65535 → NoSources n noted
made_none n l noted e = rw e (record { none = λ d m. get_or-replicate 4097 d 65535 0 (omega arith); long = omega (arith, length-replicate {A = ℕ} 4097 65535) })

-- no entry is cleared yet
pub cleared-none : (noted : List ℕ) → 4097 ≤ length noted → NoSources 0 noted
cleared-none noted l = record { none = λ d m. absurd (omega arith); long = l }

-- one entry more
pub cleared_more : (d : ℕ) (noted : List ℕ) → d < length noted → NoSources d noted → NoSources (d + 1) (set noted d 65535)
cleared_more d noted l s = record {
  none = λ k m. elim (ℕ_discrete k d) [
    | yes e ↦ rw e (get_or-set_same noted d 65535 0 l)
    | no q ↦ get_or-set_other noted d k 65535 0 q ∙ s.none k (omega arith)
  ];
  long = omega (arith, length-set noted d 65535, s.long);
}

-- the card in slot g makes g the source of its destination
pub put-source-is : (noted : List ℕ) (x g to : ℕ) → to ≡ named_slot 4096 x → set noted to g ≡ put_source noted x g
unfolding put_source
put-source-is noted x g to e = rw e

-- an entry that is free, or names a slot, has a place in the table
pub source-place : (x : ℕ) → (x ≢ FREE → x < 4096) → named_slot 4096 x < 4097
unfolding named_slot
source-place x h = elim (ℕ_discrete x FREE) [
  | yes e ↦ rw (eq-eqb x FREE e) (omega arith)
  | no q ↦ rw (ne_eqb x FREE q) (omega (arith, h q))
]

seek-on : (places : List ℕ) (g d : ℕ) → dest places g ≡ d → seek FREE (g + 1) (names places d) ≡ g
unfolding seek names
seek-on places g d e = rw (add-one g, eq-eqb (dest places g) d e)

seek-off : (places : List ℕ) (g d : ℕ) → dest places g ≢ d → seek FREE (g + 1) (names places d) ≡ seek FREE g (names places d)
unfolding seek names
seek-off places g d q = rw (add-one g, ne_eqb (dest places g) d q)

module _ (places : List ℕ) where
  -- at first there are none
  pub sources-none : (noted : List ℕ) → NoSources (length places) noted → SourcesTo places 0 noted
  unfolding seek
  sources-none noted s = record { sources = s.none; long = s.long }

  -- one slot's entry more
  pub sources-more : length places ≤ 4096 → (g : ℕ) (noted after : List ℕ) → SourcesTo places g noted → after ≡ put_source noted (dest places g) g → SourcesTo places (g + 1) after
  unfolding put_source named_slot
  sources-more small g noted after s e = elim (ℕ_discrete (dest places g) FREE) [
    | yes f ↦
        let put : after ≡ set noted 4096 g = e ∙ rw (eq-eqb (dest places g) FREE f) in
        rw put (record {
          sources = λ d l. get_or-set_other noted 4096 d g 0 (λ i. omega arith) ∙ s.sources d l ∙ sym (seek-off places g d (λ i. omega arith));
          long = omega (arith, length-set noted 4096 g, s.long);
        })
    | no q ↦
        let put : after ≡ set noted (dest places g) g = e ∙ rw (ne_eqb (dest places g) FREE q) in
        rw put (record {
          sources = λ d l. elim (ℕ_discrete d (dest places g)) [
            | yes i ↦ rw i (get_or-set_same noted (dest places g) g 0 (omega (arith, s.long)) ∙ sym (seek-on places g (dest places g) refl))
            | no i ↦ get_or-set_other noted (dest places g) d g 0 i ∙ s.sources d l ∙ sym (seek-off places g d (λ j. i (sym j)))
          ];
          long = omega (arith, length-set noted (dest places g) g, s.long);
        })
  ]

  -- after all entries the table is the inverse
  pub sources-all : (g : ℕ) (noted : List ℕ) → g ≡ length places → SourcesTo places g noted → Sources places noted
  unfolding source
  sources-all g noted e s = record { sources = λ d l. s.sources d l ∙ ap (λ (n : ℕ). seek FREE n (names places d)) e; long = s.long }

-- the inverse of S slots, as a table of its own
module _ {places noted : List ℕ} (ok : Chained places) (s : Sources places noted) where
  abbrev inverse : List ℕ
  inverse = take (length places) noted

  -- it is as long
  pub length-inverse : length inverse ≡ length places
  length-inverse = length-take-le (length places) noted (omega (arith, ok.small, s.long))

  inverse-dest : (x : ℕ) → x < length places → dest inverse x ≡ source places x
  inverse-dest x l = sym (read-dest inverse x (omega (arith, length-inverse))) ∙ get_or-take (length places) noted x 0 l ∙ s.sources x l

  inverse-has : (x : ℕ) → dest inverse x ≢ FREE → dest inverse x ≡ source places x
  inverse-has x q = inverse-dest x (omega (arith, dest-has inverse x q, length-inverse))

  undone : (x : ℕ) → dest inverse x ≢ FREE → dest places (dest inverse x) ≡ x
  undone x q = let e = inverse-has x q in rw e (dest-source ok x (λ u. q (e ∙ u)))

  -- its entries are slots, no two the same
  pub inverse-chained : Chained inverse
  inverse-chained = record {
    small = omega (arith, length-inverse, ok.small);
    below = λ x q. let e = inverse-has x q in omega (arith, e, source-low ok x (λ u. q (e ∙ u)), length-inverse);
    once = λ x y e q. sym (undone x q) ∙ ap (dest places) e ∙ undone y (λ u. q (e ∙ u));
  }

  -- the way on by it is the way back
  pub inverse-onward : (k : ℕ) → k < length places → onward inverse k ≡ back places k
  unfolding onward back
  inverse-onward k l = rw length-inverse (after_same (dest inverse) (source places) k (length places) inverse-dest (source-low ok) (length places) k l)

-- a card's destination, as the code reads it, is a slot of the table
pub entry-low : {places : List ℕ} → Chained places → (g : ℕ) → g < length places → get_or places g 0 ≢ FREE → get_or places g 0 < length places
entry-low {places} ok g l q = let e = read-dest places g l in rw e (ok.below g (rw e at q))

-- so the slot that an entry names is one, and a free slot itself
pub named-low : {places : List ℕ} → Chained places → (g : ℕ) → g < length places → named_slot g (dest places g) < length places
unfolding named_slot
named-low {places} ok g l = elim (ℕ_discrete (dest places g) FREE) [
  | yes e ↦ rw (eq-eqb (dest places g) FREE e) l
  | no q ↦ rw (ne_eqb (dest places g) FREE q) (ok.below g q)
]
