-- Every card home: the shuffle brings it there after any moves to free slots, there is one such table with its cards, and from there it stays home.
-- Assumes nothing.
use mathlib.Core.Path.{◌≡◌, refl, ap, sym, ◌∙◌}
use mathlib.Core.Logic.{◌≢◌}
use mathlib.Core.List.{List}
use Prim.Native.Nat.{ℕ, ◌*◌, ◌≤◌, ◌<◌}
use native.Mathlib.Omega.{arith}
use lib.ListN.{length}
use lib.Seq.{ext_get_or}
use borrow.Author.Tests.{eqb-true, eq-eqb, ne_eqb, eqb-false}
use Rattle.counting.specs.Lists.{Pair}
use Rattle.counting.proofs.Count.{find, count-zero, count-pos}
use Rattle.counting.proofs.Count.Found.{here, nowhere}
use Rattle.counting.proofs.Lists.{length-tabulate}
use Rattle.racks.specs.Limits.{FREE}
use Rattle.racks.specs.Racks.{Rack, slots}
use Rattle.racks.specs.Table.{dest, free, names}
use Rattle.racks.specs.parts.Legal.{Legal}
use Rattle.racks.proofs.LegalTable.{legal-slot}
use Rattle.moves.specs.Blocks.{block}
use Rattle.moves.specs.Moves.{Held, held, carried_places, carried}
use Rattle.moves.specs.Turns.{Moving}
use Rattle.moves.proofs.Blocks.{blocks_ext}
use Rattle.moves.proofs.Carry.{legal-carried, stands-carried, length-carried-cards}
use Rattle.moves.proofs.Kept.{Card, card-carried}
use Rattle.factors.proofs.Chains.{chained}
use Rattle.shuffle.specs.Shuffle.{brought, last_entry, last_card, settled_held}
use Rattle.shuffle.specs.Home.{Home}
use Rattle.shuffle.proofs.Bytes.{length-brought}
use Rattle.shuffle.proofs.Settled.{is-named, not_named, length-slots, length_last, settled-card, settled-blank, settled-self, settled-free}

-- a legal table of at most 4,096 slots, with its cards
module _ (racks : List Rack) (b : ℕ) (h : Held) (legal : Legal racks h.places) (small : slots racks ≤ 4096) (long : length h.cards ≡ slots racks * b) where
  settled-places : length (settled_held racks b h).places ≡ slots racks
  unfolding settled_held
  settled-places = length-tabulate (slots racks) (last_entry h.places)

  settled-cards : length (settled_held racks b h).cards ≡ slots racks * b
  unfolding settled_held
  settled-cards =
      length-slots b (last_card b h.places (brought b h.places h.cards)) (slots racks)
      (λ k l. length_last b h.places (brought b h.places h.cards) (length-brought (chained legal small) b h.cards (rw legal.long long)) k (omega (arith, legal.long)))

  -- the list run, then settled slots named and free ones zeroed
  pub settled-home : Home racks b h (settled_held racks b h)
  settled-home =
      record {
        card = settled-card racks b h legal small long;
        self = λ g d l e f.
            settled-self racks b h d (legal-slot racks h.places legal g d (omega (arith, legal.long)) (sym e) f)
            (is-named h.places d g (omega (arith, legal.long)) e);
        zero = settled-blank racks b h legal small long;
        none = λ d l n. settled-free racks b h d l (not_named h.places d (λ g m. n g (omega (arith, legal.long))));
        places-long = settled-places;
        cards-long = settled-cards;
      }

  module _ {ms : List Pair} (moving : Moving racks h.places ms) where
    -- the card of slot g, after the moves
    card-after : (g d : ℕ) → g < slots racks → dest h.places g ≡ d → d ≢ FREE
        → Card racks b (carried b ms h).places (carried b ms h).cards d (block b g h.cards)
    card-after g d l e f = card-carried f legal long moving (record { at = g; at_lt = l; bound_for = e; bytes-are = refl })

    -- a slot that no entry named, none names after the moves
    none_after : (d : ℕ) → d < slots racks → ((g : ℕ) → g < slots racks → dest h.places g ≢ d) → (g : ℕ) → g < slots racks → dest (carried_places ms h.places) g ≢ d
    unfolding names
    none_after d l n g m e =
        omega (
          arith,
          stands-carried legal moving d (λ q. omega arith),
          count-zero (slots racks) (names h.places d) (λ k i. ne_eqb (dest h.places k) d (n k i)),
          count-pos (slots racks) (names (carried_places ms h.places) d) g m (eq-eqb (dest (carried_places ms h.places) g) d e),
        )

    -- what is home after moves to free slots is home from the start
    pub home-carried : {end : Held} → Home racks b (carried b ms h) end → Home racks b h end
    home-carried x =
        record {
          card = λ g d l e f. let c = card-after g d l e f in x.card c.at d c.at_lt c.bound_for f ∙ c.bytes-are;
          self = λ g d l e f. let c = card-after g d l e f in x.self c.at d c.at_lt c.bound_for f;
          zero = λ d l n. x.zero d l (none_after d l n);
          none = λ d l n. x.none d l (none_after d l n);
          places-long = x.places-long;
          cards-long = x.cards-long;
        }

-- **Any moves to free slots, then the shuffle: every card is home**
pub moving-home : (racks : List Rack) (b : ℕ) (h : Held) → Legal racks h.places → slots racks ≤ 4096 → length h.cards ≡ slots racks * b → {ms : List Pair}
    → Moving racks h.places ms → Home racks b h (settled_held racks b (carried b ms h))
moving-home racks b h legal small long {ms} moving =
    home-carried racks b h legal small long moving
    (settled-home racks b (carried b ms h) (legal-carried legal moving) small (length-carried-cards b ms h.cards ∙ long))

-- two tables with cards where all that h holds is home
module _ {racks : List Rack} {b : ℕ} {h x y : Held} (small : slots racks ≤ 4096) (u : Home racks b h x) (v : Home racks b h y) where
  -- a slot has the same entry and the same bytes in both: an entry of h names it, or none does
  same-slot : (d : ℕ) → d < slots racks → (dest x.places d ≡ dest y.places d) × (block b d x.cards ≡ block b d y.cards)
  unfolding names
  same-slot d l = elim (find (slots racks) (names h.places d)) [
    | here g m t ↦
        let e : dest h.places g ≡ d = eqb-true _ _ t in
        let f : d ≢ FREE = λ q. omega arith in
        (u.self g d m e f ∙ sym (v.self g d m e f), u.card g d m e f ∙ sym (v.card g d m e f))
    | nowhere t ↦
        let n : (g : ℕ) → g < slots racks → dest h.places g ≢ d = λ g m. eqb-false _ _ (t g m) in
        (u.none d l n ∙ sym (v.none d l n), u.zero d l n ∙ sym (v.zero d l n))
  ]

  -- **There is one**
  pub home-one : x ≡ y
  home-one =
      let places-are = ext_get_or FREE x.places y.places (u.places-long ∙ sym v.places-long) (λ d l. (same-slot d (omega (arith, u.places-long))).0) in
      let cards-are = blocks_ext b (slots racks) x.cards y.cards u.cards-long v.cards-long (λ d l. (same-slot d l).1) in
      ap (λ (p : List ℕ). held p x.cards) places-are ∙ ap (held y.places) cards-are

-- a legal table with its cards, and one where all that it holds is home
module _ {racks : List Rack} {b : ℕ} {h x : Held} (legal : Legal racks h.places) (small : slots racks ≤ 4096) (u : Home racks b h x) where
  -- an entry there names its own slot, and one of h does too; or it is free
  own-slot : (g d : ℕ) → g < slots racks → dest x.places g ≡ d → d ≢ FREE → (d ≡ g) × (k : ℕ) × (k < slots racks) × (dest h.places k ≡ d)
  unfolding names
  own-slot g d l e f = elim (find (slots racks) (names h.places g)) [
    | here k m t ↦
        let q : dest h.places k ≡ g = eqb-true _ _ t in
        let same : d ≡ g = sym e ∙ u.self k g m q (λ z. omega arith) in
        (same, k, m, q ∙ sym same)
    | nowhere t ↦ absurd (f (sym e ∙ u.none g l (λ k m. eqb-false _ _ (t k m))))
  ]

  -- so it is legal
  pub home-legal : Legal racks x.places
  unfolding free
  home-legal =
      record {
        long = u.places-long;
        named = λ g l t.
            let o = own-slot g _ l refl (eqb-false _ _ t) in
            rw (sym o.3) (legal.named o.1 o.2 (rw o.3 t));
        once = λ g k l m t e.
            let f = eqb-false _ _ t in
            sym (own-slot g _ l refl f).0 ∙ (own-slot k _ m (sym e) f).0;
      }

  -- and what is home from there is home from the start
  pub home_again : {y : Held} → Home racks b x y → Home racks b h y
  home_again v =
      let in_table : (g d : ℕ) → g < slots racks → dest h.places g ≡ d → d ≢ FREE → d < slots racks =
      λ g d l e f. legal-slot racks h.places legal g d (omega (arith, legal.long)) (sym e) f in
      let still : (d : ℕ) → ((g : ℕ) → g < slots racks → dest h.places g ≢ d) → d < slots racks → (g : ℕ) → g < slots racks → dest x.places g ≢ d =
      λ d n l g m e. let o = own-slot g d m e (λ z. omega arith) in n o.1 o.2 o.3 in
      record {
        card = λ g d l e f. v.card d d (in_table g d l e f) (u.self g d l e f) f ∙ u.card g d l e f;
        self = λ g d l e f. v.self d d (in_table g d l e f) (u.self g d l e f) f;
        zero = λ d l n. v.zero d l (still d n l);
        none = λ d l n. v.none d l (still d n l);
        places-long = v.places-long;
        cards-long = v.cards-long;
      }
