-- What one move does to the table: a card to any free slot, and a card to its own rack. Assumes nothing.
use mathlib.Core.Path.{◌≡◌, refl, ap, sym, ◌∙◌}
use mathlib.Core.Bool.{true, false}
use mathlib.Core.Logic.{◌≢◌}
use mathlib.Core.List.{List, [], ◌∷◌}
use Prim.Native.Nat.{ℕ, suc, ◌<◌}
use native.Mathlib.Omega.{arith}
use native.Mathlib.Decide.{ℕ_discrete}
use lib.ListN.{length, set, length-set}
use lib.Seq.{get_or-set_same, get_or-set_other}
use borrow.Author.Tests.{eqb-true, eq-eqb, ne_eqb}
use Rattle.counting.specs.Count.{count}
use Rattle.counting.specs.Lists.{Pair}
use Rattle.counting.proofs.Tests.{by-test, off, no_way, both, and_l, and_r, and-off_l}
use Rattle.counting.specs.Every.All.{more, none}
use Rattle.counting.proofs.Members.{among_none, among-last, besides, besides_in, besides-out, besides-off}
use Rattle.counting.proofs.Count.{count_cong, count_change, count-move}
use Rattle.racks.specs.Limits.{FREE}
use Rattle.racks.specs.Racks.{Rack, slots, rack_of}
use Rattle.racks.specs.Table.{dest, free, rack_to, on_rack, away, aways, away_to, bound, owes, names}
use Rattle.racks.specs.parts.Legal.{Legal}
use Rattle.racks.proofs.Away.{away-held, away-off}
use Rattle.plans.specs.Allowed.{Allowed, Apart}
use Rattle.moves.specs.Moves.{moved_places}
use Rattle.moves.specs.Turns.{ToFree}
use Rattle.moves.proofs.Pairs.{Moved, Ends, free-ends, free-disjoint}

-- a move keeps the length of the table
pub length_moved : (m : Pair) (places : List ℕ) → length (moved_places m places) ≡ length places
unfolding moved_places
length_moved m places = simp length-set

-- after a move the target has the card's entry, the source 65,535, any other slot what it had
pub moved-places : {S : ℕ} {m : Pair} (places : List ℕ) → length places ≡ S → Ends S m → Moved FREE m (dest places) (dest (moved_places m places))
unfolding moved_places
moved-places {S} {m} places sized e =
    let middle : List ℕ = set places m.1 (dest places m.0) in
    record {
      at_from = get_or-set_same middle m.0 FREE FREE (simp length-set (omega (arith, e.from_lt)));
      at-to = get_or-set_other middle m.0 m.1 FREE FREE (λ q. e.differ (sym q)) ∙ get_or-set_same places m.1 (dest places m.0) FREE (omega (arith, e.to_lt));
      other = λ g a b. get_or-set_other middle m.0 g FREE FREE a ∙ get_or-set_other places m.1 g (dest places m.0) FREE b;
    }

-- a card that is not away is bound for no rack
bound-off : (racks : List Rack) (places : List ℕ) (i p g : ℕ) → away racks places g ≡ false → bound racks places i p g ≡ false
unfolding bound away_to
bound-off racks places i p g h = off (λ k. no_way (and_l _ (and_l _ k)) h)

-- a card to any free slot
module _ {racks : List Rack} {places : List ℕ} {m : Pair} (l : Legal racks places) (f : ToFree racks places m) where
  moved : Moved FREE m (dest places) (dest (moved_places m places))
  moved = moved-places places l.long (free-ends f)

  -- the source is free
  pub free-from : free (moved_places m places) m.0 ≡ true
  unfolding free
  free-from = eq-eqb _ _ moved.at_from

  -- any other slot is free where it was
  pub same-free : (g : ℕ) → g ≢ m.0 → g ≢ m.1 → free (moved_places m places) g ≡ free places g
  unfolding free
  same-free g a b = rw (moved.other g a b)

  -- the target is not free
  pub taken-to : free (moved_places m places) m.1 ≡ false
  unfolding free
  taken-to = rw moved.at-to f.is_held

  -- a card stands in slot g after the move: it came, or it stayed
  data Origin (g : ℕ) : Type 0 where
    came : g ≡ m.1 → Origin g
    stayed : g ≢ m.0 → g ≢ m.1 → Origin g

  origin : (g : ℕ) → free (moved_places m places) g ≡ false → Origin g
  origin g h = elim (ℕ_discrete g m.1) [
    | yes e ↦ came e
    | no b ↦ stayed (λ e. no_way free-from (rw e at h)) b
  ]

  once_by : (g h : ℕ) → g < slots racks → h < slots racks → Origin g → Origin h → free (moved_places m places) g ≡ false
      → dest (moved_places m places) g ≡ dest (moved_places m places) h → g ≡ h
  once_by g h k n (came p) (came q) a e = cc
  once_by g h k n (came p) (stayed u v) a e =
      absurd (u (sym (l.once m.0 h f.from_lt n f.is_held (cc (moved.at-to, moved.other h u v)))))
  once_by g h k n (stayed u v) (came q) a e =
      absurd (u (l.once g m.0 k f.from_lt (sym (same-free g u v) ∙ a) (cc (moved.at-to, moved.other g u v))))
  once_by g h k n (stayed u v) (stayed u' v') a e =
      l.once g h k n (sym (same-free g u v) ∙ a) (cc (moved.other g u v, moved.other h u' v'))

  -- the table stays legal
  pub legal-moved : Legal racks (moved_places m places)
  unfolding free
  legal-moved = record {
    long = length_moved m places ∙ l.long;
    named = λ g k a. elim (origin g a) [
      | came e ↦ rw (e, moved.at-to) (l.named m.0 f.from_lt f.is_held)
      | stayed u v ↦ rw (moved.other g u v) (l.named g k (sym (same-free g u v) ∙ a))
    ];
    once = λ g h k n a e. once_by g h k n (origin g a) (origin h (rw e at a)) a e;
  }

  -- every destination stands in the table as often as before
  pub stands-moved : (d : ℕ) → d ≢ FREE → count (slots racks) (names places d) ≡ count (slots racks) (names (moved_places m places) d)
  unfolding names free
  stands-moved d n =
      let none-to : names places d m.1 ≡ false = ne_eqb _ _ (λ e. n (sym e ∙ eqb-true _ _ f.is_free)) in
      let none_from : names (moved_places m places) d m.0 ≡ false = ne_eqb _ _ (λ e. n (sym e ∙ moved.at_from)) in
      by-test (names places d m.0)
      (λ e. count-move (slots racks) _ _ m.0 m.1 f.from_lt f.to_lt e none-to none_from (rw moved.at-to e) (λ j _ a b. rw (moved.other j a b)))
      (λ e. count_cong (slots racks) _ _ (λ j _. elim (ℕ_discrete j m.0) [
        | yes q ↦ rw q (e ∙ sym none_from)
        | no a ↦ elim (ℕ_discrete j m.1) [ yes q ↦ rw (q, none-to, moved.at-to, e) | no b ↦ rw (moved.other j a b) ]
      ]))

  -- a card and a free slot stay so, where they are neither source nor target of the pair moved
  pub free-kept : {n : Pair} → Apart m n → ToFree racks places n → ToFree racks (moved_places m places) n
  free-kept {n} d h =
      let q = free-disjoint f h d in
      record {
        from_lt = h.from_lt;
        to_lt = h.to_lt;
        is_held = same-free n.0 q.from-from q.from-to ∙ h.is_held;
        is_free = same-free n.1 q.to-from q.to-to ∙ h.is_free;
      }

-- an allowed move is one to a free slot
pub allowed-free : {racks : List Rack} {places : List ℕ} {m : Pair} → Allowed racks places m → ToFree racks places m
allowed-free {racks} {places} {m} a = record { from_lt = a.from_lt; to_lt = a.to_lt; is_held = away-held racks places m.0 a.is-away; is_free = a.is_free }

-- a card to its own rack
module _ {racks : List Rack} {places : List ℕ} {m : Pair} (l : Legal racks places) (a : Allowed racks places m) where
  step : Moved FREE m (dest places) (dest (moved_places m places))
  step = moved l (allowed-free a)

  same-away : (g : ℕ) → g ≢ m.0 → g ≢ m.1 → away racks places g ≡ away racks (moved_places m places) g
  unfolding away free on_rack rack_to
  same-away g u v = rw (step.other g u v)

  -- no card is away in the target before, nor in either after
  away-to : away racks places m.1 ≡ false
  away-to = off (λ h. no_way a.is_free (away-held racks places m.1 h))

  left-from : away racks (moved_places m places) m.0 ≡ false
  left-from = off (λ h. no_way (free-from l (allowed-free a)) (away-held racks (moved_places m places) m.0 h))

  left-to : away racks (moved_places m places) m.1 ≡ false
  unfolding rack_to
  left-to = off (λ h. away-off racks (moved_places m places) m.1 h (rw step.at-to a.meets))

  -- one card fewer is away
  pub aways-moved : aways racks places ≡ suc (aways racks (moved_places m places))
  unfolding aways
  aways-moved = count_change (slots racks) _ _ m.0 a.from_lt a.is-away left-from
      (λ j _ u. elim (ℕ_discrete j m.1) [ yes e ↦ rw e (away-to ∙ sym left-to) | no v ↦ same-away j u v ])

  bound_else : (i p j : ℕ) → j ≢ m.0 → bound racks places i p j ≡ bound racks (moved_places m places) i p j
  unfolding bound away_to rack_to
  bound_else i p j u = elim (ℕ_discrete j m.1) [
    | yes e ↦ rw e (bound-off racks places i p m.1 away-to ∙ sym (bound-off racks (moved_places m places) i p m.1 left-to))
    | no v ↦ rw (same-away j u v, step.other j u v)
  ]

  -- the rack that the card leaves owes the rack that it comes to one card fewer
  pub owes-moved : owes racks places (rack_of racks m.0) (rack_to racks places m.0) ≡ suc (owes racks (moved_places m places) (rack_of racks m.0) (rack_to racks places m.0))
  unfolding owes bound away_to
  owes-moved = count_change (slots racks) _ _ m.0 a.from_lt
      (both (both a.is-away (eq-eqb (rack_to racks places m.0) _ refl)) (eq-eqb (rack_of racks m.0) _ refl))
      (bound-off racks (moved_places m places) _ _ m.0 left-from) (λ j _. bound_else _ _ j)

  -- no other two racks owe more or less
  pub owes-other : (i p : ℕ) → (rack_of racks m.0 ≡ i → rack_to racks places m.0 ≡ p → ⊥) → owes racks places i p ≡ owes racks (moved_places m places) i p
  unfolding owes bound away_to
  owes-other i p n = count_cong (slots racks) _ _ (λ j _. elim (ℕ_discrete j m.0) [
    | yes e ↦ rw e
        (off (λ h. n (eqb-true (rack_of racks m.0) i (and_r _ h)) (eqb-true (rack_to racks places m.0) p (and_r _ (and_l _ h))))
        ∙ sym (bound-off racks (moved_places m places) i p m.0 left-from))
    | no u ↦ bound_else i p j u
  ])

  -- away to rack p are those that were, but for the card moved
  pub to-moved : (p g : ℕ) → away_to racks (moved_places m places) p g ≡ besides (m.0 ∷ []) (away_to racks places p) g
  unfolding away_to rack_to
  to-moved p g = elim (ℕ_discrete g m.0) [
    | yes e ↦ rw e (and-off_l _ left-from ∙ sym (besides_in (m.0 ∷ []) (away_to racks places p) m.0 (among-last m.0 [])))
    | no u ↦ elim (ℕ_discrete g m.1) [
      | yes e ↦ rw e (and-off_l _ left-to ∙ sym (besides-off (m.0 ∷ []) (away_to racks places p) m.1 (and-off_l _ away-to)))
      | no v ↦
          rw (← (same-away g u v), step.other g u v)
          (sym (besides-out (m.0 ∷ []) (away_to racks places p) g (among_none (more u none))))
    ]
  ]

  -- an allowed pair stays allowed, where its source and its target are not those of the pair moved
  pub allowed-kept : {n : Pair} → Apart m n → Allowed racks places n → Allowed racks (moved_places m places) n
  unfolding rack_to
  allowed-kept {n} d b =
      let q = free-disjoint (allowed-free a) (allowed-free b) d in
      record {
        from_lt = b.from_lt;
        to_lt = b.to_lt;
        is-away = sym (same-away n.0 q.from-from q.from-to) ∙ b.is-away;
        is_free = (free-kept l (allowed-free a) d (allowed-free b)).is_free;
        meets = b.meets ∙ ap (rack_of racks) (sym (step.other n.0 q.from-from q.from-to));
      }
