-- Pairs that share no end, carried in any order, give the same table and the same cards. Assumes nothing.
use mathlib.Core.Path.{◌≡◌, refl, sym, ◌∙◌}
use mathlib.Core.List.{List, [], ◌∷◌, Permᴰ}
use Prim.Native.Nat.{ℕ, ◌*◌}
use native.Mathlib.Decide.{ℕ_discrete}
use lib.ListN.{length}
use lib.Seq.{ext_get_or}
use Rattle.counting.specs.Lists.{Pair}
use Rattle.counting.specs.Every.{All, Pairwise}
use Rattle.counting.proofs.Every.{all_map, all_both}
use Rattle.counting.specs.Every.All.{more, none}
use Rattle.counting.specs.Every.Pairwise.{end, link}
use Rattle.racks.specs.Limits.{FREE}
use Rattle.racks.specs.Racks.{Rack, slots}
use Rattle.racks.specs.parts.Legal.{Legal}
use Rattle.plans.specs.Allowed.{Allowed, Apart}
use Rattle.moves.specs.Moves.{moved_places, moved_cards, carried_places, carried_cards, Held, carried, Disjoint}
use Rattle.moves.specs.Turns.{InTurn}
use Rattle.moves.proofs.Carry.{pairs_in-turn}
use Rattle.moves.proofs.Pairs.{Moved, Ends, disjoint_sym, free-ends, free-disjoint}
use Rattle.moves.proofs.Moved.{allowed-free, length_moved, moved-places}
use Rattle.moves.proofs.Blocks.{length-moved-cards, moved-cards, blocks_ext}

-- what every member meets, every member meets in another order
all_perm : {A : Type 0} {P : A → Type 0} {a b : List A} → Permᴰ a b → All P a → All P b
all_perm Permᴰ.nil none = none
all_perm (Permᴰ.cons e d) (more p r) = let q = rw e at p in more q (all_perm d r)
all_perm (Permᴰ.swap e e') (more p (more q r)) =
    let p' = rw e at p in
    let q' = rw e' at q in
    more q' (more p' r)
all_perm (Permᴰ.trans d d') r = all_perm d' (all_perm d r)

-- pairs of which no two share an end, in another order
pairwise_perm : {a b : List Pair} → Permᴰ a b → Pairwise Disjoint a → Pairwise Disjoint b
pairwise_perm Permᴰ.nil end = end
pairwise_perm (Permᴰ.cons e d) (link p r) = let q = rw e at p in link (all_perm d q) (pairwise_perm d r)
pairwise_perm (Permᴰ.swap e e') (link (more d p) (link q r)) = rw (← e, ← e') (link (more (disjoint_sym d) q) (link p r))
pairwise_perm (Permᴰ.trans d d') r = pairwise_perm d' (pairwise_perm d r)

-- two moves of four ends, one way round and the other, slot by slot
module _ {A : Type 0} {z : A} {m n : Pair} {f f₁ f₁₂ f₂ f₂₁ : ℕ → A} (d : Disjoint m n)
    (first : Moved z m f f₁) (then : Moved z n f₁ f₁₂) (first' : Moved z n f f₂) (then' : Moved z m f₂ f₂₁) where
  moved_comm : (g : ℕ) → f₁₂ g ≡ f₂₁ g
  moved_comm g =
      let s = disjoint_sym d in
      elim (ℕ_discrete g m.0) [
        | yes e ↦ rw e (then.other m.0 s.from-from s.from-to ∙ first.at_from ∙ sym then'.at_from)
        | no a ↦ elim (ℕ_discrete g m.1) [
          | yes e ↦
              rw e
              (then.other m.1 s.to-from s.to-to ∙ first.at-to
              ∙ sym (then'.at-to ∙ first'.other m.0 s.from-from s.from-to))
          | no b ↦ elim (ℕ_discrete g n.0) [
            | yes e ↦ rw e (then.at_from ∙ sym (then'.other n.0 d.from-from d.from-to ∙ first'.at_from))
            | no a' ↦ elim (ℕ_discrete g n.1) [
              | yes e ↦
                  rw e
                  (then.at-to ∙ first.other n.0 d.from-from d.from-to
                  ∙ sym (then'.other n.1 d.to-from d.to-to ∙ first'.at-to))
              | no b' ↦ then.other g a' b' ∙ first.other g a b ∙ sym (then'.other g a b ∙ first'.other g a' b')
            ]
          ]
        ]
      ]

module _ {S : ℕ} {m n : Pair} (e : Ends S m) (e' : Ends S n) (d : Disjoint m n) where
  -- two moves of four ends may change places, for the table
  pub places_swap : (places : List ℕ) → length places ≡ S → moved_places n (moved_places m places) ≡ moved_places m (moved_places n places)
  places_swap places s =
      ext_get_or FREE _ _ (simp length_moved)
      (λ g _. moved_comm d (moved-places places s e) (moved-places (moved_places m places) (simp length_moved s) e') (moved-places places s e')
      (moved-places (moved_places n places) (simp length_moved s) e) g)

  -- two moves of four ends may change places, for the cards
  pub cards_swap : (b : ℕ) (cards : List ℕ) → length cards ≡ S * b → moved_cards b n (moved_cards b m cards) ≡ moved_cards b m (moved_cards b n cards)
  cards_swap b cards s =
      blocks_ext b S _ _ (simp length-moved-cards s) (simp length-moved-cards s)
      (λ g _. moved_comm d (moved-cards b S cards s e) (moved-cards b S (moved_cards b m cards) (simp length-moved-cards s) e')
      (moved-cards b S cards s e') (moved-cards b S (moved_cards b n cards) (simp length-moved-cards s) e) g)

-- the table has S entries, the cards S slots of b bytes
pub record Sized (S b : ℕ) (h : Held) : Type 0 where
  pub places-long : length h.places ≡ S
  pub cards-long : length h.cards ≡ S * b

module _ {S b : ℕ} where
  -- pairs of which no two share an end, in any order
  any-order_of : {ms ns : List Pair} → Permᴰ ms ns → All (Ends S) ms → Pairwise Disjoint ms → (h : Held) → Sized S b h → carried b ms h ≡ carried b ns h
  unfolding carried_places carried_cards
  any-order_of Permᴰ.nil e d h s = refl
  any-order_of (Permᴰ.cons {a = m} q r) (more e es) (link d ds) h s =
      rw (← q) (any-order_of r es ds (carried b (m ∷ []) h)
      (record { places-long = length_moved m h.places ∙ s.places-long; cards-long = length-moved-cards b m h.cards ∙ s.cards-long }))
  any-order_of (Permᴰ.swap {a = m} {b = n} {l} q q') (more e (more e' es)) (link (more d ds) r) h s =
      rw (← q, ← q', places_swap e e' d h.places s.places-long, cards_swap e e' d b h.cards s.cards-long)
  any-order_of (Permᴰ.trans r r') e d h s = any-order_of r e d h s ∙ any-order_of r' (all_perm r e) (pairwise_perm r d) h s

-- allowed pairs that are apart have ends that are all different
pub disjoint-pairs : {racks : List Rack} {places : List ℕ} {ms : List Pair} → Pairwise Apart ms → All (Allowed racks places) ms → Pairwise Disjoint ms
disjoint-pairs end none = end
disjoint-pairs (link d r) (more a rest) =
    link (all_map (λ n h. free-disjoint (allowed-free a) (allowed-free h.1) h.0) (all_both d rest)) (disjoint-pairs r rest)

-- allowed pairs that share no end, carried in any order, give the same table and the same cards
pub any_order : {racks : List Rack} {b : ℕ} {h : Held} {ms ns : List Pair} → Sized (slots racks) b h → Pairwise Apart ms → All (Allowed racks h.places) ms
    → Permᴰ ms ns → carried b ms h ≡ carried b ns h
any_order {h} s d a r = any-order_of r (all_map (λ m x. free-ends (allowed-free x)) a) (disjoint-pairs d a) h s

-- pairs that share no end are apart
apart-pairs : {ms : List Pair} → Pairwise Disjoint ms → Pairwise Apart ms
apart-pairs end = end
apart-pairs (link d r) = link (all_map (λ n x. (λ e. x.from-from (sym e), λ e. x.to-to (sym e))) d) (apart-pairs r)

-- in any order each is allowed when its turn comes
pub perm_in-turn : {racks : List Rack} {places : List ℕ} {ms ns : List Pair} → Legal racks places → Pairwise Apart ms → All (Allowed racks places) ms
    → Permᴰ ms ns → InTurn racks places ns
perm_in-turn l d a r = pairs_in-turn l (apart-pairs (pairwise_perm r (disjoint-pairs d a))) (all_perm r a)
