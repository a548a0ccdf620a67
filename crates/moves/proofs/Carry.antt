-- What a list of moves does to the table, each to a free slot or allowed when its turn comes; pairs that are allowed and apart are such a list. Assumes nothing.
use mathlib.Core.Path.{◌≡◌, refl, ap, sym, ◌∙◌}
use mathlib.Core.Logic.{◌≢◌}
use mathlib.Core.List.{List, [], ◌∷◌, ◌++◌}
use Prim.Native.Nat.{ℕ, zero, suc, ◌+◌}
use native.Mathlib.Omega.{arith}
use lib.ListN.{length, take}
use borrow.Author.Tests.{eqb-true, eq-eqb}
use Rattle.counting.specs.Tests.{bit}
use Rattle.counting.specs.Count.{count}
use Rattle.counting.specs.Lists.{Pair, matching}
use Rattle.counting.proofs.Tests.{by-test, no_way, both, and_l, and_r}
use Rattle.counting.specs.Every.{All, Pairwise}
use Rattle.counting.proofs.Every.{all_map, all_both}
use Rattle.counting.specs.Every.All.{more, none}
use Rattle.counting.specs.Every.Pairwise.{end, link}
use Rattle.racks.specs.Limits.{FREE}
use Rattle.racks.specs.Racks.{Rack, slots, rack_of}
use Rattle.racks.specs.Table.{rack_to, aways, owes, names}
use Rattle.racks.specs.parts.Legal.{Legal}
use Rattle.plans.specs.Allowed.{Allowed, Apart}
use Rattle.moves.specs.Turns.{InTurn, Moving}
use Rattle.moves.specs.Turns.InTurn.{stop, next}
use Rattle.moves.specs.Turns.Moving.{still, move}
use Rattle.moves.specs.Awaits.{awaits}
use Rattle.moves.specs.Moves.{moved_places, moved_cards, carried_places, carried_cards, between, Held, carried}
use Rattle.moves.proofs.Blocks.{length-moved-cards}
use Rattle.moves.proofs.Moved.{legal-moved, stands-moved, allowed-free, aways-moved, owes-moved, owes-other, allowed-kept}

-- the table after moves and further moves
pub places-append : (ms ns : List Pair) (places : List ℕ) → carried_places (ms ++ ns) places ≡ carried_places ns (carried_places ms places)
unfolding carried_places
places-append [] ns places = refl
places-append (m ∷ ms) ns places = places-append ms ns (moved_places m places)

-- the cards after moves and further moves
pub cards-append : (b : ℕ) (ms ns : List Pair) (cards : List ℕ) → carried_cards b (ms ++ ns) cards ≡ carried_cards b ns (carried_cards b ms cards)
unfolding carried_cards
cards-append b [] ns cards = refl
cards-append b (m ∷ ms) ns cards = cards-append b ms ns (moved_cards b m cards)

-- the table and the cards after moves and further moves
pub carried-append : (b : ℕ) (ms ns : List Pair) (h : Held) → carried b (ms ++ ns) h ≡ carried b ns (carried b ms h)
carried-append b ms ns h = rw (places-append ms ns h.places, cards-append b ms ns h.cards)

-- moves keep the length of the buffer
pub length-carried-cards : (b : ℕ) (ms : List Pair) (cards : List ℕ) → length (carried_cards b ms cards) ≡ length cards
unfolding carried_cards
length-carried-cards b [] cards = refl
length-carried-cards b (m ∷ ms) cards = length-carried-cards b ms (moved_cards b m cards) ∙ length-moved-cards b m cards

module _ {racks : List Rack} where
  -- pairs that are allowed and share no end may be carried one after another
  pub pairs_in-turn : {places : List ℕ} {ms : List Pair} → Legal racks places → Pairwise Apart ms → All (Allowed racks places) ms → InTurn racks places ms
  pairs_in-turn l end none = stop
  pairs_in-turn {places = places} l (link {x = x} d p) (more a rest) =
      next a (pairs_in-turn {places = moved_places x places} (legal-moved l (allowed-free a)) p (all_map (λ n h. allowed-kept l a h.0 h.1) (all_both d rest)))

  -- the first moves of such a list are one
  pub in-turn-take : (k : ℕ) {places : List ℕ} {ms : List Pair} → InTurn racks places ms → InTurn racks places (take k ms)
  in-turn-take zero t = stop
  in-turn-take (suc k) stop = stop
  in-turn-take (suc k) (next a t) = next a (in-turn-take k t)

  -- such a list and, behind it, another
  pub in-turn-append : {places : List ℕ} {ms ns : List Pair} → InTurn racks places ms → InTurn racks (carried_places ms places) ns → InTurn racks places (ms ++ ns)
  unfolding carried_places
  in-turn-append stop u = u
  in-turn-append (next a t) u = next a (in-turn-append t u)

  -- moves that are allowed in turn are moves to free slots
  pub in-turn-moving : {places : List ℕ} {ms : List Pair} → InTurn racks places ms → Moving racks places ms
  in-turn-moving stop = still
  in-turn-moving (next a t) = move (allowed-free a) (in-turn-moving t)

  -- the table stays legal
  pub legal-carried : {places : List ℕ} {ms : List Pair} → Legal racks places → Moving racks places ms → Legal racks (carried_places ms places)
  unfolding carried_places
  legal-carried l still = l
  legal-carried l (move f t) = legal-carried (legal-moved l f) t

  -- so after allowed moves
  pub legal_in-turn : {places : List ℕ} {ms : List Pair} → Legal racks places → InTurn racks places ms → Legal racks (carried_places ms places)
  legal_in-turn l t = legal-carried l (in-turn-moving t)

  -- every destination stands in the table as often as before
  pub stands-carried : {places : List ℕ} {ms : List Pair} → Legal racks places → Moving racks places ms → (d : ℕ) → d ≢ FREE
      → count (slots racks) (names places d) ≡ count (slots racks) (names (carried_places ms places) d)
  unfolding carried_places
  stands-carried l still d n = refl
  stands-carried l (move f t) d n = stands-moved l f d n ∙ stands-carried (legal-moved l f) t d n

  -- each move brings one card to its rack
  pub aways-carried : {places : List ℕ} {ms : List Pair} → Legal racks places → InTurn racks places ms → aways racks places ≡ length ms + aways racks (carried_places ms places)
  unfolding carried_places
  aways-carried l stop = omega arith
  aways-carried l (next a t) = omega (arith, aways-moved l a, aways-carried (legal-moved l (allowed-free a)) t)

  -- a move from rack i to rack p is one card that i owed p
  pub owes-step : {places : List ℕ} {m : Pair} → Legal racks places → Allowed racks places m → (i p : ℕ)
      → owes racks places i p ≡ bit (between racks i p m) + owes racks (moved_places m places) i p
  unfolding between
  owes-step {places} {m} l a i p = by-test (between racks i p m)
      (λ e.
      let x : rack_of racks m.0 ≡ i = eqb-true _ _ (and_l _ e) in
      let y : rack_to racks places m.0 ≡ p = sym a.meets ∙ eqb-true _ _ (and_r _ e) in
      omega (arith, ap bit e, rw (x, y) at (owes-moved l a)))
      (λ e. omega (arith, ap bit e, owes-other l a i p (λ x y. no_way (both (eq-eqb (rack_of racks m.0) i x) (eq-eqb (rack_of racks m.1) p (a.meets ∙ y))) e)))

  -- what rack i owed rack p: the moves made from i to p, and what it owes it still
  pub owes-carried : {places : List ℕ} {ms : List Pair} → Legal racks places → InTurn racks places ms → (i p : ℕ)
      → owes racks places i p ≡ matching (between racks i p) ms + owes racks (carried_places ms places) i p
  unfolding carried_places matching
  owes-carried l stop i p = omega arith
  owes-carried l (next a t) i p = omega (arith, owes-step l a i p, owes-carried (legal-moved l (allowed-free a)) t i p)

  -- what rack p awaits from rack i is what i owes p in the table after the moves made
  pub awaits-owes : {start : List ℕ} {made : List Pair} → Legal racks start → InTurn racks start made → (i p : ℕ)
      → awaits racks start made i p ≡ owes racks (carried_places made start) i p
  unfolding awaits
  awaits-owes l t i p = omega (arith, owes-carried l t i p)
