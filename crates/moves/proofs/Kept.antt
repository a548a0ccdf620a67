-- Moves keep every card: the card bound for a slot has the bytes that it had, wherever it lies. Assumes nothing.
use mathlib.Core.Path.{◌≡◌, ap, sym, ◌∙◌}
use mathlib.Core.Logic.{◌≢◌}
use mathlib.Core.List.{List}
use Prim.Native.Nat.{ℕ, ◌*◌, ◌<◌}
use native.Mathlib.Decide.{ℕ_discrete}
use lib.ListN.{length}
use borrow.Author.Tests.{eqb-true}
use Rattle.counting.specs.Lists.{Pair}
use Rattle.racks.specs.Limits.{FREE}
use Rattle.racks.specs.Racks.{Rack, slots}
use Rattle.racks.specs.Table.{dest, free}
use Rattle.racks.specs.parts.Legal.{Legal}
use Rattle.moves.specs.Blocks.{block}
use Rattle.moves.specs.Moves.{moved_places, moved_cards, carried_places, carried_cards}
use Rattle.moves.proofs.Pairs.{free-ends}
use Rattle.moves.proofs.Moved.{moved-places, legal-moved}
use Rattle.moves.proofs.Blocks.{moved-cards, length-moved-cards}
use Rattle.moves.specs.Turns.{ToFree, Moving}
use Rattle.moves.specs.Turns.Moving.{still, move}

-- the card that is bound for slot d lies in a slot, with these bytes
pub record Card (racks : List Rack) (b : ℕ) (places cards : List ℕ) (d : ℕ) (bytes : List ℕ) : Type 0 where
  pub at : ℕ
  pub at_lt : at < slots racks
  pub bound_for : dest places at ≡ d
  pub bytes-are : block b at cards ≡ bytes

module _ {racks : List Rack} {b d : ℕ} (card : d ≢ FREE) {bytes : List ℕ} where
  -- a card to any free slot
  pub card-moved : {places cards : List ℕ} {m : Pair} → Legal racks places → length cards ≡ slots racks * b → ToFree racks places m
      → Card racks b places cards d bytes → Card racks b (moved_places m places) (moved_cards b m cards) d bytes
  unfolding free
  card-moved {places} {cards} {m} l long f c =
      let t = moved-places places l.long (free-ends f) in
      let k = moved-cards b (slots racks) cards long (free-ends f) in
      elim (ℕ_discrete c.at m.0) [
        | yes e ↦
            record {
              at = m.1;
              at_lt = f.to_lt;
              bound_for = t.at-to ∙ ap (dest places) (sym e) ∙ c.bound_for;
              bytes-are = k.at-to ∙ ap (λ (g : ℕ). block b g cards) (sym e) ∙ c.bytes-are;
            }
        | no u ↦ elim (ℕ_discrete c.at m.1) [
          | yes e ↦ absurd (card (sym c.bound_for ∙ ap (dest places) e ∙ eqb-true _ _ f.is_free))
          | no v ↦
              record { at = c.at; at_lt = c.at_lt; bound_for = t.other c.at u v ∙ c.bound_for; bytes-are = k.other c.at u v ∙ c.bytes-are }
        ]
      ]

  -- any list of moves, each to a slot that is free when its turn comes
  pub card-carried : {places cards : List ℕ} {ms : List Pair} → Legal racks places → length cards ≡ slots racks * b → Moving racks places ms
      → Card racks b places cards d bytes → Card racks b (carried_places ms places) (carried_cards b ms cards) d bytes
  unfolding carried_places carried_cards
  card-carried l long still c = c
  card-carried {cards} l long (move {m} f t) c = card-carried (legal-moved l f) (length-moved-cards b m cards ∙ long) t (card-moved l long f c)
