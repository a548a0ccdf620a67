-- Laws of carrying: one card moved, and the moves of a list, one after another. Assumes nothing.
use mathlib.Core.Path.{◌≡◌}
use mathlib.Core.List.{List, [], ◌∷◌}
use Prim.Native.Nat.{ℕ, ◌+◌, ◌<◌}
use native.Mathlib.Nat.{add-zero}
use native.Mathlib.Omega.{arith}
use lib.ListN.{length, get_or, set}
use Rattle.counting.specs.Lists.{Pair}
use Rattle.racks.specs.Limits.{FREE}
use Rattle.racks.proofs.Table.{read-dest}
use Rattle.answers.specs.Answers.{plus_move, plus_moves}
use Rattle.answers.specs.declared.Tally.{Tally}
use Rattle.moves.specs.Blocks.{block, put_block, blank}
use Rattle.moves.specs.Moves.{moved_places, moved_cards, carried_places, carried_cards, Held, carried, held}

-- one card moved: its entry, then its bytes copied, then its old slot blanked
pub moved-held : (b f t : ℕ) (places cards copied blanked : List ℕ) → f < length places → copied ≡ put_block b t (block b f cards) cards → blanked ≡ put_block b f (blank b) copied
    → held (set (set places t (get_or places f 0)) f FREE) blanked ≡ carried b ((f, t) ∷ []) (held places cards)
unfolding carried_places carried_cards moved_places moved_cards
moved-held b f t places cards copied blanked l p q = rw (q, p, read-dest places f l)

-- some moves are left: once they are made, the cards lie and the counts are as they do and are after all
pub record Carrying (b : ℕ) (ms : List Pair) (h end : Held) (t all : Tally) : Type 0 where
  pub held-ends : carried b ms h ≡ end
  pub tally-ends : plus_moves (length ms) t ≡ all

module _ {b : ℕ} {h end : Held} {t all : Tally} where
  -- the first of them is made
  pub carrying-more : {m : Pair} {ms : List Pair} {h' : Held} {t' : Tally} → Carrying b (m ∷ ms) h end t all → h' ≡ carried b (m ∷ []) h → t' ≡ plus_move t
      → Carrying b ms h' end t' all
  unfolding carried_places carried_cards
  carrying-more {m} {ms} {h'} {t'} s eh et =
      let n : t.moves + 1 + length ms ≡ t.moves + length (m ∷ ms) = omega arith in
      record { held-ends = rw eh s.held-ends; tally-ends = rw (et, n) s.tally-ends }

  -- none is left
  pub carrying-done : Carrying b [] h end t all → (h ≡ end) × (t ≡ all)
  unfolding carried_places carried_cards
  carrying-done s = (s.held-ends, simp add-zero at s.tally-ends)
