-- The set of free slots and each rack's room, with moves noted, are those of the table after the moves. Assumes nothing.
use mathlib.Core.Path.{◌≡◌, sym, ap, ◌∙◌}
use mathlib.Core.Logic.{◌≢◌}
use mathlib.Core.List.{List, [], ◌∷◌}
use Prim.Native.Nat.{ℕ, ◌+◌, ◌≤◌, ◌<◌}
use native.Mathlib.Omega.{arith}
use native.Mathlib.Decide.{ℕ_discrete}
use lib.ListN.{length, get_or, length-set}
use lib.Seq.{get_or-set_same, get_or-set_other}
use borrow.Author.Tests.{eq-eqb, ne_eqb}
use Rattle.counting.specs.Tests.{bit}
use Rattle.counting.specs.Lists.{Pair, matching}
use Rattle.racks.specs.Racks.{Rack, slots, rack_of}
use Rattle.racks.specs.Table.{free}
use Rattle.racks.specs.parts.Legal.{Legal}
use Rattle.racks.proofs.Geometry.{rack_lt}
use Rattle.tables.specs.parts.Tables.{Filled}
use Rattle.plans.specs.Plan.{room}
use Rattle.plans.specs.Allowed.{Allowed}
use Rattle.bits.specs.parts.Bits.{is_on, included, Topped}
use Rattle.bits.proofs.Sets.{length-included, topped-included, topped-cleared, included-here, included-other, cleared-here, cleared-other, included-beside, cleared-beside}
use Rattle.queues.specs.parts.Line.{queue_of, head_of, tail_of, room_of}
use Rattle.queues.specs.parts.Queued.{one_more}
use Rattle.queues.specs.parts.Openings.{Shown}
use Rattle.queues.proofs.Line.{queue-kept}
use Rattle.moves.specs.Moves.{moved_places, carried_places}
use Rattle.moves.proofs.Moved.{legal-moved, allowed-free, free-from, same-free, taken-to}
use Rattle.moves.proofs.Rooms.{lands, room_moved}
use Rattle.moves.specs.Turns.{InTurn}
use Rattle.moves.specs.Turns.InTurn.{stop, next}
use Rattle.budgets.specs.parts.Engine.{note, noted, note_line, noted_line}

-- a move noted in the line changes the room of its source's rack alone
module _ (racking : List ℕ) (m : Pair) (line : List ℕ) (few : get_or racking m.0 0 < 64) where
  pub note-long : length (note_line racking m line) ≡ length line
  unfolding note_line one_more
  note-long = length-set line _ _

  pub note-queue : queue_of (note_line racking m line) ≡ queue_of line
  unfolding note_line one_more
  note-queue = queue-kept line _ _ (omega arith)

  pub note_else : (k : ℕ) → k ≢ 4288 + get_or racking m.0 0 → get_or (note_line racking m line) k 0 ≡ get_or line k 0
  unfolding note_line one_more
  note_else k d = get_or-set_other line _ k _ 0 d

  pub note-here : length line ≡ 4352 → room_of (note_line racking m line) (get_or racking m.0 0) ≡ room_of line (get_or racking m.0 0) + 1
  unfolding note_line one_more
  note-here e = get_or-set_same line (4288 + get_or racking m.0 0) _ 0 (omega arith)

-- the lists of the engine where moves of a phase are still to be noted: the set has the free slots, and each rack's room is what is counted and
-- what still lands on it; all else is as when the phase was planned
pub record Midway (racks : List Rack) (start words : List ℕ) (places : List ℕ) (ms : List Pair) (line bits : List ℕ) : Type 0 where
  pub topped : Topped bits
  pub shown : Shown (slots racks) places bits
  pub waiting-same : get_or bits 65 0 ≡ get_or words 65 0
  pub rooms-are : (p : ℕ) → p < length racks → room_of line p + matching (lands racks p) ms ≡ room racks places p
  pub rooms_same : (p : ℕ) → length racks ≤ p → p < 64 → room_of line p ≡ room_of start p
  pub heads-same : (p : ℕ) → p < 64 → head_of line p ≡ head_of start p
  pub tails-same : (p : ℕ) → p < 64 → tail_of line p ≡ tail_of start p
  pub queue-same : queue_of line ≡ queue_of start
  pub long : length line ≡ 4352

module _ {racks : List Rack} (small : slots racks ≤ 4096) (few_racks : length racks ≤ 64) (racking : List ℕ) (filled : Filled racks racking) {start words : List ℕ} where
  -- a move noted
  midway-moved : {places : List ℕ} {m : Pair} {ms : List Pair} {line bits : List ℕ} → Legal racks places → Allowed racks places m → Midway racks start words places (m ∷ ms) line bits
      → Midway racks start words (moved_places m places) ms (note_line racking m line) (note m bits)
  unfolding note matching
  midway-moved {places} {m} {ms} {line} {bits} l a s =
      record {
        topped = topped-cleared (topped-included s.topped m.0 from_in) m.1 to_in;
        shown = λ k h. elim (ℕ_discrete k m.1) [
          | yes e ↦ rw e (cleared-here (included bits m.0) m.1 long to_in ∙ sym (taken-to l (allowed-free a)))
          | no d ↦ cleared-other (included bits m.0) m.1 k long to_in (omega arith) d ∙ with-source k h d
        ];
        waiting-same = cleared-beside (included bits m.0) m.1 to_in ∙ included-beside bits m.0 from_in ∙ s.waiting-same;
        rooms-are = λ p h. elim (ℕ_discrete p (rack_of racks m.0)) [
          | yes e ↦
              let here : room_of (note_line racking m line) p ≡ room_of line p + 1 = rw (e, ← rack) (note-here racking m line few s.long) in
              omega (arith, here, s.rooms-are p h, room_moved l a p, ap bit (eq-eqb (rack_of racks m.0) p (sym e)))
          | no d ↦
              let same : room_of (note_line racking m line) p ≡ room_of line p = note_else racking m line few (4288 + p) (λ i. d (omega (arith, rack))) in
              omega (arith, same, s.rooms-are p h, room_moved l a p, ap bit (ne_eqb (rack_of racks m.0) p (λ i. d (sym i))))
        ];
        rooms_same = λ p h i. note_else racking m line few (4288 + p) (λ q. omega (arith, rack, rack_lt racks m.0 a.from_lt)) ∙ s.rooms_same p h i;
        heads-same = λ p h. note_else racking m line few (4160 + p) (λ q. omega arith) ∙ s.heads-same p h;
        tails-same = λ p h. note_else racking m line few (4224 + p) (λ q. omega arith) ∙ s.tails-same p h;
        queue-same = note-queue racking m line few ∙ s.queue-same;
        long = note-long racking m line few ∙ s.long;
      }
    where
      from_in : m.0 < 4096
      from_in = omega (arith, a.from_lt)

      to_in : m.1 < 4096
      to_in = omega (arith, a.to_lt)

      rack : get_or racking m.0 0 ≡ rack_of racks m.0
      rack = filled m.0 a.from_lt

      few : get_or racking m.0 0 < 64
      few = omega (arith, rack, rack_lt racks m.0 a.from_lt)

      long : length (included bits m.0) ≡ 66
      long = length-included bits m.0 ∙ s.topped.long

      with-source : (k : ℕ) → k < slots racks → (k ≡ m.1 → ⊥) → is_on (included bits m.0) k ≡ free (moved_places m places) k
      with-source k h d = elim (ℕ_discrete k m.0) [
        | yes e ↦ rw e
            (included-here bits m.0 s.topped.long from_in ∙ sym (free-from l (allowed-free a)))
        | no e ↦ included-other bits m.0 k s.topped.long from_in (omega arith) e ∙ s.shown k h ∙ sym (same-free l (allowed-free a) k e d)
      ]

  -- moves noted
  pub midway-carried : {places : List ℕ} {ms : List Pair} {line bits : List ℕ} → Legal racks places → InTurn racks places ms → Midway racks start words places ms line bits
      → Midway racks start words (carried_places ms places) [] (noted_line racking ms line) (noted ms bits)
  unfolding carried_places noted noted_line
  midway-carried l stop s = s
  midway-carried l (next a t) s = midway-carried (legal-moved l (allowed-free a)) t (midway-moved l a s)

-- moves noted leave the line as long as it was
pub noted-long : {racks : List Rack} (racking : List ℕ) → Filled racks racking → length racks ≤ 64 → {places : List ℕ} {ms : List Pair} (line : List ℕ) → Legal racks places → InTurn racks places ms
    → length line ≡ 4352 → length (noted_line racking ms line) ≡ 4352
unfolding noted_line
noted-long racking filled few line l stop e = e
noted-long {racks} racking filled few line l (next {m} a t) e =
    noted-long racking filled few (note_line racking m line) (legal-moved l (allowed-free a)) t (note-long racking m line (omega (arith, filled m.0 a.from_lt, rack_lt racks m.0 a.from_lt)) ∙ e)
