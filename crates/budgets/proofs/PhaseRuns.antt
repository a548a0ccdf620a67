-- A phase run with an allowance, from the phase planned; and its moves noted one by one. Assumes nothing.
use mathlib.Core.Path.{◌≡◌, refl, ap, ◌∙◌}
use mathlib.Core.List.{List, [], ◌∷◌}
use Prim.Native.Nat.{ℕ, ◌+◌, ◌*◌, ◌-◌, ◌≤◌, ◌<◌, min}
use native.Mathlib.Omega.{arith}
use native.Mathlib.Decide.{ℕ_discrete}
use lib.ListN.{length, get_or, set, take, drop, length-take}
use Rattle.counting.specs.Lists.{Pair}
use Rattle.counting.specs.Every.{All}
use Rattle.counting.specs.Every.All.{more}
use Rattle.counting.proofs.Every.{all_map, all_take}
use Rattle.counting.proofs.Lists.{take_min}
use Rattle.counting.proofs.Stores.{length-flat}
use Rattle.racks.specs.Job.{start_in}
use Rattle.answers.specs.declared.Tally.{Tally}
use Rattle.bits.specs.parts.Bits.{included, cleared}
use Rattle.bits.proofs.Sets.{length-included, length-cleared}
use Rattle.queues.specs.parts.Line.{room_of}
use Rattle.queues.specs.parts.Queues.{rows_of}
use Rattle.pairing.specs.parts.Phase.{queued_plan, PhasePlanned}
use Rattle.queues.specs.parts.Queued.{one_more}
use Rattle.queues.proofs.Opens.{open-few}
use Rattle.moves.specs.Moves.{Held}
use Rattle.carrying.specs.parts.Carrying.{unflat, AllSlots, Carried}
use Rattle.carrying.proofs.Flat.{pairs_of, pairs-part}
use Rattle.budgets.specs.parts.Engine.{note, noted, note_line, noted_line, Notable, AllNotable, MoveNoted, Noted, Runnable, PhaseRun}
use Rattle.budgets.proofs.Shows.{note-long, note_else, note-here}

-- a move keeps the length of the set's list
length-note : (m : Pair) (bits : List ℕ) → length (note m bits) ≡ length bits
unfolding note
length-note m bits = length-cleared (included bits m.0) m.1 ∙ length-included bits m.0

-- a move noted as the code does it
pub move-noted : (racking : List ℕ) (m : Pair) (line bits words bits' : List ℕ) → words ≡ included bits m.0 → bits' ≡ cleared words m.1
    → MoveNoted racking m line bits (set line (4288 + get_or racking m.0 0) (room_of line (get_or racking m.0 0) + 1)) bits'
unfolding note note_line one_more
move-noted racking m line bits words bits' e q = record { line-is = refl; bits_are = q ∙ rw e }

-- the moves left can be noted, and end as all of them do
pub record Noting (racking : List ℕ) (ms : List Pair) (line bits line' bits' : List ℕ) : Type 0 where
  pub notable : AllNotable racking ms line bits
  pub line-ends : noted_line racking ms line ≡ line'
  pub bits-end : noted ms bits ≡ bits'

-- the first of moves that can be noted, and those behind it
first : {P : Pair → Type 0} {m : Pair} {ms : List Pair} → All P (m ∷ ms) → P m
first (more h r) = h

rest : {P : Pair → Type 0} {m : Pair} {ms : List Pair} → All P (m ∷ ms) → All P ms
rest (more h r) = r

module _ {racking line bits line' bits' : List ℕ} where
  module _ {m : Pair} {ms : List Pair} (s : Noting racking (m ∷ ms) line bits line' bits') where
    -- the first of those left can be noted
    pub noting-first : Notable racking m
    noting-first = first s.notable.moves

    pub noting-room : room_of line (get_or racking m.0 0) < 65535
    noting-room = omega (arith, s.notable.counts-fit (get_or racking m.0 0) noting-first.racked)

    -- and then those after it
    pub noting-more : {line₂ bits₂ : List ℕ} → MoveNoted racking m line bits line₂ bits₂ → Noting racking ms line₂ bits₂ line' bits'
    unfolding noted noted_line
    noting-more {line₂} {bits₂} n = rw (n.line-is, n.bits_are) (record {
      notable = record {
        moves = rest s.notable.moves;
        counts-fit = λ p h. elim (ℕ_discrete p (get_or racking m.0 0)) [
          | yes e ↦ rw e (omega (arith, note-here racking m line noting-first.racked s.notable.line-long, s.notable.counts-fit (get_or racking m.0 0) noting-first.racked))
          | no d ↦ omega (arith, note_else racking m line noting-first.racked (4288 + p) (λ q. d (omega arith)), s.notable.counts-fit p h)
        ];
        line-long = note-long racking m line noting-first.racked ∙ s.notable.line-long;
        bits-long = length-note m bits ∙ s.notable.bits-long;
      };
      line-ends = s.line-ends;
      bits-end = s.bits-end;
    })

  -- none is left
  pub noting-done : Noting racking [] line bits line' bits' → (line ≡ line') × (bits ≡ bits')
  unfolding noted noted_line
  noting-done s = (s.line-ends, s.bits-end)

module _ (ends : List ℕ) (b k : ℕ) (t : Tally) (h : Held) (racking line bits log line₁ bits₁ log' : List ℕ) (planned made : ℕ) (w : Runnable ends b k t h racking line bits log)
    (p : PhasePlanned ends line bits log (2 * t.moves) line₁ bits₁ log' planned) (e : made ≡ min planned (k - t.moves)) where
  abbrev all : List Pair
  all = queued_plan 64 (rows_of ends line bits)

  abbrev high : ℕ
  high = 2 * t.moves + 2 * made

  made-few : made ≤ length all
  made-few = omega (arith, p.written.count-is)

  -- the part of the log where the pairs carried stand
  abbrev part : List ℕ
  part = take (high - 2 * t.moves) (drop (2 * t.moves) log')

  -- they are the first of the plan
  pub pairs_made : unflat part ≡ take (k - t.moves) all
  pairs_made =
      let few : made ≡ min (k - t.moves) (length all) = omega (arith, p.written.count-is) in
      pairs-part log' (2 * t.moves) high (omega arith)
      ∙ pairs_of log' log (2 * t.moves) high made all p.written.list (omega (arith, length-flat all, w.plannable.fits)) refl made-few
      ∙ ap (λ (n : ℕ). take n all) few
      ∙ take_min (k - t.moves) all

  -- their ends are slots of the table
  pub made-slots : AllSlots (length h.places) (unflat part)
  made-slots = rw pairs_made (all_take (k - t.moves) w.slots)

  -- the tally has room for them
  pub made_counted : t.moves + length part < 18446744073709551615
  made_counted = omega (arith, length-take (high - 2 * t.moves) (drop (2 * t.moves) log'), made-few, w.few, w.plan-few)

  -- they can be noted
  pub made-notable : AllNotable racking (unflat part) line₁ bits₁
  made-notable = record {
    moves = all_map (λ m a. record { from_lt = omega (arith, a.from_lt, w.small); to_lt = omega (arith, a.to_lt, w.small); racked = w.racked m.0 a.from_lt }) made-slots;
    counts-fit = λ q l.
        omega (
          arith,
          p.passed.rooms-are q l,
          (w.plannable.bounded.racks q l).roomy,
          open-few bits (start_in ends q) 4096,
          ap length pairs_made,
          length-take (k - t.moves) all,
          w.plan-few,
        );
    line-long = p.long;
    bits-long = p.topped.long;
  }

  -- carried, and noted
  pub phase-run : {t' : Tally} {h' : Held} {line' bits' : List ℕ} → Carried b (unflat part) h t h' t' → Noted racking (unflat part) line₁ bits₁ line' bits'
      → PhaseRun ends b k t h racking line bits log t' h' line' bits' log'
  phase-run c n = record {
    line₁ = line₁;
    bits₁ = bits₁;
    count = planned;
    planned = p;
    done = rw pairs_made at c;
    noted-are = rw pairs_made at n;
  }
