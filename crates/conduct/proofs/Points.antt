-- A list of moves, each allowed when its turn comes: the table and the cards after the first n of them. Assumes nothing.
use mathlib.Core.Path.{◌≡◌, refl, ap, sym, ◌∙◌}
use mathlib.Core.Bool.{true, false, not}
use mathlib.Core.Logic.{◌≢◌}
use mathlib.Core.List.{List, [], ◌∷◌}
use Prim.Native.Nat.{ℕ, zero, suc, ◌+◌, ◌≤◌, ◌<◌}
use native.Mathlib.Omega.{arith}
use native.Mathlib.Decide.{ℕ_discrete}
use lib.Dec.{eqb}
use lib.ListN.{length, get_or, take}
use lib.Seq.{take-suc, length-take-le}
use borrow.Author.Tests.{eqb-true, eq-eqb, ne_eqb}
use Rattle.counting.specs.Tests.{◌and◌}
use Rattle.counting.specs.Count.{count}
use Rattle.counting.specs.Lists.{Pair}
use Rattle.counting.specs.Checks.{first}
use Rattle.counting.proofs.Tests.{by-test, off, no_way, and_true, and-off_r, not-off}
use Rattle.counting.proofs.Count.{pigeonhole, count-all, count-some}
use Rattle.counting.specs.Every.All.{more, none}
use Rattle.counting.proofs.Members.{among_none, among-last, besides_in, besides-out}
use Rattle.racks.specs.Limits.{FREE}
use Rattle.racks.specs.Racks.{Rack, slots}
use Rattle.racks.specs.Table.{dest, free, rack_to, away, aways, away_to, names}
use Rattle.answers.specs.Answers.{placeless, answer, moves_of}
use Rattle.racks.specs.parts.Legal.{Legal}
use Rattle.racks.proofs.Away.{to-away, to_is}
use Rattle.plans.specs.Allowed.{Allowed}
use Rattle.plans.proofs.Possible.{possible}
use Rattle.moves.specs.Blocks.{block}
use Rattle.moves.specs.Moves.{Held, moved_places, carried_places, carried_cards, carried, end_checks, move_checks, moved}
use Rattle.moves.proofs.Moved.{to-moved}
use Rattle.moves.specs.Turns.{InTurn}
use Rattle.moves.proofs.Carry.{in-turn-take, in-turn-moving, aways-carried, carried-append}
use Rattle.moves.specs.Turns.InTurn.{stop, next}
use Rattle.moves.proofs.Ends.{allowed-ends}
use Rattle.moves.proofs.Kept.{card-carried}
use Rattle.conduct.proofs.Calls.{Start, start-legal, start-long, start-carried, move-number}

-- in a legal table at most one entry names a slot
pub names-once : {racks : List Rack} {places : List ℕ} → Legal racks places → (d : ℕ) → d ≢ FREE → count (slots racks) (names places d) ≤ 1
unfolding names free
names-once {racks} {places} l d f =
    omega (
      arith,
      count-all 1,
      pigeonhole (slots racks) 1 (names places d) (λ _. true) (λ _. 0) (λ k m e. omega arith) (λ k m e. refl)
          (λ j k m n e e' _.
          let a : dest places j ≡ d = eqb-true _ _ e in
          let c : dest places k ≡ d = eqb-true _ _ e' in
          l.once j k m n (ne_eqb (dest places j) FREE (λ q. f (sym a ∙ q))) (a ∙ sym c)),
    )

-- move n of such a list is allowed after the first n
pub turn_at : {racks : List Rack} {places : List ℕ} {ms : List Pair} → InTurn racks places ms → (n : ℕ) → n < length ms
    → Allowed racks (carried_places (take n ms) places) (get_or ms n (0, 0))
unfolding carried_places
turn_at stop n l = absurd (omega arith)
turn_at (next a t) zero l = a
turn_at (next a t) (suc n) l = turn_at t n (omega arith)

module _ {racks : List Rack} {places : List ℕ} {m : Pair} (l : Legal racks places) (a : Allowed racks places m) where
  stays : (p g : ℕ) → g ≢ m.0 → away_to racks (moved_places m places) p g ≡ away_to racks places p g
  stays p g u = to-moved l a p g ∙ besides-out (m.0 ∷ []) (away_to racks places p) g (among_none (more u none))

  -- after a move the cards away are those that were, but for the card moved
  pub away-moved : (g : ℕ) → away racks (moved_places m places) g ≡ (away racks places g and not (eqb g m.0))
  away-moved g = elim (ℕ_discrete g m.0) [
    | yes e ↦
        rw e
        (off (λ h. no_way (to_is racks (moved_places m places) (rack_to racks (moved_places m places) m.0) m.0 h refl)
        (to-moved l a (rack_to racks (moved_places m places) m.0) m.0
        ∙ besides_in (m.0 ∷ []) (away_to racks places (rack_to racks (moved_places m places) m.0)) m.0 (among-last m.0 [])))
        ∙ sym (and-off_r (away racks places m.0) (ap not (eq-eqb m.0 m.0 refl))))
    | no u ↦
        by-test (away racks places g)
        (λ h. to-away racks (moved_places m places) (rack_to racks places g) g (stays (rack_to racks places g) g u ∙ to_is racks places (rack_to racks places g) g h refl) ∙ sym h)
        (λ h. off (λ k. no_way
        (to-away racks places (rack_to racks (moved_places m places) g) g
        (sym (stays (rack_to racks (moved_places m places) g) g u) ∙ to_is racks (moved_places m places) (rack_to racks (moved_places m places) g) g k refl)) h)
        ∙ sym h)
        ∙ sym (and_true (away racks places g) (not-off (ne_eqb g m.0 u)))
  ]

module _ {racks : List Rack} {b : ℕ} {h : Held} (s : Start racks b h) where
  -- an allowed move is one that the single move accepts
  pub allowed-number : (m : Pair) → Allowed racks h.places m → first (move_checks racks b h m) ≡ 0
  allowed-number m a = move-number s m ∙ allowed-ends racks h.places m a

  pub allowed-moved : (m : Pair) → Allowed racks h.places m → moved racks b h m ≡ record { answer = answer (placeless 0) (moves_of 1); held = carried b (m ∷ []) h }
  unfolding moved
  allowed-moved m a = rw (allowed-number m a)

  -- while a card is away, there is one
  pub some-accepted : 0 < aways racks h.places → (m : Pair) × ((moved racks b h m).answer.number ≡ 0)
  unfolding aways moved
  some-accepted k =
      let (g, l, e) = count-some (slots racks) (away racks h.places) k in
      let (m, a) = possible racks h.places (start-legal s) s.spared g l e in
      (m, allowed-number m a)

module _ {racks : List Rack} {b : ℕ} {h : Held} {ms : List Pair} (s : Start racks b h) (t : InTurn racks h.places ms) (n : ℕ) where
  -- the table and the cards after the first n moves
  pub start-point : Start racks b (carried b (take n ms) h)
  start-point = start-carried s (in-turn-take n t)

  -- a single move's number there is that of its ends
  pub point-number : (m : Pair) → (moved racks b (carried b (take n ms) h) m).answer.number ≡ first (end_checks racks (carried b (take n ms) h).places m)
  unfolding moved
  point-number m = move-number start-point m

  -- one move more
  pub point-suc : n < length ms → carried b (take (suc n) ms) h ≡ carried b (get_or ms n (0, 0) ∷ []) (carried b (take n ms) h)
  point-suc l = ap (λ (x : List Pair). carried b x h) (take-suc ms n (0, 0) l) ∙ carried-append b (take n ms) (get_or ms n (0, 0) ∷ []) h

  -- the single move accepts it
  pub point-move : n < length ms → moved racks b (carried b (take n ms) h) (get_or ms n (0, 0)) ≡ record { answer = answer (placeless 0) (moves_of 1); held = carried b (take (suc n) ms) h }
  point-move l = rw (point-suc l) (allowed-moved start-point (get_or ms n (0, 0)) (turn_at t n l))

  -- the away cards after it
  pub point-away : n < length ms → (g : ℕ) → away racks (carried_places (take (suc n) ms) h.places) g ≡ (away racks (carried_places (take n ms) h.places) g and not (eqb g (get_or ms n (0, 0)).0))
  unfolding carried_places
  point-away l g = ap (λ (x : Held). away racks x.places g) (point-suc l) ∙ away-moved (start-legal start-point) (turn_at t n l) g

  -- n moves, and the cards still away
  pub point-falls : n ≤ length ms → n + aways racks (carried_places (take n ms) h.places) ≡ aways racks h.places
  point-falls l = omega (arith, aways-carried (start-legal s) (in-turn-take n t), length-take-le n ms l)

  -- a card has the bytes that it had
  pub point-bytes : (g k : ℕ) → g < slots racks → k < slots racks → free h.places g ≡ false → dest (carried_places (take n ms) h.places) k ≡ dest h.places g
      → block b k (carried_cards b (take n ms) h.cards) ≡ block b g h.cards
  unfolding free
  point-bytes g k m l f e =
      let u : dest h.places g ≢ FREE = λ q. no_way (eq-eqb (dest h.places g) FREE q) f in
      let c = card-carried u (start-legal s) (start-long s) (in-turn-moving (in-turn-take n t)) (record { at = g; at_lt = m; bound_for = refl; bytes-are = refl }) in
      let same : k ≡ c.at = (start-legal start-point).once k c.at l c.at_lt (ne_eqb _ _ (λ q. u (sym e ∙ q))) (e ∙ sym c.bound_for) in
      ap (λ (x : ℕ). block b x (carried_cards b (take n ms) h.cards)) same ∙ c.bytes-are
