-- Any list of calls, single or budgeted, refused or not: its moves are each allowed when their turn comes. Assumes nothing.
use mathlib.Core.Path.{◌≡◌, refl, ap, sym, subst, ◌∙◌}
use mathlib.Core.Logic.{◌≢◌}
use mathlib.Core.List.{List, [], ◌∷◌, ◌++◌, append_assoc}
use Prim.Native.Nat.{ℕ, ◌*◌, min}
use native.Mathlib.Omega.{arith}
use native.Mathlib.Decide.{ℕ_discrete}
use lib.ListN.{length, length-append}
use borrow.Author.Tests.{ne_eqb}
use Rattle.counting.specs.Tests.{bit}
use Rattle.counting.specs.Lists.{Pair}
use Rattle.counting.specs.Checks.{first, done}
use Rattle.counting.proofs.Checks.{first-clear, first_past}
use Rattle.racks.specs.Racks.{Rack, slots}
use Rattle.racks.specs.Table.{aways}
use Rattle.racks.specs.Numbers.{card_checks}
use Rattle.racks.specs.parts.Legal.{Legal, Spared}
use Rattle.moves.specs.Moves.{Held, carried_places, carried_cards, carried, end_checks, move_checks, moved}
use Rattle.moves.specs.Phases.{budgeted}
use Rattle.moves.specs.Turns.{InTurn, Moving}
use Rattle.moves.proofs.Carry.{in-turn-append, in-turn-moving, legal-carried, length-carried-cards, carried-append}
use Rattle.moves.specs.Turns.InTurn.{stop, next}
use Rattle.moves.proofs.Ends.{ends-allowed}
use Rattle.racks.proofs.Marked.{cards-marked}
use Rattle.moves.proofs.Phases.{budget_in-turn, budget-length}
use Rattle.moves.proofs.FirstFit.{first-fit}
use Rattle.conduct.specs.Calls.{Call, called, asks, makes, held_after, made, counted}
use Rattle.conduct.specs.Calls.Call.{single, at_most}
use Rattle.conduct.proofs.Acceptance.{accepted-legal, accepted-long, accepted_again}

-- racks with a spare each, and a table with its cards that gets none of 1 to 6
pub record Start (racks : List Rack) (b : ℕ) (h : Held) : Type 0 where
  pub spared : Spared racks
  pub fits : first (card_checks racks b h.places h.cards) ≡ 0

module _ {racks : List Rack} {b : ℕ} {h : Held} (s : Start racks b h) where
  -- the table is legal
  pub start-legal : Legal racks h.places
  start-legal = accepted-legal racks b h.places h.cards s.fits

  -- the cards are S·B bytes
  pub start-long : length h.cards ≡ slots racks * b
  start-long = accepted-long racks b h.places h.cards s.fits

  -- another legal table with S·B bytes of cards is such a start
  pub start-legal_again : {h' : Held} → Legal racks h'.places → length h'.cards ≡ slots racks * b → Start racks b h'
  start-legal_again {h'} l e =
      record { spared = s.spared; fits = accepted_again racks b h.places h.cards s.fits h'.places h'.cards l (e ∙ sym start-long) }

  -- moves to free slots lead to another
  pub start-moving : {ms : List Pair} → Moving racks h.places ms → Start racks b (carried b ms h)
  start-moving {ms} t = start-legal_again (legal-carried start-legal t) (length-carried-cards b ms h.cards ∙ start-long)

  -- so do moves that are allowed in turn
  pub start-carried : {ms : List Pair} → InTurn racks h.places ms → Start racks b (carried b ms h)
  start-carried t = start-moving (in-turn-moving t)

  -- a single move's number is that of its ends, 7 to 11
  pub move-number : (m : Pair) → first (move_checks racks b h m) ≡ first (end_checks racks h.places m)
  unfolding move_checks
  move-number m = first_past (end_checks racks h.places m) (first-clear (cards-marked racks b h.places h.cards) s.fits)

-- a call: its moves are allowed in turn, they are what it does, and it counts them
pub record CallDone (racks : List Rack) (b : ℕ) (h : Held) (call : Call) : Type 0 where
  pub in-turn : InTurn racks h.places (makes racks b h call)
  pub held-is : (called racks b h call).held ≡ carried b (makes racks b h call) h
  pub counts : (called racks b h call).answer.tally.moves ≡ length (makes racks b h call)

pub call-done : {racks : List Rack} {b : ℕ} {h : Held} (call : Call) → Start racks b h → CallDone racks b h call
unfolding called asks makes moved budgeted carried_places carried_cards
call-done {racks} {b} {h} (single from to) s = elim (ℕ_discrete (first (move_checks racks b h (from, to))) 0) [
  | yes e ↦
      let a = ends-allowed racks h.places (from, to) (sym (move-number s (from, to)) ∙ e) in
      record { in-turn = rw e (next a stop); held-is = rw e; counts = rw e }
  | no f ↦
      let e = ne_eqb (first (move_checks racks b h (from, to))) 0 f in
      record { in-turn = rw e stop; held-is = rw e; counts = rw e }
]
call-done {racks} {b} {h} (at_most k) s = record {
  in-turn = rw s.fits (budget_in-turn (first-fit s.spared) (start-legal s) k);
  held-is = rw s.fits;
  counts = rw s.fits (sym (budget-length (first-fit s.spared) (start-legal s) k));
}

-- a call of budgeted moves makes the smaller of k and the cards away
pub budget-done : {racks : List Rack} {b : ℕ} {h : Held} (k : ℕ) → Start racks b h → length (makes racks b h (at_most k)) ≡ min k (aways racks h.places)
unfolding called asks makes budgeted
budget-done k s = rw s.fits (budget-length (first-fit s.spared) (start-legal s) k)

module _ (racks : List Rack) (b : ℕ) (h : Held) where
  -- a single move makes 1 move, and 0 where it is refused
  pub single-done : (from to : ℕ) → length (makes racks b h (single from to)) ≡ bit (done (called racks b h (single from to)).answer.number)
  unfolding called asks makes moved
  single-done from to = elim (ℕ_discrete (first (move_checks racks b h (from, to))) 0) [
    | yes e ↦ rw e
    | no f ↦ rw (ne_eqb (first (move_checks racks b h (from, to))) 0 f)
  ]

  -- a call that is refused makes no move
  pub refused_none : (call : Call) → (called racks b h call).answer.number ≢ 0 → makes racks b h call ≡ []
  unfolding makes
  refused_none call f = rw (ne_eqb (called racks b h call).answer.number 0 f)

  -- and changes nothing
  pub refused-same : (call : Call) → (called racks b h call).answer.number ≢ 0 → (called racks b h call).held ≡ h
  unfolding called moved budgeted
  refused-same (single from to) f = rw (ne_eqb (first (move_checks racks b h (from, to))) 0 f)
  refused-same (at_most k) f = rw (ne_eqb (first (card_checks racks b h.places h.cards)) 0 f)

-- so with all calls
pub record CallsDone (racks : List Rack) (b : ℕ) (h : Held) (calls : List Call) : Type 0 where
  pub in-turn : InTurn racks h.places (made racks b calls h)
  pub held-is : held_after racks b calls h ≡ carried b (made racks b calls h) h
  pub counts : counted racks b calls h ≡ length (made racks b calls h)

pub calls-done : {racks : List Rack} {b : ℕ} {h : Held} (calls : List Call) → Start racks b h → CallsDone racks b h calls
unfolding held_after made counted carried_places carried_cards
calls-done [] s = record { in-turn = stop; held-is = refl; counts = refl }
calls-done {racks} {b} {h} (call ∷ calls) s =
    let one = call-done call s in
    let h' : Held = (called racks b h call).held in
    let rest = calls-done {h = h'} calls (subst (Start racks b) (sym one.held-is) (start-carried s one.in-turn)) in
    let places-are : h'.places ≡ carried_places (makes racks b h call) h.places = ap (λ (x : Held). x.places) one.held-is in
    record {
      in-turn = in-turn-append one.in-turn (subst (λ (p : List ℕ). InTurn racks p (made racks b calls h')) places-are rest.in-turn);
      held-is =
          rest.held-is ∙ ap (carried b (made racks b calls h')) one.held-is ∙ sym (carried-append b (makes racks b h call) (made racks b calls h') h);
      counts = omega (arith, one.counts, rest.counts, length-append (makes racks b h call) (made racks b calls h'));
    }

-- after all calls the table is accepted
pub start-after : {racks : List Rack} {b : ℕ} {h : Held} (calls : List Call) → Start racks b h → Start racks b (held_after racks b calls h)
start-after calls s = let all = calls-done calls s in subst (Start _ _) (sym all.held-is) (start-carried s all.in-turn)

-- the moves of calls and further calls
pub made-append : (racks : List Rack) (b : ℕ) (h : Held) (former later : List Call)
    → made racks b (former ++ later) h ≡ made racks b former h ++ made racks b later (held_after racks b former h)
unfolding made held_after
made-append racks b h [] later = refl
made-append racks b h (call ∷ former) later =
    let h' : Held = (called racks b h call).held in
    rw (made-append racks b h' former later) (sym (append_assoc (makes racks b h call) (made racks b former h') (made racks b later (held_after racks b former h'))))
