-- Figure 1's loop, from the counts of the table at the start, is the run. Assumes nothing.
use mathlib.Core.Path.{◌≡◌, refl, ap, sym, ◌∙◌}
use mathlib.Core.List.{List, [], ◌∷◌, ◌++◌, append-nil}
use Prim.Native.Nat.{ℕ, zero, suc, ◌+◌, ◌-◌, ◌≤◌, ◌<◌}
use native.Mathlib.Omega.{arith}
use native.Mathlib.Decide.{dec_lt}
use lib.Dec.{ltb}
use lib.ListN.{length, get_or, take}
use lib.Seq.{take-suc}
use borrow.Author.Tests.{lt-ltb, le-ltb}
use Rattle.counting.specs.Count.{sum}
use Rattle.counting.specs.Lists.{Pair, join, matching}
use Rattle.counting.proofs.Lists.{join-append}
use Rattle.counting.proofs.Select.{sum_cong}
use Rattle.counting.proofs.Tests.{and_l}
use Rattle.counting.proofs.Count.{count_mono}
use Rattle.counting.proofs.Sums.{sum-none, sum-add}
use Rattle.racks.specs.Racks.{Rack, slots}
use Rattle.racks.specs.Table.{away, aways, away_to, bound, owes}
use Rattle.racks.specs.parts.Legal.{Legal}
use Rattle.plans.specs.Plan.{room}
use Rattle.plans.proofs.Totals.{owed-total, due-total, extra-some}
use Rattle.moves.specs.Moves.{Held, carried_places, between}
use Rattle.moves.specs.Phases.{phases}
use Rattle.moves.specs.Turns.{InTurn}
use Rattle.moves.proofs.Carry.{places-append, owes-carried}
use Rattle.moves.proofs.Rooms.{room-carried}
use Rattle.conduct.specs.Figure1Loop.{State, left, recv, alltoall, compute_moves, execute_phase, rounds, remaining, loop_goes_on, extra}
use Rattle.conduct.specs.Figure1.{due_to}
use Rattle.conduct.specs.Demand2.{Figure1Run}
use Rattle.conduct.proofs.Calls.{Start, start-legal}
use Rattle.conduct.proofs.Phases.{before_in-turn, phase-start, phase-is, phase_in-turn, phase-away}

-- what a process receives from i is decided by what is due to it from i and from those before i
module _ (free : ℕ) (d e : ℕ → ℕ) where
  left_cong : (i : ℕ) → ((j : ℕ) → j < i → d j ≡ e j) → left free d i ≡ left free e i
  unfolding left
  left_cong zero h = refl
  left_cong (suc i) h = rw (left_cong i (λ j l. h j (omega arith)), h i (omega arith))

  recv_cong : (i : ℕ) → ((j : ℕ) → j ≤ i → d j ≡ e j) → recv free d i ≡ recv free e i
  unfolding recv
  recv_cong i h = rw (left_cong i (λ j l. h j (omega arith)), h i (omega arith))

-- the lists of the first n and of one more
join-next : {A : Type 0} (n : ℕ) (l : List (List A)) → n < length l → join (take (suc n) l) ≡ join (take n l) ++ get_or l n []
unfolding join
join-next n l h =
    ap join (take-suc l n [] h) ∙ join-append (take n l) (get_or l n [] ∷ []) ∙ rw append-nil

-- moves leave a rack's free slots, less what it is to receive, plus what it is to send, as they were
extra-carried : {racks : List Rack} {places : List ℕ} {ms : List Pair} → Legal racks places → InTurn racks places ms → (p : ℕ)
    → room racks (carried_places ms places) p + sum (length racks) (λ i. owes racks (carried_places ms places) p i) + sum (length racks) (λ i. owes racks places i p)
    ≡ room racks places p + sum (length racks) (λ i. owes racks places p i) + sum (length racks) (λ i. owes racks (carried_places ms places) i p)
extra-carried {racks} {places} {ms} l t p =
    let after : List ℕ = carried_places ms places in
    omega (
      arith,
      room-carried l t p,
      sum_cong (length racks) (λ i. owes racks places p i) (λ i. matching (between racks p i) ms + owes racks after p i) (λ i _. owes-carried l t p i),
      sum-add (length racks) (λ i. matching (between racks p i) ms) (λ i. owes racks after p i),
      sum_cong (length racks) (λ i. owes racks places i p) (λ i. matching (between racks i p) ms + owes racks after i p) (λ i _. owes-carried l t i p),
      sum-add (length racks) (λ i. matching (between racks i p) ms) (λ i. owes racks after i p),
    )

-- where nothing is away nothing is owed
owed_none : (racks : List Rack) (places : List ℕ) → aways racks places ≡ 0 → (i p : ℕ) → owes racks places i p ≡ 0
unfolding aways owes bound away_to
owed_none racks places z i p = omega (arith, count_mono (slots racks) (bound racks places i p) (away racks places) (λ g _ e. and_l _ (and_l _ e)))

-- the counts of a state are those of a table
record Agrees (racks : List Rack) (places : List ℕ) (s : State) : Type 0 where
  free-is : (p : ℕ) → p < length racks → s.free p ≡ room racks places p
  out-is : (i p : ℕ) → i < length racks → p < length racks → s.out i p ≡ owes racks places i p
  in_is : (i p : ℕ) → i < length racks → p < length racks → s.due p i ≡ owes racks places i p

module _ {racks : List Rack} {places : List ℕ} {s : State} (a : Agrees racks places s) where
  -- then recv is that of the table
  recv-agrees : (i p : ℕ) → i < length racks → p < length racks → (compute_moves s).recv p i ≡ recv (room racks places p) (due_to racks places p) i
  unfolding compute_moves due_to
  recv-agrees i p li lp = rw (← a.free-is p lp) (recv_cong (s.free p) (s.due p) (due_to racks places p) i (λ j l. a.in_is j p (omega arith) lp))

  -- and what remains is the cards away, once to be sent and once to be received
  remaining-is : Legal racks places → remaining (length racks) s ≡ aways racks places + aways racks places
  unfolding remaining
  remaining-is v =
      sum_cong (length racks) _ (λ p. sum (length racks) (λ i. owes racks places p i) + sum (length racks) (λ i. owes racks places i p))
      (λ p l. sum_cong (length racks) _ (λ i. owes racks places p i + owes racks places i p) (λ i m. rw (a.out-is p i l m, a.in_is i p m l))
      ∙ sum-add (length racks) (λ i. owes racks places p i) (λ i. owes racks places i p))
      ∙ sum-add (length racks) (λ p. sum (length racks) (λ i. owes racks places p i)) (λ p. sum (length racks) (λ i. owes racks places i p))
      ∙ rw (owed-total racks places v, due-total racks places v)

module _ {racks : List Rack} {b : ℕ} {h : Held} (s : Start racks b h) where
  abbrev plans : List (List Pair)
  plans = phases racks h.places

  -- the table when phase n begins
  abbrev at : ℕ → List ℕ
  at n = carried_places (join (take n plans)) h.places

  -- the loop before round n
  abbrev loop : ℕ → State
  loop n = rounds (length racks) n (alltoall (room racks h.places) (owes racks h.places))

  -- the table when the next phase begins
  at_next : (n : ℕ) → n < length plans → at (suc n) ≡ carried_places (get_or plans n []) (at n)
  at_next n l = ap (λ (ms : List Pair). carried_places ms h.places) (join-next n plans l) ∙ places-append (join (take n plans)) (get_or plans n []) h.places

  -- line 27
  free-next : (n p : ℕ) → n < length plans
      → room racks (at (suc n)) p + sum (length racks) (λ i. matching (between racks i p) (get_or plans n []))
      ≡ room racks (at n) p + sum (length racks) (λ i. matching (between racks p i) (get_or plans n []))
  free-next n p l = rw (at_next n l) (sym (room-carried (start-legal (phase-start s n)) (phase_in-turn s n l) p))

  -- the amounts of a round
  amounts : (n i p : ℕ) → n < length plans → i < length racks → p < length racks → Agrees racks (at n) (loop n)
      → (compute_moves (loop n)).recv p i ≡ matching (between racks i p) (get_or plans n [])
  amounts n i p l li lp a = recv-agrees a i p li lp ∙ sym ((phase-is s n l).sends i p li lp)

  -- what is owed falls by them
  owed-next : (n i p : ℕ) → n < length plans → i < length racks → p < length racks → Agrees racks (at n) (loop n)
      → owes racks (at (suc n)) i p ≡ owes racks (at n) i p - (compute_moves (loop n)).recv p i
  owed-next n i p l li lp a = rw (at_next n l, recv-agrees a i p li lp) ((phase-is s n l).lowers i p li lp)

  -- round by round the loop's counts are the table's
  agrees : (n : ℕ) → n ≤ length plans → Agrees racks (at n) (loop n)
  unfolding rounds alltoall compute_moves execute_phase join carried_places
  agrees zero l = record { free-is = λ p _. refl; out-is = λ i p _ _. refl; in_is = λ i p _ _. refl }
  agrees (suc n) l =
      let a = agrees n (omega arith) in
      record {
        free-is = λ p lp.
            omega (
              arith,
              a.free-is p lp,
              free-next n p (omega arith),
              sum_cong (length racks) ((compute_moves (loop n)).recv p) (λ i. matching (between racks i p) (get_or plans n [])) (λ i li. amounts n i p (omega arith) li lp a),
              sum_cong (length racks) ((compute_moves (loop n)).send p) (λ i. matching (between racks p i) (get_or plans n [])) (λ i li. amounts n p i (omega arith) lp li a),
            );
        out-is = λ i p li lp. rw (a.out-is i p li lp) (sym (owed-next n i p (omega arith) li lp a));
        in_is = λ i p li lp. rw (a.in_is i p li lp) (sym (owed-next n i p (omega arith) li lp a));
      }

  -- line 4
  tested : (n : ℕ) → n ≤ length plans → aways racks (at (length plans)) ≡ 0 → loop_goes_on (length racks) (loop n) ≡ ltb n (length plans)
  unfolding loop_goes_on
  tested n l z =
      let e = remaining-is (agrees n l) (start-legal (phase-start s n)) in
      elim (dec_lt n (length plans)) [
        | yes m ↦ lt-ltb 0 (remaining (length racks) (loop n)) (omega (arith, phase-away s n m)) ∙ sym (lt-ltb n (length plans) m)
        | no m ↦
            let q : n ≡ length plans = omega arith in
            let none : aways racks (at n) ≡ 0 = rw q z in
            le-ltb 0 (remaining (length racks) (loop n)) (omega arith) ∙ sym (le-ltb n (length plans) (omega arith))
      ]

  -- equation (2)
  same-extra : (n p : ℕ) → p < length racks
      → room racks (at n) p + sum (length racks) (λ i. owes racks (at n) p i)
      ≡ extra (length racks) (alltoall (room racks h.places) (owes racks h.places)) p + sum (length racks) (λ i. owes racks (at n) i p)
  unfolding extra alltoall
  same-extra n p l = omega (arith, extra-carried (start-legal s) (before_in-turn s n) p, extra-some racks h.places p (start-legal s) s.spared l)

  -- free' is what is free at the end, where nothing is away then
  free-last : aways racks (at (length plans)) ≡ 0 → (p : ℕ) → p < length racks
      → room racks (at (length plans)) p ≡ extra (length racks) (alltoall (room racks h.places) (owes racks h.places)) p
  free-last z p l =
      let last : List ℕ = at (length plans) in
      omega (
        arith,
        same-extra (length plans) p l,
        sum-none (length racks) (λ i. owes racks last p i) (λ i _. owed_none racks last z p i),
        sum-none (length racks) (λ i. owes racks last i p) (λ i _. owed_none racks last z i p),
      )

  -- the run is figure 1's, where nothing is away at its end
  pub figure1-run : aways racks (at (length plans)) ≡ 0 → Figure1Run racks b h
  figure1-run z =
      record {
        free-is = λ n p l lp. (agrees n l).free-is p lp;
        out-is = λ n i p l li lp. (agrees n l).out-is i p li lp;
        in_is = λ n i p l li lp. (agrees n l).in_is i p li lp;
        recv-is = λ n i p l li lp. amounts n i p l li lp (agrees n (omega arith));
        send-is = λ n i p l li lp. unfold compute_moves in amounts n i p l li lp (agrees n (omega arith));
        all-owed = λ n. owed-total racks (at n) (start-legal (phase-start s n));
        test = λ n l. tested n l z;
        line27 = λ n p l _. free-next n p l;
        equation2 = λ n p l. same-extra n p l;
        premise = λ p l. unfold extra alltoall in omega (arith, extra-some racks h.places p (start-legal s) s.spared l);
        free-end = free-last z;
      }
