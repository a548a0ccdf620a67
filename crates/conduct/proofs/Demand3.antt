-- Demand 3, proved: the moves of any list of calls are each allowed when their turn comes, and such moves keep all that is asked. Assumes nothing.
use mathlib.Core.Path.{◌≡◌, refl, ap, sym, ◌∙◌}
use mathlib.Core.List.{List, ◌++◌}
use Prim.Native.Nat.{ℕ}
use native.Mathlib.Omega.{arith}
use lib.ListN.{length, take}
use lib.Seq.{take-length, take_at}
use Rattle.counting.specs.Lists.{Pair}
use Rattle.racks.specs.Racks.{Rack}
use Rattle.racks.proofs.LegalTable.{spared-caps}
use Rattle.moves.specs.Moves.{Held, carried}
use Rattle.moves.proofs.Carry.{in-turn-take, in-turn-moving, stands-carried, owes-carried, awaits-owes}
use Rattle.conduct.specs.Calls.{Call, held_after, made}
use Rattle.conduct.specs.Demand3.{Demand3, point, Demand3Holds}
use Rattle.conduct.proofs.Calls.{Start, start-legal, calls-done, start-after, made-append, budget-done, single-done, refused_none, refused-same}
use Rattle.conduct.proofs.Points.{names-once, turn_at, some-accepted, start-point, point-number, point-move, point-away, point-falls, point-bytes}

-- between two calls the table and the cards are as after the moves of the former
between : {racks : List Rack} {b : ℕ} {h : Held} (s : Start racks b h) (calls former later : List Call) → calls ≡ former ++ later
    → held_after racks b former h ≡ point racks b h calls (length (made racks b former h))
between {racks} {b} {h} s calls former later e =
    let split : made racks b calls h ≡ made racks b former h ++ made racks b later (held_after racks b former h) =
    ap (λ (cs : List Call). made racks b cs h) e ∙ made-append racks b h former later in
    let all : take (length (made racks b former h)) (made racks b calls h) ≡ made racks b former h =
    ap (take (length (made racks b former h))) split ∙ take_at (made racks b former h) _ (length (made racks b former h)) refl in
    (calls-done former s).held-is ∙ ap (λ (ms : List Pair). carried b ms h) (sym all)

from_start : {racks : List Rack} {b : ℕ} {h : Held} (calls : List Call) → Start racks b h → Demand3 racks b h calls
from_start {racks} {b} {h} calls s =
    let all = calls-done calls s in
    let l = start-legal s in
    let t = all.in-turn in
    record {
      between_calls = between s calls;
      end_is = all.held-is ∙ ap (λ (ms : List Pair). carried b ms h) (sym (take-length (made racks b calls h)));
      each-move = λ n m. point-move s t n m;
      accepted = λ n. (start-point s t n).fits;
      only-ends = λ n from to. point-number s t n (from, to);
      same-cards = λ n d f. sym (stands-carried l (in-turn-moving (in-turn-take n t)) d f);
      once = λ d f. names-once l d f;
      same_bytes = λ n. point-bytes s t n;
      owed = λ n i p. omega (arith, owes-carried l (in-turn-take n t) i p);
      awaited = λ n i p. awaits-owes l (in-turn-take n t) i p;
      possible = λ n k. some-accepted (start-point s t n) k;
      was-away = λ n m. (turn_at t n m).is-away;
      brings = λ n m g. point-away s t n m g;
      falls = λ n m. point-falls s t n m;
      counts = all.counts;
      budget-makes = λ k. budget-done k (start-after calls s);
      single-makes = λ from to. single-done racks b (held_after racks b calls h) from to;
      refused-makes = λ call f. refused_none racks b (held_after racks b calls h) call f;
      refused_keeps = λ call f. refused-same racks b (held_after racks b calls h) call f;
    }

-- **Demand 3.** Every accepted start, and every list of calls
pub demand3 : Demand3Holds
demand3 caps b h z calls = from_start calls (record { spared = spared-caps caps; fits = z })
