use Prim.Native.Nat.{ℕ}
use mathlib.Core.List.{List}
use lib.ListN.{take}
use Rattle.jobwriter.specs.Writing.{numerals_of}
use Rattle.jobwriter.specs.parts.Puts.{Put, Gives}
use Rattle.jobwriter.proofs.parts.put_numbers.Given as goal

abbrev pub invariant-loop-i : goal.invariant-loop-i
invariant-loop-i g l =
    (xs : List ℕ) → Gives (goal.F-pre g l.number) (goal.F-post g l.number) l.n xs → Put (numerals_of (take l.i xs)) l.initial.out l.at l.out l.next
