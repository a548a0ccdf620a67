use Prim.Native.Nat.{ℕ, ◌+◌, ◌≤◌}
use mathlib.Core.Path.{◌≡◌}
use mathlib.Core.List.{List}
use lib.ListN.{length, take}
use Rattle.jobwriter.specs.Writing.{numerals_of}
use Rattle.jobwriter.specs.parts.Puts.{Gives}
use Rattle.jobwriter.proofs.parts.count_bytes.Given as goal

abbrev pub invariant-loop-i : goal.invariant-loop-i
invariant-loop-i g l =
    (l.more ≤ l.i) × ((xs : List ℕ) → Gives (goal.F-pre g l.number) (goal.F-post g l.number) l.n xs → l.i + l.more ≡ length (numerals_of (take l.i xs)))
