-- `numerals::parts::next_numeral` meets its contract. Assumes nothing.
use mathlib.Core.Path.{◌≡◌}
use Prim.Native.Nat.{◌-◌}
use Rattle.numerals.specs.Numeral.{groups, numeral}
use Rattle.numerals.proofs.Groups.{Weighed}
use Rattle.numerals.proofs.parts.next_numeral.Given as goal

abbrev pub invariant-loop : goal.invariant-loop
invariant-loop l = Weighed (3 - l.counter) l.value l.weight × (groups (3 - l.counter) l.file l.next l.value l.weight ≡ numeral l.file l.at)
