use Rattle.std.proofs.Common.{◌≤◌, length}
use Rattle.paper_rings.proofs.check.wrong_slots.Given as goal

-- The next card lies within the cards, and each slot before it is wrong once at most.
abbrev pub invariant-loop-g : goal.invariant-loop-g
invariant-loop-g l = (l.at ≤ length l.cards) × (l.wrong ≤ l.g)
