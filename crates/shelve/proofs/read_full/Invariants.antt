use Rattle.std.proofs.Common.{◌≤◌, length}
use Rattle.shelve.proofs.read_full.Given as goal

-- What was read lies within the buffer.
abbrev pub invariant-loop : goal.invariant-loop
invariant-loop g l = l.n ≤ length l.buffer
