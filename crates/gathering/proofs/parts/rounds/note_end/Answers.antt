use native.Mathlib.Omega.{arith}
use mathlib.Core.Path.{sym}
use Prim.Native.Nat.{◌+◌}
use lib.Seq.{set_out}
use Rattle.gathering.proofs.parts.rounds.note_end.Goals as goal

pub returns-else-k-log : goal.returns-else-k-log
returns-else-k-log c = sym (set_out c.args.log.now (8192 + c.args.j) c.args.moves (omega arith))
