use native.Mathlib.Omega.{arith}
use Rattle.bits.proofs.Sets.{clear_code, clear_code-kept}
use Rattle.bits.proofs.parts.clear.Goals as goal

pub returns-then-word-eq0 : goal.returns-then-word-eq0
returns-then-word-eq0 c = clear_code _ _ _ c.turn_off-word.ensures _ (omega arith) c.turn_off.ensures

pub returns-else-word-eq0 : goal.returns-else-word-eq0
returns-else-word-eq0 c = clear_code-kept _ _ _ c.turn_off-word.ensures c.if-word-eq0.false
