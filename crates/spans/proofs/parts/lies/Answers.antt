use native.Mathlib.Omega.{arith}
use Rattle.spans.proofs.Spans.{behind-is, lies_by}
use Rattle.spans.proofs.parts.lies.Goals as goal

pub returns : goal.returns
returns c = rw (behind-is c.args.range.first c.args.x (omega arith) (omega arith)) (lies_by _ _ c.requires)
