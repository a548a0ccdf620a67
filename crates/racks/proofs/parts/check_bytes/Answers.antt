use mathlib.Core.Path.{refl}
use native.Mathlib.Omega.{arith}
use Rattle.racks.proofs.Caps.{bytes-none, bytes-many, bytes-good}
use Rattle.racks.proofs.parts.check_bytes.Goals as goal

pub returns-then-b-eq0 : goal.returns-then-b-eq0
returns-then-b-eq0 c = (bytes-none c.args.b c.if-b-eq0.true, refl)

pub returns-then-b-gt-MAX_BYTES : goal.returns-then-b-gt-MAX_BYTES
returns-then-b-gt-MAX_BYTES c = (bytes-many c.args.b c.if-b-gt-MAX_BYTES.true, refl)

pub returns : goal.returns
returns c = bytes-good c.args.b c.if-b-eq0.false (omega arith)
