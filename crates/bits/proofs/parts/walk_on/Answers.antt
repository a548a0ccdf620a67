use native.Mathlib.Omega.{arith}
use Rattle.bits.proofs.Walks.{walked_same, later_in, walked_word}
use Rattle.bits.proofs.parts.walk_on.Goals as goal

pub returns-then-rest-ne0 : goal.returns-then-rest-ne0
returns-then-rest-ne0 c = walked_same (λ e. omega arith)

pub next_on-v-requires : goal.next_on-v-requires
next_on-v-requires c = omega (arith, later_in (omega arith) c.requires.1)

pub returns : goal.returns
returns c = walked_word (omega arith) c.requires.1 c.requires.2 c.next_on-v.ensures
