use native.Mathlib.Omega.{arith}
use Rattle.entries.proofs.Fills.{cleared}
use Rattle.entries.proofs.parts.check_entries.Goals as goal

pub fill-requires : goal.fill-requires
fill-requires c = omega (arith, c.requires.2)

pub mark_users-requires : goal.mark_users-requires
mark_users-requires c =
    (c.requires.0, cleared _ _ c.requires.2 c.fill.ensures)

pub check_marked-requires : goal.check_marked-requires
check_marked-requires c =
    (c.requires.0, c.requires.1, c.mark_users.ensures)

pub returns : goal.returns
returns c = c.check_marked.ensures
