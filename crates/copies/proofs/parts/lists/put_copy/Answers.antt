use lib.ListN.{length-set}
use native.Mathlib.Omega.{arith}
use Rattle.copies.proofs.Writing.{put_one}
use Rattle.copies.proofs.parts.lists.put_copy.Goals as goal

pub bounds-list-at-2 : goal.bounds-list-at-2
bounds-list-at-2 c = simp length-set (omega arith)

pub returns : goal.returns
returns c = put_one _ _ _ _
