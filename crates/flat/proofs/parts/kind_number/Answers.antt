use Rattle.flat.specs.Flat.{kind_number}
use Rattle.flat.proofs.parts.kind_number.Goals as goal

pub returns-in-User : goal.returns-in-User
unfolding kind_number
returns-in-User c = rw c.in-User.is

pub returns-in-Spare : goal.returns-in-Spare
unfolding kind_number
returns-in-Spare c = rw c.in-Spare.is
