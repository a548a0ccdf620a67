use Rattle.flat.specs.Flat.{rack_number}
use Rattle.flat.proofs.parts.rack_number.Goals as goal

pub returns-in-Away : goal.returns-in-Away
unfolding rack_number
returns-in-Away c = rw c.in-Away.is

pub returns-in-Free : goal.returns-in-Free
unfolding rack_number
returns-in-Free c = rw c.in-Free.is

pub returns-in-Settled : goal.returns-in-Settled
unfolding rack_number
returns-in-Settled c = rw c.in-Settled.is

pub returns-in-Unsettled : goal.returns-in-Unsettled
unfolding rack_number
returns-in-Unsettled c = rw c.in-Unsettled.is
