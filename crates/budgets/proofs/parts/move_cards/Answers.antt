use native.Mathlib.Omega.{arith}
use Rattle.queues.proofs.Line.{blank-zeros}
use Rattle.budgets.proofs.parts.move_cards.Goals as goal

pub queue_up-requires : goal.queue_up-requires
queue_up-requires c = (c.requires.0, blank-zeros 4352, blank-zeros 66)

pub run_moves-requires : goal.run_moves-requires
run_moves-requires c = record { opened = c.requires.0; spared = c.requires.1; started = c.queue_up.ensures; cards-long = c.requires.2; log-long = omega arith }
