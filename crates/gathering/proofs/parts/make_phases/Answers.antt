use mathlib.Core.Path.{refl}
use Rattle.queues.proofs.Line.{blank-zeros}
use Rattle.gathering.proofs.parts.make_phases.Goals as goal

pub count_owed-requires : goal.count_owed-requires
count_owed-requires c = (c.requires.0, blank-zeros 4096)

pub queue_up-requires : goal.queue_up-requires
queue_up-requires c = (c.requires.0, blank-zeros 4352, blank-zeros 66)

pub run_phases-requires : goal.run_phases-requires
run_phases-requires c = record {
  going = record { opened = c.requires.0; spared = c.requires.1; started = c.queue_up.ensures; cards-long = c.requires.2; log-long = c.requires.3 };
  owed = c.count_owed.ensures;
  agree = refl;
}
