use native.Mathlib.Omega.{arith}
use mathlib.Core.Path.{◌≡◌}
use Rattle.racks.specs.Racks.{slots}
use Rattle.racks.specs.Job.{racks_of}
use Rattle.racks.proofs.Jobs.{sound-racks, sound-slots, sound-count, sound-start, start_small}
use Rattle.queues.proofs.Queueing.{queueing-none, queueable, queueing-more}
use Rattle.queues.proofs.AllQueued.{job_tabled, queues-ready}
use Rattle.queues.proofs.parts.arrivals.queue_up.Goals as goal

pub place_racks-requires : goal.place_racks-requires
place_racks-requires c = (c.requires.0.sound, c.requires.0.legal.long, c.requires.1)

pub find_free-requires : goal.find_free-requires
find_free-requires c = (omega (arith, c.requires.0.legal.long, c.requires.0.sound.small), c.requires.2)

pub loop-g-init : goal.loop-g-init
loop-g-init c = queueing-none _ _ _ (sound-racks _ c.requires.0.sound) c.place_racks.ensures

pub queue_slot-requires : goal.queue_slot-requires
queue_slot-requires c = let l = c.loop-g in
    let job = c.args.job in
    queueable (racks_of job) c.args.places.now c.args.racking.now (job_tabled job _ _ c.requires.0) l.g (omega (arith, sound-slots job c.requires.0.sound)) _ l.line l.invariant

pub loop-g-preserved : goal.loop-g-preserved
loop-g-preserved c = let l = c.loop-g in
    let job = c.args.job in
    queueing-more (racks_of job) c.args.places.now c.args.racking.now (job_tabled job _ _ c.requires.0) l.g (omega (arith, sound-slots job c.requires.0.sound)) _ l.line l.invariant _ c.queue_slot.ensures

pub find_waiting-requires : goal.find_waiting-requires
find_waiting-requires c = omega (arith, sound-count _ c.requires.0.sound)

pub returns : goal.returns
returns c = let l = c.loop-g in
    let job = c.args.job in
    let e : l.g ≡ slots (racks_of job) = omega (arith, sound-slots job c.requires.0.sound) in
    record {
      ready = queues-ready (racks_of job) c.args.places.now c.args.racking.now (job_tabled job _ _ c.requires.0) job.ends (sound-start job c.requires.0.sound) (start_small job c.requires.0.sound) job.racks _ l.line _ _ (sound-racks job c.requires.0.sound) (omega arith)
          c.place_racks.ensures (rw e at l.invariant) c.find_free.ensures c.find_waiting.ensures;
      long = l.invariant.long;
    }
