use mathlib.Core.Path.{refl, ap, ◌∙◌}
use native.Mathlib.Omega.{arith}
use lib.ListN.{length}
use Rattle.runtexts.proofs.Writing.{wrote-front}
use Rattle.runtexts.proofs.Jobs.{job-good, job-sound, job-spared, job-racks, job_open}
use Rattle.runtexts.proofs.parts.jobs.put_job.Goals as goal

pub job_of-job-requires : goal.job_of-job-requires
job_of-job-requires c = job-good c.args.caps.now c.args.b c.args.places.now c.args.bytes.now c.requires.0

pub fill_racking-requires : goal.fill_racking-requires
fill_racking-requires c = (job-sound c.args.caps.now c.args.b c.args.places.now c.args.bytes.now c.requires.0 _ c.job_of-job.ensures, refl)

pub slice_bounds-put_run-end : goal.slice_bounds-put_run-end
slice_bounds-put_run-end c =
    let w = c.put_text-size.ensures in
    omega (arith, ap length (wrote-front w refl (omega (arith, c.requires.1))), w.behind)

pub put_run-requires : goal.put_run-requires
put_run-requires c =
    let o = job_open c.args.caps.now c.args.b c.args.places.now c.args.bytes.now c.requires.0 _ c.job_of-job.ensures _ c.fill_racking.ensures in
    let f = wrote-front c.put_text-size.ensures refl (omega (arith, c.requires.1)) in (
      o.table,
      job-spared c.args.caps.now c.args.b c.args.places.now c.args.bytes.now c.requires.0 _ c.job_of-job.ensures,
      ap length f ∙ o.long,
      o.bytes,
      rw (job-racks c.args.caps.now c.args.b c.args.places.now c.args.bytes.now c.requires.0 _ c.job_of-job.ensures, f) c.requires.2,
    )

pub returns : goal.returns
returns c =
    let f = wrote-front c.put_text-size.ensures refl (omega (arith, c.requires.1)) in
    rw (job-racks c.args.caps.now c.args.b c.args.places.now c.args.bytes.now c.requires.0 _ c.job_of-job.ensures, f) at c.put_run.ensures
