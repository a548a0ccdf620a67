use Prim.Native.Nat.{◌≤◌}
use native.Mathlib.Omega.{arith}
use lib.ListN.{length}
use Rattle.runtexts.specs.RunText.{FILE}
use Rattle.listing.proofs.Files.{listing-18, listing-room, listing-refused, listing-run, job-legal, job-small}
use Rattle.listing.proofs.parts.put_listing.Goals as goal

pub put_refused-requires : goal.put_refused-requires
put_refused-requires c = rw (listing-18 c.args.file.now c.if-file-gt-FILE.true, ← c.number.ensures) at (listing-room c.args.file.now c.args.out.now c.requires)

pub returns-then-file-gt-FILE : goal.returns-then-file-gt-FILE
returns-then-file-gt-FILE c = rw (listing-18 c.args.file.now c.if-file-gt-FILE.true) (rw c.number.ensures at c.put_refused.ensures)

pub put_job-requires : goal.put_job-requires
put_job-requires c =
    let small : length c.args.file.now ≤ FILE = omega (arith, c.if-file-gt-FILE.false) in
    let p = c.in-Ok.ensures in
    let b = c.card_bytes.ensures in (
      rw b (job-legal c.args.file.now small p),
      rw b (job-small c.args.file.now small p),
      rw b (rw (listing-run c.args.file.now small p) at (listing-room c.args.file.now c.args.out.now c.requires)),
    )

pub put_refused-requires-in-Err : goal.put_refused-requires-in-Err
put_refused-requires-in-Err c =
    rw c.number-in-Err.ensures
    (rw (listing-refused c.args.file.now (omega (arith, c.if-file-gt-FILE.false)) c.in-Err.refusal c.in-Err.ensures) at (listing-room c.args.file.now c.args.out.now c.requires))

pub returns-in-Ok : goal.returns-in-Ok
returns-in-Ok c =
    rw (listing-run c.args.file.now (omega (arith, c.if-file-gt-FILE.false)) c.in-Ok.ensures) (rw c.card_bytes.ensures at c.put_job.ensures)

pub returns-in-Err : goal.returns-in-Err
returns-in-Err c =
    rw (listing-refused c.args.file.now (omega (arith, c.if-file-gt-FILE.false)) c.in-Err.refusal c.in-Err.ensures) (rw c.number-in-Err.ensures at c.put_refused-in-Err.ensures)
