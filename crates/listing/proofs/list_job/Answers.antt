use mathlib.Core.Path.{refl, sym, ap, ◌∙◌}
use Prim.Native.Nat.{◌≤◌}
use native.Mathlib.Omega.{arith}
use lib.ListN.{length}
use lib.Seq.{length-take-le}
use Rattle.listing.specs.Listing.{handed_over, printed}
use Rattle.texts.proofs.Writing.{wrote-length}
use Rattle.runtexts.proofs.Writing.{wrote-front}
use Rattle.listing.proofs.Files.{listing-enough}
use Rattle.listing.proofs.list_job.Goals as goal
use Rattle.listing.proofs.list_job.Goals.{After-put_listing-size}

-- the text ends inside the list that it was written into
within : (c : After-put_listing-size) → c.put_listing-size.result ≤ length c.put_listing-size.new.out
within c =
    let w = c.put_listing-size.ensures in
    omega (arith, w.behind, wrote-length w, listing-enough c.args.file.now)

pub slice_bounds-text-end : goal.slice_bounds-text-end
slice_bounds-text-end c = within (goal.at.slice_bounds-text-end c).After-put_listing-size

pub slice_bounds-hand_over-end : goal.slice_bounds-hand_over-end
slice_bounds-hand_over-end c = sym (length-take-le _ _ (within (goal.at.slice_bounds-hand_over-end c).After-put_listing-size))

pub returns : goal.returns
unfolding printed
returns c =
    let f = wrote-front c.put_listing-size.ensures refl (omega (arith, listing-enough c.args.file.now)) in
    c.hand_over.ensures ∙ ap (λ t. handed_over t c.args.out.now) f
