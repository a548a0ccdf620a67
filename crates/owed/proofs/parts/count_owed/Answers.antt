use native.Mathlib.Omega.{arith}
use Prim.Native.Nat.{◌<◌}
use Rattle.racks.specs.Racks.{slots}
use Rattle.racks.specs.Job.{racks_of}
use Rattle.racks.proofs.Jobs.{sound-slots, sound-few}
use Rattle.owed.proofs.Owed.{counted_none, countable, counted-more, counted-all}
use Rattle.owed.proofs.parts.count_owed.Goals as goal

pub loop-g-init : goal.loop-g-init
loop-g-init c = counted_none _ _ c.requires.1

pub count_slot-requires : goal.count_slot-requires
count_slot-requires c = let l = c.loop-g in
    let r = racks_of c.args.job in
    let h : l.g < slots r = omega (arith, sound-slots _ c.requires.0.sound) in
    countable r c.args.places.now c.requires.0.legal (sound-few _ c.requires.0.sound) c.requires.0.sound.small c.args.racking.now c.requires.0.filled l.g h _ l.invariant

pub loop-g-preserved : goal.loop-g-preserved
loop-g-preserved c = let l = c.loop-g in
    let r = racks_of c.args.job in
    let h : l.g < slots r = omega (arith, sound-slots _ c.requires.0.sound) in
    counted-more r c.args.places.now c.requires.0.legal (sound-few _ c.requires.0.sound) c.requires.0.sound.small c.args.racking.now c.requires.0.filled l.g h _ l.invariant _ c.count_slot.ensures

pub returns : goal.returns
returns c = let l = c.loop-g in counted-all _ _ l.g _ (omega (arith, sound-slots _ c.requires.0.sound)) l.invariant
