-- `parsing::parts::read_entries` meets its contract. Assumes nothing.
use mathlib.Core.Path.{◌≡◌, refl}
use Prim.Native.Nat.{◌<◌}
use native.Mathlib.Omega.{arith}
use Rattle.std.proofs.lemmas.Result.{err_from_is_err_and}
use Rattle.racks.specs.Racks.{slots}
use Rattle.racks.specs.Job.{racks_of}
use Rattle.racks.proofs.Jobs.{sound-slots}
use Rattle.entries.proofs.Marks.{good-5}
use Rattle.numerals.specs.Numeral.{got_of}
use Rattle.numerals.specs.parts.Bounds.{ranged}
use Rattle.numerals.proofs.Numerals.{got}
use Rattle.parsing.proofs.Entries.{entering-none, entering-stop, entering-5, entering-more, entering-6, entering-done, entry-small}
use Rattle.parsing.proofs.parts.read_entries.Goals as goal
use Rattle.parsing.proofs.parts.read_entries.Goals.{In_ok-x, In-loop-g}

-- there is an entry to read
below : (c : In-loop-g) → c.loop-g.g < slots (racks_of c.args.job)
below c = omega (arith, sound-slots _ c.requires.0)

-- the entry that is read
entry : (c : In_ok-x) → got c.in_ok-x.x.value c.in_ok-x.x.next ≡ ranged 0 4096 5 c.args.file.now c.loop-g.next
unfolding got_of
entry c = c.in_ok-x.ensures.number

pub loop-g-init : goal.loop-g-init
loop-g-init c = entering-none _ _ _ _ _ c.requires.1 c.requires.2

pub returns-in_err-x : goal.returns-in_err-x
unfolding got_of
returns-in_err-x c =
    let p = err_from_is_err_and c.from_residual.result c.from_residual.ensures.1 in
    let e = c.in_err-x.ensures in
    rw (p.1, p.2)
    (entering-stop (racks_of c.args.job) c.args.file.now c.args.at c.loop-g.places c.loop-g.marks c.loop-g.g c.loop-g.next c.loop-g.twice c.loop-g.invariant c.requires.0.small (below (goal.at.returns-in_err-x c).In-loop-g) _ e.number e.place)

pub entry_of-entry-requires : goal.entry_of-entry-requires
entry_of-entry-requires c =
    entry-small (racks_of c.args.job) c.args.file.now c.args.at c.loop-g.places c.loop-g.marks c.loop-g.g c.loop-g.next c.loop-g.twice c.loop-g.invariant c.requires.0.small (below (goal.at.entry_of-entry-requires c).In-loop-g) _ _ (entry c)

pub name_entry-requires : goal.name_entry-requires
name_entry-requires c = c.loop-g.invariant.passed.long

pub returns-in_err-again : goal.returns-in_err-again
returns-in_err-again c =
    let p = err_from_is_err_and c.from_residual-in_err-again.result c.from_residual-in_err-again.ensures.1 in
    let e = c.in_err-again.ensures in
    rw (p.1, p.2)
    (entering-5 (racks_of c.args.job) c.args.file.now c.args.at c.loop-g.places c.loop-g.marks c.loop-g.g c.loop-g.next c.loop-g.twice c.loop-g.invariant c.requires.0.small (below (goal.at.returns-in_err-again c).In-loop-g) _ _ (entry (goal.at.returns-in_err-again c).In_ok-x) _ _ _ c.entry_of-entry.ensures e.number refl _ e.entry)

pub loop-g-preserved : goal.loop-g-preserved
loop-g-preserved c =
    entering-more (racks_of c.args.job) c.args.file.now c.args.at c.loop-g.places c.loop-g.marks c.loop-g.g c.loop-g.next c.loop-g.twice c.loop-g.invariant c.requires.0.small (below (goal.at.loop-g-preserved c).In-loop-g) _ _ (entry (goal.at.loop-g-preserved c).In_ok-x) _ _ _ c.entry_of-entry.ensures c.in_ok-again.ensures.number (good-5 c.in_ok-again.again) _ c.first_twice-twice.ensures

pub returns-in_err-check_twice : goal.returns-in_err-check_twice
returns-in_err-check_twice c =
    let p = err_from_is_err_and c.from_residual-in_err-check_twice.result c.from_residual-in_err-check_twice.ensures.1 in
    rw (p.1, p.2)
    (entering-6 (racks_of c.args.job) c.args.file.now c.args.at c.loop-g.places c.loop-g.marks c.loop-g.g c.loop-g.next c.loop-g.twice c.loop-g.invariant (omega (arith, sound-slots _ c.requires.0)) _ c.in_err-check_twice.ensures)

pub returns : goal.returns
returns c =
    entering-done (racks_of c.args.job) c.args.file.now c.args.at c.loop-g.places c.loop-g.marks c.loop-g.g c.loop-g.next c.loop-g.twice c.loop-g.invariant (omega (arith, sound-slots _ c.requires.0)) c.in_ok-check_twice.ensures
