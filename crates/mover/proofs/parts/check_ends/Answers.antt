use native.Mathlib.Omega.{arith}
use Prim.Native.Nat.{◌≤◌, ◌<◌}
use mathlib.Core.Path.{◌≡◌, sym, ap, ◌∙◌}
use lib.ListN.{length, get_or}
use Rattle.answers.specs.Answers.{placeless}
use Rattle.racks.specs.Racks.{slots, rack_of}
use Rattle.racks.specs.Limits.{FREE}
use Rattle.racks.specs.Table.{dest, rack_to}
use Rattle.racks.specs.Job.{racks_of}
use Rattle.racks.proofs.Jobs.{sound-slots}
use Rattle.racks.proofs.Table.{read-dest}
use Rattle.racks.proofs.LegalTable.{legal-slot}
use Rattle.moves.proofs.Ends.{ends-7-from, ends-7-to, ends-8, ends-9, ends-10, ends-11, ends-0}
use Rattle.mover.proofs.parts.check_ends.Goals as goal
use Rattle.mover.proofs.parts.check_ends.Goals.{Else-job-to, Else-racking-from, Else-racking-to, Else-x}

-- both are slots, of which there are at most 4,096
module _ (c : Else-job-to) where
  long : length c.args.places.now ≡ slots (racks_of c.args.job.now)
  long = c.requires.legal.long

  from-lt : c.args.from < slots (racks_of c.args.job.now)
  from-lt = omega (arith, sound-slots _ c.requires.sound, c.if-job-from.false)

  to-lt : c.args.to < slots (racks_of c.args.job.now)
  to-lt = omega (arith, sound-slots _ c.requires.sound, c.if-job-to.false)

  -- what is read at each
  from-read : get_or c.args.places.now c.args.from 0 ≡ dest c.args.places.now c.args.from
  from-read = let a = c.args in read-dest a.places.now a.from (omega (arith, from-lt, long))

  to_read : get_or c.args.places.now c.args.to 0 ≡ dest c.args.places.now c.args.to
  to_read = let a = c.args in read-dest a.places.now a.to (omega (arith, to-lt, long))

  small : slots (racks_of c.args.job.now) ≤ 4096
  small = c.requires.sound.small

-- the source has a card, and its destination is a slot
card : (c : Else-x) → get_or c.args.places.now c.args.from 0 < slots (racks_of c.args.job.now)
card c =
    let from-lt : c.args.from < slots (racks_of c.args.job.now) = omega (arith, sound-slots _ c.requires.sound, c.if-job-from.false) in
    let from-read = read-dest c.args.places.now c.args.from (omega (arith, from-lt, c.requires.legal.long)) in
    legal-slot (racks_of c.args.job.now) c.args.places.now c.requires.legal c.args.from _ (omega (arith, from-lt, c.requires.legal.long)) from-read c.if-x.false

-- by its destination too it has one
held : (c : Else-x) → dest c.args.places.now c.args.from ≡ FREE → ⊥
held c q =
    let from-lt : c.args.from < slots (racks_of c.args.job.now) = omega (arith, sound-slots _ c.requires.sound, c.if-job-from.false) in
    let from-read = read-dest c.args.places.now c.args.from (omega (arith, from-lt, c.requires.legal.long)) in
    c.if-x.false (from-read ∙ q)

-- the rack looked up is the one where the card must end
there : (c : Else-x) → get_or c.args.racking.now (get_or c.args.places.now c.args.from 0) 0
    ≡ rack_to (racks_of c.args.job.now) c.args.places.now c.args.from
unfolding rack_to
there c =
    let from-lt : c.args.from < slots (racks_of c.args.job.now) = omega (arith, sound-slots _ c.requires.sound, c.if-job-from.false) in
    let from-read = read-dest c.args.places.now c.args.from (omega (arith, from-lt, c.requires.legal.long)) in
    c.requires.filled _ (card c) ∙ ap (rack_of (racks_of c.args.job.now)) from-read

pub returns-then-job-from : goal.returns-then-job-from
returns-then-job-from c =
    ap placeless
    (ends-7-from (racks_of c.args.job.now) c.args.places.now (c.args.from, c.args.to) (omega (arith, sound-slots _ c.requires.sound)))

pub returns-then-job-to : goal.returns-then-job-to
returns-then-job-to c =
    ap placeless
    (ends-7-to (racks_of c.args.job.now) c.args.places.now (c.args.from, c.args.to) (omega (arith, sound-slots _ c.requires.sound)))

pub offset_bounds-places-from : goal.offset_bounds-places-from
offset_bounds-places-from c = omega (arith, from-lt c, small c)

pub bounds-places-from : goal.bounds-places-from
bounds-places-from c = omega (arith, from-lt (goal.at.bounds-places-from c).Else-job-to, long (goal.at.bounds-places-from c).Else-job-to)

pub returns-then-x : goal.returns-then-x
returns-then-x c =
    ap placeless
    (ends-8 (racks_of c.args.job.now) c.args.places.now (c.args.from, c.args.to) (from-lt (goal.at.returns-then-x c).Else-job-to) (to-lt (goal.at.returns-then-x c).Else-job-to) (sym (from-read (goal.at.returns-then-x c).Else-job-to) ∙ c.if-x.true))

pub overflow_cast-there : goal.overflow_cast-there
overflow_cast-there c = omega (arith, card c, small (goal.at.overflow_cast-there c).Else-job-to)

pub bounds-racking-x : goal.bounds-racking-x
bounds-racking-x c = omega (arith, card (goal.at.bounds-racking-x c).Else-x, small (goal.at.bounds-racking-x c).Else-job-to)

pub bounds-racking-from : goal.bounds-racking-from
bounds-racking-from c = omega (arith, from-lt (goal.at.bounds-racking-from c).Else-job-to, small (goal.at.bounds-racking-from c).Else-job-to)

pub returns-then-racking-from : goal.returns-then-racking-from
returns-then-racking-from c =
    ap placeless
    (ends-9 (racks_of c.args.job.now) c.args.places.now (c.args.from, c.args.to) (from-lt (goal.at.returns-then-racking-from c).Else-job-to) (to-lt (goal.at.returns-then-racking-from c).Else-job-to) (held (goal.at.returns-then-racking-from c).Else-x)
    (sym (c.requires.filled _ (from-lt (goal.at.returns-then-racking-from c).Else-job-to)) ∙ c.if-racking-from.true ∙ there (goal.at.returns-then-racking-from c).Else-x))

pub bounds-racking-to : goal.bounds-racking-to
bounds-racking-to c = omega (arith, to-lt (goal.at.bounds-racking-to c).Else-job-to, small (goal.at.bounds-racking-to c).Else-job-to)

-- the card is away: its destination is on another rack than its slot
is-away : (c : Else-racking-from) → get_or c.args.racking.now (get_or c.args.places.now c.args.from 0) 0 ≡ rack_to (racks_of c.args.job.now) c.args.places.now c.args.from
    → c.args.from < slots (racks_of c.args.job.now) → rack_of (racks_of c.args.job.now) c.args.from ≡ rack_to (racks_of c.args.job.now) c.args.places.now c.args.from → ⊥
is-away c there low q = c.if-racking-from.false (c.requires.filled _ low ∙ q ∙ sym there)

pub returns-then-racking-to : goal.returns-then-racking-to
returns-then-racking-to c =
    ap placeless
    (ends-10 (racks_of c.args.job.now) c.args.places.now (c.args.from, c.args.to) (from-lt (goal.at.returns-then-racking-to c).Else-job-to) (to-lt (goal.at.returns-then-racking-to c).Else-job-to) (held (goal.at.returns-then-racking-to c).Else-x) (is-away (goal.at.returns-then-racking-to c).Else-racking-from (there (goal.at.returns-then-racking-to c).Else-x) (from-lt (goal.at.returns-then-racking-to c).Else-job-to))
    (λ q. c.if-racking-to.true (c.requires.filled _ (to-lt (goal.at.returns-then-racking-to c).Else-job-to) ∙ q ∙ sym (there (goal.at.returns-then-racking-to c).Else-x))))

-- the target is on the card's destination rack
meets : (c : Else-racking-to) → get_or c.args.racking.now (get_or c.args.places.now c.args.from 0) 0 ≡ rack_to (racks_of c.args.job.now) c.args.places.now c.args.from
    → rack_of (racks_of c.args.job.now) c.args.to ≡ rack_to (racks_of c.args.job.now) c.args.places.now c.args.from
meets c there =
    let to-lt : c.args.to < slots (racks_of c.args.job.now) = omega (arith, sound-slots _ c.requires.sound, c.if-job-to.false) in
    sym (c.requires.filled _ to-lt) ∙ c.if-racking-to.false ∙ there

pub offset_bounds-places-to : goal.offset_bounds-places-to
offset_bounds-places-to c = omega (arith, to-lt (goal.at.offset_bounds-places-to c).Else-job-to, small (goal.at.offset_bounds-places-to c).Else-job-to)

pub bounds-places-to : goal.bounds-places-to
bounds-places-to c = omega (arith, to-lt (goal.at.bounds-places-to c).Else-job-to, long (goal.at.bounds-places-to c).Else-job-to)

pub returns-then-places-to : goal.returns-then-places-to
returns-then-places-to c =
    ap placeless
    (ends-11 (racks_of c.args.job.now) c.args.places.now (c.args.from, c.args.to) (from-lt (goal.at.returns-then-places-to c).Else-job-to) (to-lt (goal.at.returns-then-places-to c).Else-job-to) (held (goal.at.returns-then-places-to c).Else-x) (is-away (goal.at.returns-then-places-to c).Else-racking-from (there (goal.at.returns-then-places-to c).Else-x) (from-lt (goal.at.returns-then-places-to c).Else-job-to)) (meets (goal.at.returns-then-places-to c).Else-racking-to (there (goal.at.returns-then-places-to c).Else-x)) (λ q. c.if-places-to.true (to_read (goal.at.returns-then-places-to c).Else-job-to ∙ q)))

pub returns : goal.returns
returns c =
    ap placeless
    (ends-0 (racks_of c.args.job.now) c.args.places.now (c.args.from, c.args.to) (from-lt (goal.at.returns c).Else-job-to) (to-lt (goal.at.returns c).Else-job-to) (held (goal.at.returns c).Else-x) (is-away (goal.at.returns c).Else-racking-from (there (goal.at.returns c).Else-x) (from-lt (goal.at.returns c).Else-job-to)) (meets (goal.at.returns c).Else-racking-to (there (goal.at.returns c).Else-x)) (sym (to_read (goal.at.returns c).Else-job-to) ∙ c.if-places-to.false))
