use native.Mathlib.Omega.{arith}
use mathlib.Core.Path.{◌≡◌, ◌∙◌}
use Prim.Native.Nat.{◌*◌, ◌≤◌, ◌<◌}
use lib.ListN.{length}
use Rattle.counting.proofs.Tests.{bit_le}
use Rattle.racks.specs.Job.{racks_of}
use Rattle.racks.specs.Racks.{slots}
use Rattle.racks.proofs.Jobs.{sound-slots}
use Rattle.plans.specs.Plan.{plan}
use Rattle.plans.proofs.Plans.{plan-few}
use Rattle.shares.specs.parts.Cards.{takes_card}
use Rattle.shares.proofs.Cards.{granting-none, granting-few, granting-done, grantable, granting-more}
use Rattle.shares.proofs.parts.cards.grant_cards.Goals as goal
use Rattle.shares.proofs.parts.cards.grant_cards.Goals.{After-grant_card, Else-put-pairs}

pub loop-g-init : goal.loop-g-init
loop-g-init c = granting-none _ _ _ _ c.requires.shared.0.starts-are c.requires.shared.0.long

pub returns-then-put-pairs : goal.returns-then-put-pairs
returns-then-put-pairs c =
    let l = c.loop-g in
    granting-done _ _ _ l.invariant (omega (arith, sound-slots _ c.requires.sound.0)) (c.if-put-pairs.true ∙ c.requires.shared.0.all)

-- a card is still to be granted
left : (c : Else-put-pairs) → 0 < length (plan (racks_of c.args.job) c.args.places.now)
left c =
    omega (arith, c.if-put-pairs.false, c.requires.shared.0.all, granting-few _ _ _ c.loop-g.invariant)

-- and the list has room for all pairs
room : (c : Else-put-pairs) → 2 * length (plan (racks_of c.args.job) c.args.places.now) ≤ length c.args.lent.now
room c = omega (arith, c.requires.shared.0.all, c.requires.shared.1)

pub grant_card-requires : goal.grant_card-requires
grant_card-requires c =
    let l = c.loop-g in
    let o = c.requires.sound in
    grantable _ _ _ o.1 o.2 o.0.small o.0.few _ _ _ _ _ _ (omega (arith, sound-slots _ o.0)) c.requires.shared.0.stopped (room (goal.at.grant_card-requires c).Else-put-pairs) (left (goal.at.grant_card-requires c).Else-put-pairs) l.invariant o.3
    (omega (arith, plan-few (racks_of c.args.job) c.args.places.now, o.0.small))

-- the call gives 0 or 1
one : (c : After-grant_card) → c.grant_card.result ≤ 1
one c = bit_le _ (takes_card _ _ _ _ _) c.grant_card.ensures.one-is

pub overflow_cast-put : goal.overflow_cast-put
overflow_cast-put c = omega (arith, one (goal.at.overflow_cast-put c).After-grant_card)

pub overflow_add-put : goal.overflow_add-put
overflow_add-put c =
    omega (arith, one (goal.at.overflow_add-put c).After-grant_card, granting-few _ _ _ c.loop-g.invariant, plan-few (racks_of c.args.job) c.args.places.now, c.requires.sound.0.small)

pub loop-g-preserved : goal.loop-g-preserved
loop-g-preserved c =
    let l = c.loop-g in
    let o = c.requires.sound in
    granting-more _ _ _ o.1 o.2 o.0.small o.0.few _ _ _ _ _ _ (omega (arith, sound-slots _ o.0)) c.requires.shared.0.stopped (room (goal.at.loop-g-preserved c).Else-put-pairs) (left (goal.at.loop-g-preserved c).Else-put-pairs) l.invariant _ _ _ c.grant_card.ensures

pub returns : goal.returns
returns c =
    let l = c.loop-g in
    let e : l.g ≡ slots (racks_of c.args.job) = omega (arith, sound-slots _ c.requires.sound.0) in
    rw e at l.invariant.list
