use native.Mathlib.Omega.{arith}
use Prim.Native.Nat.{ℕ, ◌+◌, ◌*◌, ◌^◌, ◌≤◌, ◌<◌}
use mathlib.Core.Path.{◌≡◌, sym, ap, ◌∙◌}
use lib.Dec.{eqb}
use lib.ListN.{length}
use lib.Seq.{take_all}
use Rattle.racks.specs.Table.{free}
use Rattle.racks.specs.Limits.{FREE}
use Rattle.racks.proofs.Table.{read-dest}
use Rattle.counting.specs.Tests.{bit}
use Rattle.counting.proofs.Tests.{bit_le}
use Rattle.counting.proofs.Tests.{bit-code}
use Rattle.queues.proofs.Openings.{word_none, word_more, doubled_fits, read-long, read-front, read-item}
use Rattle.queues.proofs.parts.openings.free_word.Goals as goal
use Rattle.queues.proofs.parts.openings.free_word.Goals.{In-Some, After-from}

pub loop-entry-init : goal.loop-entry-init
loop-entry-init c =
    let e : c.into_iter-entry-iterator.result.iter.rest.now ≡ c.args.slots.now = cc (c.into_iter-entry-iterator.ensures.into_iter_gives, c.rev-entry-items.ensures.source, c.iter.ensures.rest) in
    rw e (sym (take_all (length c.args.slots.now) c.args.slots.now (omega arith)), word_none _ _)

-- the word has room for the slot's bit
fits : (c : In-Some) (one : ℕ) → one ≤ 1 → 2 * c.loop-entry.word + one < 2 ^ 64
fits c one f =
    let o = read-long _ _ _ _ c.loop-entry.invariant.0 c.in-Some.ensures.steps in
    doubled_fits _ _ _ _ o.1 (rw o.0 at c.loop-entry.invariant.1) one f c.requires

pub overflow_mul-word : goal.overflow_mul-word
overflow_mul-word c = omega (arith, fits (goal.at.overflow_mul-word c).In-Some 0 (omega arith))

-- the bit: whether the slot is free
adds : (c : After-from) → c.from.result ≡ bit (free c.args.slots.now (length c.next.new.self.iter.rest.now))
unfolding free
adds c =
    let front = c.loop-entry.invariant.0 in
    let last = c.in-Some.ensures.steps in
    c.from.ensures ∙ bit-code _ ∙ ap (λ (x : ℕ). bit (eqb x FREE)) (read-item _ _ _ _ front last ∙ read-dest c.args.slots.now _ (read-long _ _ _ _ front last).1)

pub overflow_add-word : goal.overflow_add-word
overflow_add-word c =
    omega (arith, fits (goal.at.overflow_add-word c).In-Some c.from.result (bit_le _ _ (adds c)))

pub loop-entry-preserved : goal.loop-entry-preserved
loop-entry-preserved c =
    let front = c.loop-entry.invariant.0 in
    let last = c.in-Some.ensures.steps in
    let o = read-long _ _ _ _ front last in
    (read-front _ _ _ _ front last, word_more _ _ _ _ o.1 (rw o.0 at c.loop-entry.invariant.1) _ (adds c))

pub returns : goal.returns
returns c = let e = c.in-None.ensures.steps.0 in rw e at c.loop-entry.invariant.1
