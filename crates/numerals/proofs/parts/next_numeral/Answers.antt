-- `numerals::parts::next_numeral` meets its contract. Assumes nothing.
use mathlib.Core.Path.{◌≡◌, refl, sym, ◌∙◌}
use Prim.Native.Nat.{◌+◌, ◌-◌}
use native.Mathlib.Omega.{arith}
use lib.ListN.{get_or}
use Rattle.numerals.specs.Numeral.{numeral}
use Rattle.numerals.specs.Numeral.{got_of}
use Rattle.numerals.proofs.Groups.{weighed-none, weighed-more, product_small, group-15, group-last, group-more, group-20}
use Rattle.numerals.proofs.parts.next_numeral.Goals as goal

pub loop-init : goal.loop-init
unfolding numeral
loop-init c = (weighed-none, refl)

pub returns-then-file-next : goal.returns-then-file-next
unfolding got_of
returns-then-file-next c = sym (group-15 c.args.file.now (3 - c.loop.counter) c.loop.next c.loop.value c.loop.weight (omega arith) c.if-file-next.true) ∙ c.loop.invariant.1

pub overflow_cast-x : goal.overflow_cast-x
overflow_cast-x c = omega (arith, c.type_inv.file c.loop.next)

pub last_group-requires : goal.last_group-requires
last_group-requires c = let w = c.loop.invariant.0 in (omega arith, w.third (omega arith), w.low)

pub returns-then-x-lt128 : goal.returns-then-x-lt128
returns-then-x-lt128 c =
    c.last_group.ensures ∙ sym (group-last c.args.file.now (3 - c.loop.counter) c.loop.next c.loop.value c.loop.weight (omega arith) (omega arith) (omega arith)) ∙ c.loop.invariant.1

pub overflow_mul-value : goal.overflow_mul-value
overflow_mul-value c = let l = c.loop in omega (arith, product_small (get_or c.args.file.now l.next 0 - 128) l.weight (omega (arith, c.type_inv.file l.next)) (l.invariant.0.third (omega arith)))

pub overflow_add-value : goal.overflow_add-value
overflow_add-value c = let l = c.loop in omega (arith, product_small (get_or c.args.file.now l.next 0 - 128) l.weight (omega (arith, c.type_inv.file l.next)) (l.invariant.0.third (omega arith)), l.invariant.0.third (omega arith), l.invariant.0.low)

pub overflow_mul-weight : goal.overflow_mul-weight
overflow_mul-weight c = let l = c.loop in omega (arith, l.invariant.0.third (omega arith))

pub loop-preserved : goal.loop-preserved
loop-preserved c =
    let file = c.args.file.now in
    let l = c.loop in
    let x = get_or file l.next 0 in
    let e : 3 - l.counter - 1 ≡ 3 - (l.counter + 1) = omega arith in
    rw (← e) (
      weighed-more (3 - l.counter) l.value l.weight (x - 128) (omega arith) (omega (arith, c.type_inv.file l.next)) l.invariant.0,
      sym (group-more file (3 - l.counter) l.next l.value l.weight (omega arith) (omega arith) (omega arith)) ∙ l.invariant.1,
    )

pub returns : goal.returns
unfolding got_of
returns c =
    sym (group-20 c.args.file.now (3 - c.loop.counter) c.loop.next c.loop.value c.loop.weight (omega arith)) ∙ c.loop.invariant.1
