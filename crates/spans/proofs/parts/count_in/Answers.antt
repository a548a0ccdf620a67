use native.Mathlib.Omega.{arith}
use mathlib.Core.Path.{◌≡◌, sym, ap, ◌∙◌}
use Prim.Native.Nat.{◌+◌}
use Rattle.counting.specs.Tests.{bit}
use Rattle.counting.proofs.Tests.{bit_le}
use Rattle.counting.proofs.Count.{count_none, count-more, count_le}
use Rattle.spans.specs.parts.Spans.{entry_in, entries_in}
use Rattle.spans.proofs.Spans.{lies-read}
use Rattle.counting.proofs.Tests.{bit-code}
use Rattle.spans.proofs.parts.count_in.Goals as goal
use Rattle.spans.proofs.parts.count_in.Goals.{After-from-found}

pub loop-k-init : goal.loop-k-init
loop-k-init c = sym (count_none _)

-- what is added: whether the entry lies in the range
adds : (c : After-from-found)
    → c.from-found.result ≡ bit (entry_in c.args.places.now c.args.range (c.args.low + c.loop-k.k))
adds c = c.from-found.ensures ∙ bit-code _ ∙ ap bit (c.lies.ensures ∙ lies-read _ _ _ (omega arith))

pub overflow_add-found : goal.overflow_add-found
overflow_add-found c =
    let l = c.loop-k in
    let s = c.args in
    omega (arith, bit_le _ (entry_in s.places.now s.range (s.low + l.k)) (adds c), l.invariant, count_le l.k (λ i. entry_in s.places.now s.range (s.low + i)))

pub loop-k-preserved : goal.loop-k-preserved
loop-k-preserved c =
    let l = c.loop-k in
    let s = c.args in
    omega (arith, l.invariant, adds c, count-more l.k (λ i. entry_in s.places.now s.range (s.low + i)))

pub returns : goal.returns
unfolding entries_in
returns c =
    let l = c.loop-k in
    let e : l.k ≡ c.args.n = omega arith in
    rw e at l.invariant
