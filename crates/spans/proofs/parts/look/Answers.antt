use native.Mathlib.Omega.{arith}
use mathlib.Core.Path.{◌≡◌, sym, ap, ◌∙◌}
use mathlib.Core.Bool.{Bool}
use Prim.Native.Nat.{ℕ, ◌+◌}
use Rattle.counting.specs.Tests.{pick, bit}
use Rattle.counting.proofs.Tests.{bit_le}
use Rattle.counting.proofs.Count.{count_none, count-more, count_le}
use Rattle.spans.specs.parts.Spans.{entry_in}
use Rattle.spans.proofs.Spans.{lies-read, lowest-zero, lowest-more, hits-all}
use Rattle.counting.proofs.Tests.{bit-code}
use Rattle.spans.proofs.parts.look.Goals as goal
use Rattle.spans.proofs.parts.look.Goals.{After-from, After-min-lowest, then-hit, else-hit}

pub loop-j-init : goal.loop-j-init
loop-j-init c = (sym (count_none _), lowest-zero _ _)

pub lies-hit-requires : goal.lies-hit-requires
lies-hit-requires c = c.requires.1

-- what is added for it
adds : (c : After-from)
    → c.from.result ≡ bit (entry_in c.args.places.now c.args.range (c.args.low + c.loop-j.j))
adds c = c.from.ensures ∙ bit-code _ ∙ ap bit (c.lies-hit.ensures ∙ lies-read _ _ _ (omega arith))

-- how far from the first slot this one is, where its entry lies in the range
chosen : (c : After-min-lowest) → c.if-hit.min ≡ pick (entry_in c.args.places.now c.args.range (c.args.low + c.loop-j.j)) c.loop-j.j c.args.n
chosen c =
    let e : c.lies-hit.result ≡ entry_in c.args.places.now c.args.range (c.args.low + c.loop-j.j) = c.lies-hit.ensures ∙ lies-read _ _ _ (omega arith) in
    elim c.if-hit.branch [
      | then-hit w ↦ rw (← e, w.if-hit.true) w.min-is
      | else-hit w ↦ rw (← e, w.if-hit.false) w.min-is
    ]

pub overflow_add-count : goal.overflow_add-count
overflow_add-count c =
    let l = c.loop-j in
    let s = c.args in
    omega (arith, bit_le _ (entry_in s.places.now s.range (s.low + l.j)) (adds c), l.invariant.0, count_le l.j (λ i. entry_in s.places.now s.range (s.low + i)))

pub loop-j-preserved : goal.loop-j-preserved
loop-j-preserved c =
    let l = c.loop-j in
    let s = c.args in
    let f : ℕ → Bool = λ i. entry_in s.places.now s.range (s.low + i) in
    let e : c.if-hit.min ≡ pick (f l.j) l.j s.n = chosen c in
    (omega (arith, l.invariant.0, adds (goal.at.loop-j-preserved c).After-from, count-more l.j f), c.min-lowest.ensures ∙ rw (e, l.invariant.1) (lowest-more s.n f l.j (omega arith)))

pub returns : goal.returns
returns c =
    let l = c.loop-j in
    let e : l.j ≡ c.args.n = omega arith in
    hits-all _ _ _ _ _ _ (rw e at l.invariant.0) (rw e at l.invariant.1)
