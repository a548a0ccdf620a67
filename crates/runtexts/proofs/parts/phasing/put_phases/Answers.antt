use native.Mathlib.Omega.{arith}
use native.Mathlib.Numerals.{add-one}
use mathlib.Core.Path.{refl, sym, ap, ◌∙◌}
use Prim.Native.Nat.{◌*◌}
use Rattle.runtexts.specs.parts.Logs.{made_before}
use Rattle.runtexts.proofs.Phasing.{before-first, lines-first, line-room, lines_next, lines-done, made-next, phase-here}
use Rattle.texts.proofs.Writing.{wrote-length}
use Rattle.runtexts.proofs.parts.phasing.put_phases.Goals as goal

pub loop-j-init : goal.loop-j-init
loop-j-init c = (refl, rw (before-first c.args.log.now), lines-first _ _ _)

pub overflow_add-high : goal.overflow_add-high
overflow_add-high c = omega (arith, c.requires.0.few)

pub offset_bounds-log-j : goal.offset_bounds-log-j
offset_bounds-log-j c = omega (arith, c.requires.0.few)

pub bounds-log-j : goal.bounds-log-j
bounds-log-j c = omega (arith, c.requires.0.few, c.requires.0.long)

pub overflow_cast-high : goal.overflow_cast-high
overflow_cast-high c =
    omega (arith, c.requires.0.within c.loop-j.j (omega arith), made-next c.args.log.now c.loop-j.j)

pub overflow_mul-high : goal.overflow_mul-high
overflow_mul-high c =
    omega (arith, c.requires.0.within c.loop-j.j (omega arith), made-next c.args.log.now c.loop-j.j)

pub overflow_add-j : goal.overflow_add-j
overflow_add-j c = omega (arith, c.requires.0.few)

pub slice_bounds-put_phase-count : goal.slice_bounds-put_phase-count
slice_bounds-put_phase-count c =
    let l = c.loop-j in
    omega (arith, l.invariant.1, made-next c.args.log.now l.j, c.requires.0.rising l.j (omega arith))

pub slice_bounds-put_phase-start : goal.slice_bounds-put_phase-start
slice_bounds-put_phase-start c =
    let l = c.loop-j in
    omega (arith, l.invariant.1, made-next c.args.log.now l.j, c.requires.0.rising l.j (omega arith))

pub slice_bounds-put_phase-end : goal.slice_bounds-put_phase-end
slice_bounds-put_phase-end c =
    let l = c.loop-j in
    omega (arith, made-next c.args.log.now l.j, c.requires.0.within l.j (omega arith), c.requires.0.long)

pub put_phase-next-requires : goal.put_phase-next-requires
put_phase-next-requires c =
    let l = c.loop-j in
    let log = c.args.log.now in
    let up = c.requires.0.rising l.j (omega arith) in
    rw (phase-here log l.j _ _ up l.invariant.1 refl) (line-room c.args.n log l.j (omega arith) l.invariant.2 c.requires.1)

pub loop-j-preserved : goal.loop-j-preserved
loop-j-preserved c =
    let l = c.loop-j in
    let log = c.args.log.now in
    let up = c.requires.0.rising l.j (omega arith) in
    let w = c.put_phase-next.ensures in (
      wrote-length w ∙ l.invariant.0,
      ap (λ n. 2 * n) (made-next log l.j) ∙ ap (λ n. 2 * made_before log n) (sym (add-one l.j)),
      lines_next c.args.n log l.j (omega arith) l.invariant.2 (rw (phase-here log l.j _ _ up l.invariant.1 refl) at w),
    )

pub returns : goal.returns
returns c = lines-done _ _ c.loop-j.j (omega arith) c.loop-j.invariant.2
