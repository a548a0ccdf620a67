use Rattle.racks.proofs.Caps.{slots_small}
use Rattle.racks.proofs.Geometry.{base_mono, slots-is}
use Rattle.racks.proofs.Jobs.{made-good}
use native.Mathlib.Numerals.{add-one}
use lib.ListN.{length-set}
use Rattle.racks.proofs.Caps.{length-caps, racks-few, base-caps, spare-caps, base-small}
use Rattle.racks.proofs.Jobs.{laid_more, laid-spares, laid-ends}
use native.Mathlib.Omega.{arith}
use Prim.Native.Nat.{ℕ, ◌+◌, ◌≤◌, ◌<◌}
use mathlib.Core.List.{List}
use Rattle.counting.specs.Checks.{first}
use Rattle.racks.specs.Numbers.{rack_checks}
use mathlib.Core.Path.{◌≡◌, refl, sym, ap, ◌∙◌}
use lib.ListN.{length, get_or}
use Rattle.racks.specs.Racks.{of_caps, base}
use Rattle.racks.proofs.Jobs.{laid_none}
use Rattle.racks.proofs.Geometry.{base-zero}
use Rattle.racks.proofs.parts.job_of.Goals as goal
use Rattle.racks.proofs.parts.job_of.Goals.{Start}

few : (c : Start) → length c.args.caps.now ≤ 64
few c = omega (arith, length-caps c.args.caps.now, racks-few (of_caps c.args.caps.now) c.requires)

-- a rack's slots, with its spare, fit a word
small : (caps : List ℕ) (p end : ℕ) → first (rack_checks (of_caps caps)) ≡ 0 → p < length caps → end ≡ base (of_caps caps) p → end + get_or caps p 0 + 1 ≤ 4096
small caps p end good l e = omega (arith, e, base-small caps p good l)

pub loop-p-init : goal.loop-p-init
loop-p-init c = (sym (base-zero _), refl, refl, laid_none _)

pub overflow_add-spares : goal.overflow_add-spares
overflow_add-spares c = omega (arith, small c.args.caps.now c.loop-p.p c.loop-p.end c.requires (omega arith) c.loop-p.invariant.0)

pub bounds-spares-p : goal.bounds-spares-p
bounds-spares-p c = omega (arith, few (goal.at.bounds-spares-p c).Start)

pub overflow_add-end : goal.overflow_add-end
overflow_add-end c = omega (arith, small c.args.caps.now c.loop-p.p c.loop-p.end c.requires (omega arith) c.loop-p.invariant.0)

pub overflow_add-end-in-loop-p : goal.overflow_add-end-in-loop-p
overflow_add-end-in-loop-p c = omega (arith, small c.args.caps.now c.loop-p.p c.loop-p.end c.requires (omega arith) c.loop-p.invariant.0)

pub bounds-ends-p : goal.bounds-ends-p
bounds-ends-p c = omega (arith, few (goal.at.bounds-ends-p c).Start)

pub loop-p-preserved : goal.loop-p-preserved
loop-p-preserved c =
    let caps = c.args.caps.now in
    let p = c.loop-p.p in (
      omega (arith, base-caps caps p (omega arith), c.loop-p.invariant.0),
      simp length-set c.loop-p.invariant.1,
      simp length-set c.loop-p.invariant.2,
      laid_more (of_caps caps) p c.loop-p.spares c.loop-p.ends _ _ (omega (arith, c.loop-p.invariant.1, few (goal.at.loop-p-preserved c).Start)) (omega (arith, c.loop-p.invariant.2, few (goal.at.loop-p-preserved c).Start))
          (omega (arith, spare-caps caps p (omega arith), c.loop-p.invariant.0)) (omega (arith, base-caps caps p (omega arith), c.loop-p.invariant.0) ∙ ap (base (of_caps caps)) (add-one p)) c.loop-p.invariant.3,
    )

pub overflow_cast-result : goal.overflow_cast-result
overflow_cast-result c =
    let caps = c.args.caps.now in
    omega (arith, c.loop-p.invariant.0, base_mono (of_caps caps) c.loop-p.p (length (of_caps caps)) (omega (arith, length-caps caps)), slots-is (of_caps caps), slots_small caps c.requires)

pub returns : goal.returns
returns c =
    let caps = c.args.caps.now in
    let e : c.loop-p.p ≡ length caps = omega arith in
    let n : c.loop-p.p ≡ length (of_caps caps) = e ∙ sym (length-caps caps) in
    let f : c.loop-p.p ≤ 64 = omega (arith, few (goal.at.returns c).Start) in
    made-good (of_caps caps) _ _ _ _ (sym (length-caps caps)) (c.loop-p.invariant.0 ∙ ap (base (of_caps caps)) n ∙ sym (slots-is (of_caps caps)))
    (laid-spares (of_caps caps) _ _ c.loop-p.p n f c.loop-p.invariant.3 c.loop-p.invariant.1) (laid-ends (of_caps caps) _ _ c.loop-p.p n f c.loop-p.invariant.3 c.loop-p.invariant.2)
