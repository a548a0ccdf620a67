use Rattle.shuffler.proofs.Settling.{listed-low, all_settled}
use mathlib.Core.Path.{sym, ap, ◌∙◌}
use Prim.Native.Nat.{ℕ, ◌*◌}
use native.Mathlib.Omega.{arith}
use Rattle.shuffler.proofs.parts.settle_slots.Goals as goal

pub zero_slots-requires : goal.zero_slots-requires
zero_slots-requires c =
    let t = c.settle_table-n.ensures in
    (listed-low _ _ _ t, omega (arith, t.listed.few, t.listed.long, c.requires.0.small), c.requires.2 ∙ ap (λ (m : ℕ). m * c.args.b) (sym t.size))

pub returns : goal.returns
returns c =
    all_settled c.args.b c.args.cards.now c.requires.0 c.requires.2 _ _ _ _ c.settle_table-n.ensures c.zero_slots.ensures
