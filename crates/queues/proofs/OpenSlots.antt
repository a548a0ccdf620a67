-- The slots of the set within a rack are the rack's free slots. Assumes nothing.
use mathlib.Core.Path.{◌≡◌, sym, ap, ◌∙◌}
use mathlib.Core.Bool.{true, false}
use mathlib.Core.List.{List, ◌++◌}
use Prim.Native.Nat.{ℕ, suc, ◌≤◌, ◌<◌}
use native.Mathlib.Omega.{arith}
use native.Mathlib.Decide.{dec_le}
use lib.ListN.{length, length-append}
use Rattle.counting.specs.Count.{count, select}
use Rattle.counting.proofs.Tests.{off}
use Rattle.counting.proofs.Select.{select_cong, select_short, length-select}
use Rattle.racks.specs.Racks.{Rack, base, slots}
use Rattle.racks.specs.Table.{free, free_on}
use Rattle.racks.proofs.Geometry.{base_mono, end_le, rack-is, rack_in}
use Rattle.racks.proofs.Away.{on-rack, free_on_lem}
use Rattle.plans.specs.Plan.{open_slots, room}
use Rattle.plans.proofs.Grants.{length_open}
use Rattle.queues.specs.parts.Queues.{open_from, opens}
use Rattle.queues.specs.parts.Openings.{Shown}
use Rattle.queues.proofs.Opens.{open-below, open_above, open-split}

module _ (racks : List Rack) (places : List ℕ) (p : ℕ) (l : p < length racks) where
  -- a free slot of p lies within p
  on_in : (g : ℕ) → g < slots racks → free_on racks places p g ≡ true → (base racks p ≤ g) × (g < base racks (suc p))
  on_in g m f = rack_in racks p g m (on-rack racks places p g f)

  -- the free slots of p end where p ends
  open-short : open_slots racks places p ≡ select (base racks (suc p)) (free_on racks places p)
  unfolding open_slots
  open-short = select_short (base racks (suc p)) (slots racks) (free_on racks places p) (end_le racks p l)
      (λ k m m'. off (λ f. let b = on_in k m' f in omega arith))

  -- no slot before p's first is one of them
  pub on-off : (g : ℕ) → g < base racks p → free_on racks places p g ≡ false
  on-off g m = off (λ f. let b = on_in g (omega (arith, base_mono racks p (suc p) (omega arith), end_le racks p l)) f in omega arith)

  -- nor is any behind its end
  pub rooms-short : room racks places p ≡ count (base racks (suc p)) (free_on racks places p)
  unfolding open_slots room
  rooms-short = sym (length-select (slots racks) (free_on racks places p)) ∙ ap length open-short ∙ length-select (base racks (suc p)) (free_on racks places p)

  -- in p's slots, free on p is free
  pub on-here : (g : ℕ) → base racks p ≤ g → g < base racks (suc p) → free_on racks places p g ≡ free places g
  on-here g m m' = free_on_lem racks places p g (rack-is racks p g l m m')

  -- the slots of the set from p's first slot up to its end
  pub opens-are : (bits : List ℕ) → Shown (slots racks) places bits → opens bits (base racks p) (base racks (suc p)) ≡ open_slots racks places p
  unfolding opens
  opens-are bits s = select_cong (base racks (suc p)) (open_from bits (base racks p)) (free_on racks places p) same ∙ sym open-short
    where
      same : (k : ℕ) → k < base racks (suc p) → open_from bits (base racks p) k ≡ free_on racks places p k
      same k m =
          let i : k < slots racks = omega (arith, end_le racks p l) in
          elim (dec_le (base racks p) k) [
            | yes a ↦ open_above bits (base racks p) k a ∙ s k i ∙ sym (on-here k a m)
            | no a ↦ open-below bits (base racks p) k (omega arith) ∙ sym (on-off k (omega arith))
          ]

  module _ (small : slots racks ≤ 4096) (bits : List ℕ) (s : Shown (slots racks) places bits) where
    -- of the set from p's first slot on, they are the first
    pub opens-front : opens bits (base racks p) 4096 ≡ open_slots racks places p ++ opens bits (base racks (suc p)) 4096
    opens-front =
        open-split bits (base racks p) (base racks (suc p)) 4096 (base_mono racks p (suc p) (omega arith)) (omega (arith, end_le racks p l))
        ∙ ap (λ (o : List ℕ). o ++ opens bits (base racks (suc p)) 4096) (opens-are bits s)

    -- so the set has as many from there on
    pub opens-roomy : room racks places p ≤ length (opens bits (base racks p) 4096)
    opens-roomy = omega (arith, ap length opens-front, length-append (open_slots racks places p) (opens bits (base racks (suc p)) 4096), length_open racks places p)
