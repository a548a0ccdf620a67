-- A rack's queue fits its stretch: the cards away to a rack are no more than its user slots. Assumes nothing.
use mathlib.Core.Path.{◌≡◌, refl, sym, ◌∙◌}
use mathlib.Core.Bool.{true, false}
use mathlib.Core.List.{List}
use Prim.Native.Nat.{ℕ, suc, ◌+◌, ◌-◌, ◌≤◌, ◌<◌}
use native.Mathlib.Omega.{arith}
use borrow.Author.Tests.{ltb-true}
use Rattle.counting.specs.Count.{count}
use Rattle.counting.proofs.Count.{pigeonhole, count-all, count_none, count-on, count-off}
use Rattle.racks.specs.Racks.{Rack, users, base, slots, rack_of, spare_of}
use Rattle.racks.specs.Table.{dest, free, rack_to, away_to}
use Rattle.racks.proofs.Geometry.{base_mono, rack_in, spare-is, spare-end, user-is}
use Rattle.racks.specs.parts.Legal.{Legal}
use Rattle.racks.proofs.LegalTable.{legal-dest}
use Rattle.racks.proofs.Away.{away-held, to-away, to-rack}
use Rattle.queues.specs.parts.Queued.{begins}

-- a queue behind another begins behind its end
pub begins_mono : (racks : List Rack) (p q : ℕ) → p < q → begins racks (suc p) ≤ begins racks q
unfolding begins
begins_mono racks p q l = omega (arith, base_mono racks (suc p) q l)

-- where the queue of rack p ends after the first g slots
unfoldable pub tail_at : List Rack → List ℕ → ℕ → ℕ → ℕ
tail_at racks places g p = begins racks p + count g (away_to racks places p)

module _ (racks : List Rack) (places : List ℕ) (p : ℕ) where
  -- at first it ends where it begins
  pub tail_none : tail_at racks places 0 p ≡ begins racks p
  unfolding tail_at
  tail_none = omega (arith, count_none (away_to racks places p))

  -- a queue begins before it ends
  pub tail-up : (g : ℕ) → begins racks p ≤ tail_at racks places g p
  unfolding tail_at
  tail-up g = omega arith

  -- a card away to p makes it one longer
  pub tail-on : (g : ℕ) → away_to racks places p g ≡ true → tail_at racks places (g + 1) p ≡ tail_at racks places g p + 1
  unfolding tail_at
  tail-on g a = omega (arith, count-on g (away_to racks places p) a)

  -- any other slot leaves it
  pub tail-off : (g : ℕ) → away_to racks places p g ≡ false → tail_at racks places (g + 1) p ≡ tail_at racks places g p
  unfolding tail_at
  tail-off g a = omega (arith, count-off g (away_to racks places p) a)

  module _ (v : Legal racks places) where
    -- a card that is away to p
    module _ (g : ℕ) (l : g < slots racks) (a : away_to racks places p g ≡ true) where
      -- stands in a slot that is not free
      to_held : free places g ≡ false
      to_held = away-held racks places g (to-away racks places p g a)

      -- must end on p
      to-dest : rack_of racks (dest places g) ≡ p
      unfolding rack_to
      to-dest = to-rack racks places p g a

      -- in a user slot of p
      to-user : (base racks p ≤ dest places g) × (dest places g < spare_of racks p)
      to-user =
          let d : ℕ = dest places g in
          let m : d < slots racks = legal-dest racks places v g l to_held in
          let u : d < spare_of racks (rack_of racks d) = ltb-true _ _ (sym (user-is racks d m) ∙ v.named g l to_held) in
          ((rack_in racks p d m to-dest).0, rw to-dest at u)

    -- the cards away to p in the first g slots are no more than p's user slots, since no two have one destination
    pub queue-fits : (g : ℕ) → g ≤ slots racks → count g (away_to racks places p) ≤ users racks p
    queue-fits g m =
        omega (
          arith,
          count-all (users racks p),
          pigeonhole g (users racks p) (away_to racks places p) (λ _. true) (λ k. dest places k - base racks p)
              (λ k l a. let u = to-user k (omega arith) a in omega (arith, spare-is racks p))
              (λ k l a. refl)
              (λ j k l l' a a' e.
              let u = to-user j (omega arith) a in
              let w = to-user k (omega arith) a' in
              v.once j k (omega arith) (omega arith) (to_held j (omega arith) a) (omega arith)),
        )

    -- so p's queue ends within its places, one of which is left
    pub tail-room : (g : ℕ) → g ≤ slots racks → tail_at racks places g p < begins racks (suc p)
    unfolding tail_at begins
    tail-room g m = omega (arith, queue-fits g m, spare-is racks p, spare-end racks p)
