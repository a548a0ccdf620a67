-- Theorem 2: while a card is away a move is allowed, and the plan has a pair. Assumes nothing.
use mathlib.Core.Path.{◌≡◌, refl, sym}
use mathlib.Core.Bool.{Bool, true, false}
use mathlib.Core.List.{List, []}
use Prim.Native.Nat.{ℕ, ◌<◌}
use native.Mathlib.Omega.{arith}
use native.Mathlib.Decide.{ℕ_discrete}
use lib.ListN.{length}
use Rattle.counting.specs.Tests.{◌and◌}
use Rattle.counting.specs.Count.{some}
use Rattle.counting.specs.Lists.{Pair}
use Rattle.counting.proofs.Tests.{off, no_way, both, and_l, and_r, and-off_r}
use Rattle.counting.proofs.Count.{count_strict, pigeonhole, here, nowhere, find}
use Rattle.counting.proofs.Some.{some-hit, some-off, some-found}
use Rattle.counting.proofs.Every.{all_none}
use Rattle.racks.specs.Racks.{Rack, slots, rack_of, spare_of, is_user}
use Rattle.racks.specs.Table.{dest, free, rack_to, away, away_to, free_on}
use Rattle.racks.specs.Numbers.{some_away}
use Rattle.racks.proofs.Geometry.{rack_lt}
use Rattle.racks.specs.parts.Legal.{Legal, Spared}
use Rattle.racks.proofs.LegalTable.{legal-dest, spare_lt, spare-rack, spare-none}
use Rattle.racks.proofs.Away.{away-held, away-is, to-away, to-rack, to_is, on-is}
use Rattle.plans.specs.Plan.{plan}
use Rattle.plans.specs.Allowed.{Allowed}
use Rattle.plans.proofs.Plans.{serves-allowed, allowed_serves, plan-allowed, plan-meets}

module _ (racks : List Rack) (places : List ℕ) where
  -- slot k is on a rack that awaits a card
  awaits : ℕ → Bool
  awaits k = some (slots racks) (away_to racks places (rack_of racks k))

  -- and is a user slot
  awaits_user : ℕ → Bool
  awaits_user k = awaits k and is_user racks k

  -- the card in slot g is away, and its rack has a free slot
  ready : ℕ → Bool
  ready g = away racks places g and some (slots racks) (free_on racks places (rack_to racks places g))

  -- where slot t would take it, it is
  ready-is : (g t : ℕ) → t < slots racks → away racks places g ≡ true → free places t ≡ true → rack_of racks t ≡ rack_to racks places g → ready g ≡ true
  unfolding ready
  ready-is g t l a f e =
      let p : ℕ = rack_to racks places g in
      both a (some-hit (slots racks) (free_on racks places p) t l (on-is racks places p t f e))

  -- the rack of an away card's destination awaits a card
  dest-awaits : (g : ℕ) → g < slots racks → away racks places g ≡ true → awaits (dest places g) ≡ true
  unfolding awaits rack_to
  dest-awaits g l a =
      let p : ℕ = rack_to racks places g in
      some-hit (slots racks) (away_to racks places p) g l (to_is racks places p g a refl)

  -- no card is ready
  module _ (v : Legal racks places) (s : Spared racks) (stuck : (g : ℕ) → g < slots racks → ready g ≡ false) where
    -- then a slot of a rack that awaits a card is not free
    full : (k : ℕ) → k < slots racks → awaits k ≡ true → free places k ≡ false
    unfolding awaits
    full k l w =
        let p : ℕ = rack_of racks k in
        let (g, m, a) = some-found (slots racks) (away_to racks places p) w in
        off (λ f. no_way (ready-is g k l (to-away racks places p g a) f (sym (to-rack racks places p g a))) (stuck g m))

    -- and its card must end on such a rack
    onward : (k : ℕ) → k < slots racks → awaits k ≡ true → awaits (dest places k) ≡ true
    unfolding awaits rack_to
    onward k l w = elim (ℕ_discrete (rack_of racks k) (rack_to racks places k)) [
      | yes e ↦ rw (← e) w
      | no d ↦ dest-awaits k l (away-is racks places k (full k l w) d)
    ]

    -- the cards of such racks have as many user slots of such racks for destinations; but a spare is a slot and no user slot
    none-away : (g : ℕ) → g < slots racks → away racks places g ≡ true → ⊥
    unfolding awaits awaits_user
    none-away g l a =
        let p : ℕ = rack_of racks (dest places g) in
        let few : p < length racks = rack_lt racks (dest places g) (legal-dest racks places v g l (away-held racks places g a)) in
        let less = count_strict (slots racks) awaits_user awaits (spare_of racks p) (spare_lt racks s p few)
        (and-off_r _ (spare-none racks s p few)) (rw (spare-rack racks s p few) (dest-awaits g l a)) (λ j _ h. and_l _ h) in
        let more = pigeonhole (slots racks) (slots racks) awaits awaits_user (dest places)
        (λ k m h. legal-dest racks places v k m (full k m h))
        (λ k m h. both (onward k m h) (v.named k m (full k m h)))
        (λ j k m m' h h'. v.once j k m m' (full j m h)) in
        omega arith

  -- theorem 2: a legal table, a spare on each rack, and a card that is away
  module _ (v : Legal racks places) (s : Spared racks) (g : ℕ) (l : g < slots racks) (a : away racks places g ≡ true) where
    -- while a card is away, a move is allowed
    pub possible : (m : Pair) × Allowed racks places m
    unfolding ready
    possible = elim (find (slots racks) ready) [
      | here k m p ↦
          let q : ℕ = rack_to racks places k in
          let (t, n, f) = some-found (slots racks) (free_on racks places q) (and_r _ p) in
          ((k, t), serves-allowed racks places q (k, t) ((m, to_is racks places q k (and_l _ p) refl), (n, f)))
      | nowhere h ↦ absurd (none-away v s h g l a)
    ]

    -- and the plan has a pair
    pub plan-some : 0 < length (plan racks places)
    plan-some = let (m, o) = possible in plan-meets racks places (rack_to racks places m.0) m (allowed_serves racks places m o)

  -- where nothing is away the plan has no pair
  pub plan-none : some_away racks places ≡ false → plan racks places ≡ []
  unfolding some_away
  plan-none h = all_none (λ m o. no_way o.is-away (some-off (slots racks) (away racks places) h m.0 o.from_lt)) (plan-allowed racks places)
