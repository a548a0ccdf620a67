-- Some rack waits exactly where a card is away. Assumes nothing.
use mathlib.Core.Path.{◌≡◌, refl, sym, ap, ◌∙◌}
use mathlib.Core.Bool.{true, false}
use mathlib.Core.List.{List}
use Prim.Native.Nat.{ℕ, ◌-◌, ◌^◌, ◌<◌}
use native.Mathlib.Omega.{arith}
use native.Mathlib.Decide.{dec_lt}
use lib.ListN.{length}
use lib.Seq.{length-slice}
use borrow.Author.Tests.{lt-ltb, le-ltb}
use Rattle.counting.specs.Count.{count}
use Rattle.counting.proofs.Tests.{by-test, no_way}
use Rattle.counting.proofs.Count.{count-pos, count-zero}
use Rattle.counting.proofs.Select.{length-select}
use Rattle.counting.proofs.Some.{some-off}
use Rattle.racks.specs.Racks.{Rack, slots}
use Rattle.racks.specs.Table.{dest, rack_to, away, away_to}
use Rattle.racks.specs.Numbers.{some_away}
use Rattle.racks.specs.parts.Legal.{Legal}
use Rattle.racks.proofs.Geometry.{rack_lt}
use Rattle.racks.proofs.LegalTable.{legal-dest}
use Rattle.racks.proofs.Away.{away-held, to_is, to-away}
use Rattle.bits.specs.parts.Bits.{bit_on}
use Rattle.bits.proofs.Words.{bit-none}
use Rattle.bits.proofs.Trailing.{all-off}
use Rattle.queues.specs.parts.Queues.{Rows, part}
use Rattle.queues.specs.parts.Ready.{Ready}
use Rattle.moves.proofs.Phases.{some-away}

module _ {racks : List Rack} {places : List ℕ} {rows : Rows} (r : Ready racks places rows) where
  -- as many cards wait for rack p as are away to it
  waits-long : (p : ℕ) → p < length racks → rows.tails p - rows.heads p ≡ count (slots racks) (away_to racks places p)
  unfolding part
  waits-long p l =
      sym (length-slice (rows.heads p) (rows.tails p) rows.queue (omega (arith, (r.bounded.racks p (omega (arith, r.few))).within, r.bounded.queue_long)))
      ∙ ap length (r.waits p l) ∙ length-select (slots racks) (away_to racks places p)

  -- no rack waits: no card is away
  pub none-waits : Legal racks places → rows.waiting ≡ 0 → some_away racks places ≡ false
  unfolding rack_to
  none-waits v e = by-test (some_away racks places)
      (λ t.
      let (g, l, a) = some-away racks places t in
      let p : ℕ = rack_to racks places g in
      let h : p < length racks = rack_lt racks (dest places g) (legal-dest racks places v g l (away-held racks places g a)) in
      let m : p < 64 = omega (arith, r.few) in
      let c : 0 < count (slots racks) (away_to racks places p) = count-pos (slots racks) (away_to racks places p) g l (to_is racks places p g a refl) in
      let on : bit_on rows.waiting p ≡ true = r.bounded.exact p m ∙ lt-ltb (rows.heads p) (rows.tails p) (omega (arith, waits-long p h)) in
      absurd (no_way on (ap (λ (w : ℕ). bit_on w p) e ∙ bit-none p)))
      (λ t. t)

  -- some rack waits: a card is away
  pub some-waits : rows.waiting < 2 ^ 64 → (rows.waiting ≡ 0 → ⊥) → some_away racks places ≡ true
  unfolding some_away
  some-waits f n = by-test (some_away racks places) (λ t. t) (λ t. absurd (n (all-off 64 rows.waiting f (λ p m.
      r.bounded.exact p m ∙ le-ltb (rows.heads p) (rows.tails p) (elim (dec_lt p (length racks)) [
        | yes l ↦ omega (
          arith,
          waits-long p l,
          count-zero (slots racks) (away_to racks places p) (λ g h. by-test (away_to racks places p g)
              (λ a. absurd (no_way (to-away racks places p g a) (some-off (slots racks) (away racks places) t g h))) (λ a. a)),
        )
        | no l ↦ omega (arith, r.others p (omega arith) m)
      ])))))
