-- The numbers 7 to 11 of a move, by the tests that the code makes; and the allowed moves are those that get none. Assumes nothing.
use mathlib.Core.Path.{◌≡◌, refl, ap, sym, ◌∙◌}
use mathlib.Core.Bool.{false, not}
use mathlib.Core.List.{List, [], ◌∷◌}
use Prim.Native.Nat.{ℕ, ◌≤◌, ◌<◌}
use native.Mathlib.Omega.{arith}
use borrow.Author.Tests.{eq-eqb, ne_eqb, eqb-true, le-leb, lt-leb, leb-false}
use Rattle.counting.specs.Tests.{◌or◌}
use Rattle.counting.specs.Lists.{Pair}
use Rattle.counting.specs.Checks.{first}
use Rattle.counting.proofs.Tests.{or_l, or_r, or-none, or-off_l, or-off_r, no_way, not-off, not-off-is}
use Rattle.counting.proofs.Checks.{first-here, first-later, first-none, first_off, first_of, first-end}
use Rattle.racks.specs.Limits.{FREE}
use Rattle.racks.specs.Racks.{Rack, slots, rack_of}
use Rattle.racks.specs.Table.{dest, free, rack_to, on_rack}
use Rattle.racks.specs.Numbers.{no_slot, source_free, source_home, elsewhere, target_taken}
use Rattle.racks.proofs.Places.{NoPlace}
use Rattle.racks.proofs.Away.{away-held, away-off, away-is}
use Rattle.plans.specs.Allowed.{Allowed}
use Rattle.moves.specs.Moves.{end_checks}

module _ (racks : List Rack) (places : List ℕ) (m : Pair) where
  -- none of them has a place
  pub ends-placeless : NoPlace (first (end_checks racks places m))
  unfolding end_checks
  ends-placeless =
      first_of NoPlace _ 7 _ (λ _. (refl, refl)) (first_of NoPlace _ 8 _ (λ _. (refl, refl)) (first_of NoPlace _ 9 _ (λ _. (refl, refl))
      (first_of NoPlace _ 10 _ (λ _. (refl, refl)) (first_of NoPlace _ 11 [] (λ _. (refl, refl)) (first-end NoPlace (refl, refl))))))

  pub ends-7-from : slots racks ≤ m.0 → 7 ≡ first (end_checks racks places m)
  unfolding end_checks no_slot
  ends-7-from h = sym (first-here _ 7 _ (or_l _ (le-leb (slots racks) m.0 h)))

  pub ends-7-to : slots racks ≤ m.1 → 7 ≡ first (end_checks racks places m)
  unfolding end_checks no_slot
  ends-7-to h = sym (first-here _ 7 _ (or_r (no_slot racks m.0) (le-leb (slots racks) m.1 h)))

  module _ (lf : m.0 < slots racks) (lt : m.1 < slots racks) where
    past-7 : (no_slot racks m.0 or no_slot racks m.1) ≡ false
    unfolding no_slot
    past-7 = or-none (lt-leb (slots racks) m.0 lf) (lt-leb (slots racks) m.1 lt)

    pub ends-8 : dest places m.0 ≡ FREE → 8 ≡ first (end_checks racks places m)
    unfolding end_checks source_free free
    ends-8 e = sym (first-later _ 7 _ past-7 ∙ first-here _ 8 _ (eq-eqb (dest places m.0) FREE e))

    module _ (held : dest places m.0 ≡ FREE → ⊥) where
      past-8 : source_free places m.0 ≡ false
      unfolding source_free free
      past-8 = ne_eqb (dest places m.0) FREE held

      pub ends-9 : rack_of racks m.0 ≡ rack_to racks places m.0 → 9 ≡ first (end_checks racks places m)
      unfolding end_checks source_home on_rack
      ends-9 e = sym (first-later _ 7 _ past-7 ∙ first-later _ 8 _ past-8 ∙ first-here _ 9 _ (eq-eqb (rack_of racks m.0) (rack_to racks places m.0) e))

      module _ (gone : rack_of racks m.0 ≡ rack_to racks places m.0 → ⊥) where
        past-9 : source_home racks places m.0 ≡ false
        unfolding source_home on_rack
        past-9 = ne_eqb (rack_of racks m.0) (rack_to racks places m.0) gone

        pub ends-10 : (rack_of racks m.1 ≡ rack_to racks places m.0 → ⊥) → 10 ≡ first (end_checks racks places m)
        unfolding end_checks elsewhere
        ends-10 f =
            sym (first-later _ 7 _ past-7 ∙ first-later _ 8 _ past-8 ∙ first-later _ 9 _ past-9 ∙ first-here _ 10 _ (not-off (ne_eqb (rack_of racks m.1) (rack_to racks places m.0) f)))

        module _ (meets : rack_of racks m.1 ≡ rack_to racks places m.0) where
          past-10 : elsewhere racks places m.0 m.1 ≡ false
          unfolding elsewhere
          past-10 = ap not (eq-eqb (rack_of racks m.1) (rack_to racks places m.0) meets)

          past_all : first (end_checks racks places m) ≡ first ((target_taken places m.1, 11) ∷ [])
          unfolding end_checks
          past_all = first-later _ 7 _ past-7 ∙ first-later _ 8 _ past-8 ∙ first-later _ 9 _ past-9 ∙ first-later _ 10 _ past-10

          pub ends-11 : (dest places m.1 ≡ FREE → ⊥) → 11 ≡ first (end_checks racks places m)
          unfolding target_taken free
          ends-11 f = sym (past_all ∙ first-here _ 11 _ (not-off (ne_eqb (dest places m.1) FREE f)))

          pub ends-0 : dest places m.1 ≡ FREE → 0 ≡ first (end_checks racks places m)
          unfolding target_taken free
          ends-0 e = sym (past_all ∙ first-later _ 11 _ (ap not (eq-eqb (dest places m.1) FREE e)) ∙ first-none)

  -- an allowed move gets none of them
  pub allowed-ends : Allowed racks places m → first (end_checks racks places m) ≡ 0
  unfolding free
  allowed-ends a =
      sym (ends-0 a.from_lt a.to_lt (λ e. no_way (eq-eqb (dest places m.0) FREE e) (away-held racks places m.0 a.is-away))
      (away-off racks places m.0 a.is-away) a.meets (eqb-true _ _ a.is_free))

  -- and what gets none of them is an allowed move
  pub ends-allowed : first (end_checks racks places m) ≡ 0 → Allowed racks places m
  unfolding end_checks no_slot source_free source_home on_rack elsewhere target_taken
  ends-allowed z =
      let a = first_off (no_slot racks m.0 or no_slot racks m.1) 7 _ (λ e. omega arith) z in
      let b = first_off (free places m.0) 8 _ (λ e. omega arith) a.1 in
      let c = first_off (on_rack racks places m.0) 9 _ (λ e. omega arith) b.1 in
      let d = first_off (elsewhere racks places m.0 m.1) 10 _ (λ e. omega arith) c.1 in
      let f = first_off (not (free places m.1)) 11 _ (λ e. omega arith) d.1 in
      record {
        from_lt = leb-false _ _ (or-off_l _ a.0);
        to_lt = leb-false _ _ (or-off_r (no_slot racks m.0) a.0);
        is-away = away-is racks places m.0 b.0 (λ e. no_way (eq-eqb _ _ e) c.0);
        is_free = not-off-is f.0;
        meets = eqb-true _ _ (not-off-is d.0);
      }
