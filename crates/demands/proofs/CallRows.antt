-- The checks of each call give their number by the call's rows. Assumes nothing.
use mathlib.Core.List.{List, [], ◌++◌}
use Prim.Native.Nat.{ℕ}
use native.Mathlib.Omega.{arith}
use Rattle.counting.specs.Checks.{Check, first}
use Rattle.racks.specs.Racks.{Rack}
use Rattle.racks.specs.Numbers.{table_checks, card_checks, rack_checks, places_checks}
use Rattle.moves.specs.Moves.{end_checks}
use Rattle.demands.specs.Rows.{Row, Given}
use Rattle.demands.specs.Conditions.{table_rows, card_rows, end_rows}
use Rattle.demands.proofs.Rows.{given-none, given_row}
use Rattle.demands.proofs.Says.{says_or, says-1, says-2, says-3, says-4, says-4-cards, says-5, says-6, says-7, says-8, says-9, says-10, says-11}

module _ (racks : List Rack) (places : List ℕ) where
  -- a table's checks, and more behind them
  module _ (ds : List Check) (more : List Row) (g : Given (first ds) more) where
    pub given-table : Given (first (table_checks racks places ++ ds)) (table_rows racks places ++ more)
    unfolding table_checks places_checks rack_checks
    given-table =
        given_row _ (λ e. omega arith) (says-1 _)
        (given_row _ (λ e. omega arith) (says-3 racks)
        (given_row _ (λ e. omega arith) (says-4 racks places)
        (given_row _ (λ e. omega arith) (says-5 racks places)
        (given_row _ (λ e. omega arith) (says-6 places) g))))

    -- the same with cards
    pub given-cards : (b : ℕ) (cards : List ℕ) → Given (first (card_checks racks b places cards ++ ds)) (card_rows racks b places cards ++ more)
    unfolding card_checks
    given-cards b cards =
        given_row _ (λ e. omega arith) (says-1 _)
        (given_row _ (λ e. omega arith) (says-2 b)
        (given_row _ (λ e. omega arith) (says-3 racks)
        (given_row _ (λ e. omega arith) (says_or (says-4 racks places) (says-4-cards racks places b cards))
        (given_row _ (λ e. omega arith) (says-5 racks places)
        (given_row _ (λ e. omega arith) (says-6 places) g)))))

  -- a table's checks alone, and with cards
  pub given-table-only : Given (first (table_checks racks places)) (table_rows racks places)
  unfolding table_checks places_checks rack_checks
  given-table-only = given-table [] [] given-none

  pub given-cards-only : (b : ℕ) (cards : List ℕ) → Given (first (card_checks racks b places cards)) (card_rows racks b places cards)
  unfolding card_checks
  given-cards-only b cards = given-cards [] [] given-none b cards

  -- a move's two ends
  pub given-ends : (from to : ℕ) → Given (first (end_checks racks places (from, to))) (end_rows racks places from to)
  unfolding end_checks
  given-ends from to =
      given_row _ (λ e. omega arith) (says_or (says-7 racks from) (says-7 racks to))
      (given_row _ (λ e. omega arith) (says-8 places from)
      (given_row _ (λ e. omega arith) (says-9 racks places from)
      (given_row _ (λ e. omega arith) (says-10 racks places from to)
      (given_row _ (λ e. omega arith) (says-11 places to) given-none))))
