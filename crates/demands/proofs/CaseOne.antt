-- Case 1 of the rules for the calls that `specs/Paper` does not name, and the smallest job, by computation. Assumes nothing.
use mathlib.Core.Path.{◌≡◌, refl}
use mathlib.Core.Bool.{true}
use mathlib.Core.List.{List, [], ◌∷◌}
use Prim.Native.Nat.{ℕ}
use Rattle.racks.specs.Limits.{FREE}
use Rattle.answers.specs.Answers.{placeless, answer, no_counts, Listed}
use Rattle.moves.specs.Moves.{Held, Outcome, moved_places, moved_cards, carried_places, carried_cards}
use Rattle.counting.specs.Tests.{◌and◌, ◌or◌}
use Rattle.counting.specs.Count.{sum, count, some, select, seek}
use Rattle.counting.specs.Lists.{tabulate, join, each, pair_up, flat, matching, among, last}
use Rattle.counting.specs.Checks.{first}
use Rattle.racks.specs.Racks.{of_caps, rack_at, users, width, total, base, slots, ends_by, rack_of, spare_of, is_user}
use Rattle.racks.specs.Table.{free, settled, rack_to, on_rack, away, aways, away_to, bound, owes, free_on, names}
use Rattle.racks.specs.Numbers.{bad_count, bad_bytes, too_large, bad_size, bad_places, bad_cards, bad_entry, bad_entries, repeats, bad_twice, some_away, too_short, table_checks, card_checks, rack_checks, places_checks}
use Rattle.plans.specs.Plan.{other, sources, lowest, granted, open_slots, room, arrivals, plan_for, plan, plan_checks, planned}
use Rattle.moves.specs.Blocks.{block, put_block, blank}
use Rattle.moves.specs.Phases.{phases_from, phases, budget, budgeted}
use Rattle.factors.specs.Copies.{source, following, onward, back, on_cycle, head, factor, factors_from, factors, shift, cycle, copies, copy_list}
use Rattle.shuffle.specs.Shuffle.{taken, laid, run_copies, brought, is_named, last_entry, last_card, settled_held, copy_made}
use Rattle.runs.specs.Run.{gathered, has_pairs, counts, ran}
use Rattle.demands.specs.Paper.{caps1, held1}

-- case 10: one rack of no user slots, and its spare is free
abbrev pub caps10 : List ℕ
caps10 = 0 ∷ []

abbrev pub held10 : Held
held10 = record { places = FREE ∷ []; cards = 0x00 ∷ [] }

-- case 1 after a whole run
abbrev pub after1 : Outcome
after1 =
    record {
      answer = answer (placeless 0) (record { phases = 2; moves = 5; copies = 5 });
      held =
          record {
            places = 0 ∷ 1 ∷ FREE ∷ 3 ∷ 4 ∷ FREE ∷ 6 ∷ FREE ∷ [];
            cards = 0x43 ∷ 0x45 ∷ 0x00 ∷ 0x41 ∷ 0x42 ∷ 0x00 ∷ 0x44 ∷ 0x00 ∷ [];
          };
    }

-- case 10 after any call: nothing to do
abbrev pub after10 : Outcome
after10 = record { answer = answer (placeless 0) no_counts; held = held10 }

-- no racks
abbrev pub refused10 : Outcome
refused10 = record { answer = answer (placeless 1) no_counts; held = held10 }

-- the plan of case 1, written into a list of six numbers
abbrev pub planned1 : Listed
planned1 = record { answer = answer (placeless 0) (record { phases = 0; moves = 3; copies = 0 }); lent = 3 ∷ 2 ∷ 0 ∷ 5 ∷ 4 ∷ 7 ∷ [] }

-- what the calls give for them
pub record Cases : Type 0 where
  pub ran1 : ran (of_caps caps1) 1 held1 ≡ after1
  pub phases1 : phases (of_caps caps1) held1.places ≡ ((3, 2) ∷ (0, 5) ∷ (4, 7) ∷ []) ∷ ((6, 0) ∷ (1, 3) ∷ []) ∷ []
  pub plan-is : planned (of_caps caps1) held1.places (9 ∷ 9 ∷ 9 ∷ 9 ∷ 9 ∷ 9 ∷ []) ≡ planned1
  pub away1 : some_away (of_caps caps1) held1.places ≡ true
  pub aways1 : aways (of_caps caps1) held1.places ≡ 5
  pub ran10 : ran (of_caps caps10) 1 held10 ≡ after10
  pub budgeted10 : budgeted (of_caps caps10) 1 held10 4 ≡ after10
  pub ran-none : ran (of_caps []) 1 held10 ≡ refused10
  pub budgeted-none : budgeted (of_caps []) 1 held10 4 ≡ refused10

pub cases : Cases
unfolding ◌and◌ ◌or◌ sum count some select seek tabulate join each pair_up flat matching among last first of_caps rack_at users width total base slots ends_by rack_of spare_of is_user free settled rack_to on_rack away aways away_to bound owes free_on names bad_count bad_bytes too_large bad_size bad_places bad_cards bad_entry bad_entries repeats bad_twice some_away too_short table_checks places_checks rack_checks card_checks other sources lowest granted open_slots room arrivals plan_for plan plan_checks planned block put_block blank moved_places moved_cards carried_places carried_cards phases_from phases budget budgeted source following onward back on_cycle head factor factors_from factors shift cycle copies copy_list taken laid copy_made run_copies brought is_named last_entry last_card settled_held gathered has_pairs counts ran
cases = record { ran1 = refl; phases1 = refl; plan-is = refl; away1 = refl; aways1 = refl; ran10 = refl; budgeted10 = refl; ran-none = refl; budgeted-none = refl }
