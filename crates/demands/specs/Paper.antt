-- The [P] cases of the rules' "Paper cards for the table": one table, one theorem, by computation. Assumes nothing.
use Rattle.std.specs.Prelude.{◌≡◌, refl, List, [], ◌∷◌, ◌++◌, ℕ}
use Rattle.counting.specs.Lists.{Pair}
use Rattle.racks.specs.Limits.{FREE, HAND}
use Rattle.racks.specs.Racks.{Rack}
use Rattle.answers.specs.Answers.{placeless, answer, no_counts}
use Rattle.moves.specs.Moves.{Held, moved_places, moved_cards, carried_places, carried_cards, end_checks, move_checks, moved}
use Rattle.texts.specs.Text.{text}
use Rattle.counting.specs.Tests.{◌and◌, ◌or◌}
use Rattle.counting.specs.Count.{sum, count, some, select, seek, least}
use Rattle.counting.specs.Lists.{tabulate, join, each, pair_up, flat, matching, among, last}
use Rattle.counting.specs.Checks.{first}
use Rattle.racks.specs.Racks.{of_caps, rack_at, users, width, total, base, slots, ends_by, rack_of, spare_of, is_user}
use Rattle.racks.specs.Table.{free, settled, rack_to, on_rack, away, aways, away_to, bound, owes, free_on, names}
use Rattle.racks.specs.Numbers.{bad_count, bad_bytes, too_large, bad_size, bad_places, bad_cards, bad_entry, bad_entries, repeats, bad_twice, no_slot, source_free, source_home, elsewhere, target_taken, some_away, too_short, table_checks, card_checks, rack_checks, places_checks}
use Rattle.tables.specs.Check.{checked}
use Rattle.plans.specs.Plan.{other, sources, lowest, granted, open_slots, room, arrivals, plan_for, plan}
use Rattle.moves.specs.Blocks.{block, put_block, blank}
use Rattle.moves.specs.Phases.{phases_from, phases, budget, budgeted}
use Rattle.factors.specs.Copies.{source, following, onward, back, on_cycle, head, factor, factors_from, factors, shift, cycle, copies, copy_list}
use Rattle.shuffle.specs.Shuffle.{taken, laid, run_copies, brought, is_named, last_entry, last_card, settled_held, copy_made}
use Rattle.runs.specs.Run.{gathered, has_pairs, counts}
use Rattle.numerals.specs.Numeral.{groups, numeral, numerals, last_group}
use Rattle.parsing.specs.File.{wrong_n, wrong_b, wrong_m, wrong_entry, entry_of, read_n, read_b, read_m, file_racks, read_entries, file_bytes, file_places, file_cards, file_checks}
use Rattle.texts.specs.Text.{digit, digits, decimal, hex}
use Rattle.texts.specs.Lines.{slot_text, arrow, phase_line, phase_lines, copies_line, card_text, cards_line, end_line, refused_line}
use Rattle.runtexts.specs.RunText.{run_text}
use Rattle.listing.specs.Listing.{program_checks, file_held, listing}

-- case 1: the capacities, the racks, the table and the cards, and all of it as a file
abbrev pub caps1 : List ℕ
caps1 = 2 ∷ 2 ∷ 1 ∷ []

abbrev racks1 : List Rack
racks1 = of_caps caps1

abbrev pub held1 : Held
held1 =
    record {
      places = 3 ∷ 4 ∷ FREE ∷ 0 ∷ 6 ∷ FREE ∷ 1 ∷ FREE ∷ [];
      cards = 0x41 ∷ 0x42 ∷ 0x00 ∷ 0x43 ∷ 0x44 ∷ 0x00 ∷ 0x45 ∷ 0x00 ∷ [];
    }

abbrev pub file1 : List ℕ
file1 =
    0x03 ∷ 0x01 ∷ 0x02 ∷ 0x02 ∷ 0x01 ∷ 0x04 ∷ 0x05 ∷ 0x00 ∷ 0x01 ∷ 0x07 ∷ 0x00 ∷ 0x02 ∷ 0x00
    ∷ 0x41 ∷ 0x42 ∷ 0x00 ∷ 0x43 ∷ 0x44 ∷ 0x00 ∷ 0x45 ∷ 0x00 ∷ []

-- case 3
abbrev racks3 : List Rack
racks3 = of_caps (2 ∷ [])

-- cases 4 and 5, with cards of one byte
abbrev racks4 : List Rack
racks4 = of_caps (1 ∷ 1 ∷ [])

abbrev held4 : Held
held4 = record { places = 2 ∷ FREE ∷ 0 ∷ FREE ∷ []; cards = 0x41 ∷ 0x00 ∷ 0x42 ∷ 0x00 ∷ [] }

abbrev held5 : Held
held5 = record { places = 2 ∷ 0 ∷ FREE ∷ FREE ∷ []; cards = 0x41 ∷ 0x42 ∷ 0x00 ∷ 0x00 ∷ [] }

-- a single move is refused with n, and nothing changes
abbrev refuses : List Rack → Held → Pair → ℕ → Type 0
refuses racks h m n = moved racks 1 h m ≡ record { answer = answer (placeless n) no_counts; held = h }

-- the table check gives n with the place p
abbrev checks : List Rack → List ℕ → ℕ → ℕ → Type 0
checks racks places n p = checked racks places ≡ answer (record { number = n; place = p }) no_counts

-- a numeral read, and a file refused
abbrev reads : List ℕ → ℕ → ℕ → Type 0
reads file value next = numeral file 0 ≡ record { number = 0; value = value; next = next }

abbrev refuses_numeral : List ℕ → ℕ → Type 0
refuses_numeral file n = numeral file 0 ≡ record { number = n; value = 0; next = 0 }

-- a job has these phases and, when they are carried, this copy list
abbrev runs : List Rack → List ℕ → List (List Pair) → List Pair → Type 0
runs racks places plans list = (phases racks places ≡ plans) × (copy_list (carried_places (join plans) places) ≡ list)

pub record Paper : Type 0 where
  -- 1: the 21 bytes, and exactly what shelve prints
  pub shelve : listing file1
      ≡ text "phase 1: 3>2 0>5 4>7\n"
      ++ text "phase 2: 6>0 1>3\n"
      ++ text "copies: 0>1 2>0 3>4 5>3 7>6\n"
      ++ text "cards: 43 45 00 41 42 00 44 00\n"
      ++ text "end: phases 2 moves 5 copies 5\n"
  -- 2: k = 4, and slot 1 alone is away; k = 0; k = 9
  pub budget4 : budgeted racks1 1 held1 4
      ≡ record {
        answer = answer (placeless 0) (record { phases = 0; moves = 4; copies = 0 });
        held =
            record {
              places = 1 ∷ 4 ∷ 0 ∷ FREE ∷ FREE ∷ 3 ∷ FREE ∷ 6 ∷ [];
              cards = 0x45 ∷ 0x42 ∷ 0x43 ∷ 0x00 ∷ 0x00 ∷ 0x41 ∷ 0x00 ∷ 0x44 ∷ [];
            };
      }
  pub one_left : select (slots racks1) (away racks1 (budgeted racks1 1 held1 4).held.places) ≡ 1 ∷ []
  pub budget0 : budgeted racks1 1 held1 0 ≡ record { answer = answer (placeless 0) no_counts; held = held1 }
  pub budget9 : budgeted racks1 1 held1 9
      ≡ record {
        answer = answer (placeless 0) (record { phases = 0; moves = 5; copies = 0 });
        held =
            record {
              places = 1 ∷ FREE ∷ 0 ∷ 4 ∷ FREE ∷ 3 ∷ FREE ∷ 6 ∷ [];
              cards = 0x45 ∷ 0x00 ∷ 0x43 ∷ 0x42 ∷ 0x00 ∷ 0x41 ∷ 0x00 ∷ 0x44 ∷ [];
            };
      }
  -- 3, 4, 5: phases and copies
  pub three : runs racks3 (1 ∷ 0 ∷ FREE ∷ []) [] ((1, HAND) ∷ (0, 1) ∷ (HAND, 0) ∷ [])
  pub four : runs racks4 held4.places (((2, 1) ∷ (0, 3) ∷ []) ∷ []) ((1, 0) ∷ (3, 2) ∷ [])
  pub five : runs racks4 held5.places (((0, 2) ∷ []) ∷ []) ((1, 0) ∷ [])
  -- 6: single moves, and nothing changes
  pub six-10 : refuses racks4 held4 (0, 0) 10
  pub six-8 : refuses racks4 held4 (1, 3) 8
  pub six-7 : refuses racks4 held4 (0, 4) 7
  pub six-11 : refuses racks4 held4 (0, 2) 11
  pub six-9 : refuses racks4 held5 (1, 2) 9
  -- 7: tables
  pub seven-spare : checks racks4 (3 ∷ FREE ∷ 0 ∷ FREE ∷ []) 5 0
  pub seven-twice : checks racks4 (0 ∷ FREE ∷ 0 ∷ FREE ∷ []) 6 2
  pub seven-both : checks racks3 (2 ∷ 2 ∷ FREE ∷ []) 5 0
  -- 8: numerals
  pub eight-128 : reads (0x80 ∷ 0x01 ∷ []) 128 2
  pub eight-16384 : reads (0x80 ∷ 0x80 ∷ 0x01 ∷ []) 16384 3
  pub eight-padded : refuses_numeral (0x80 ∷ 0x00 ∷ []) 14
  pub eight-cut : refuses_numeral (0x80 ∷ []) 15
  pub eight-long : refuses_numeral (0x80 ∷ 0x80 ∷ 0x80 ∷ []) 20

pub paper : Paper
unfolding ◌and◌ ◌or◌ sum count some select seek least tabulate join each pair_up flat matching among last first of_caps rack_at users width total base slots ends_by rack_of spare_of is_user free settled rack_to on_rack away aways away_to bound owes free_on names bad_count bad_bytes too_large bad_size bad_places bad_cards bad_entry bad_entries repeats bad_twice no_slot source_free source_home elsewhere target_taken some_away too_short table_checks places_checks rack_checks card_checks checked other sources lowest granted open_slots room arrivals plan_for plan block put_block blank moved_places moved_cards carried_places carried_cards end_checks move_checks moved phases_from phases budget budgeted source following onward back on_cycle head factor factors_from factors shift cycle copies copy_list taken laid copy_made run_copies brought is_named last_entry last_card settled_held gathered has_pairs counts groups last_group numeral numerals wrong_n wrong_b wrong_m wrong_entry entry_of read_n read_b read_m file_racks read_entries file_bytes file_places file_cards file_checks digit digits decimal hex slot_text arrow phase_line phase_lines copies_line card_text cards_line end_line refused_line program_checks file_held run_text listing
paper = record { shelve = refl; budget4 = refl; one_left = refl; budget0 = refl; budget9 = refl; three = (refl, refl); four = (refl, refl); five = (refl, refl); six-10 = refl; six-8 = refl; six-7 = refl; six-11 = refl; six-9 = refl; seven-spare = refl; seven-twice = refl; seven-both = refl; eight-128 = refl; eight-16384 = refl; eight-padded = refl; eight-cut = refl; eight-long = refl }
