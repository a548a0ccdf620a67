-- What an accepted job is known to be, what stays accepted, and that there is one. Assumes nothing.
use mathlib.Core.Path.{◌≡◌, refl, ap, ◌∙◌}
use mathlib.Core.Bool.{not}
use mathlib.Core.List.{List, [], ◌∷◌}
use Prim.Native.Nat.{ℕ, ◌*◌, ◌≤◌}
use lib.ListN.{length}
use borrow.Author.Tests.{eqb-true, eq-eqb}
use Rattle.counting.specs.Tests.{◌and◌, ◌or◌}
use Rattle.counting.specs.Count.{sum, count, some}
use Rattle.counting.specs.Lists.{each}
use Rattle.counting.specs.Checks.{first}
use Rattle.counting.proofs.Tests.{or-none, or-off_l, or-off_r, not-off-is}
use Rattle.counting.proofs.Checks.{Clear, clear_first, first-clear}
use Rattle.counting.proofs.Checks.Clear.{none, more}
use Rattle.racks.specs.Limits.{FREE}
use Rattle.racks.specs.Racks.{Rack, of_caps, rack_at, users, width, total, base, slots, ends_by, rack_of, spare_of, is_user}
use Rattle.racks.specs.Table.{free, names}
use Rattle.racks.specs.Numbers.{bad_count, bad_bytes, too_large, bad_size, bad_places, bad_cards, bad_entry, bad_entries, repeats, bad_twice, table_checks, card_checks, rack_checks, places_checks}
use Rattle.racks.specs.parts.Legal.{Legal}
use Rattle.racks.proofs.Legal.{table-clear}
use Rattle.racks.proofs.Marked.{cards-marked}
use Rattle.racks.proofs.LegalTable.{legal, legal-checks}
use Rattle.racks.proofs.Caps.{slots_small}
use Rattle.conduct.specs.Accepted.{Accepted}

module _ (racks : List Rack) (b : ℕ) (places cards : List ℕ) where
  -- a table and its cards that 1 to 6 do not refuse
  module _ (z : first (card_checks racks b places cards) ≡ 0) where
    clear : Clear (card_checks racks b places cards)
    clear = first-clear (cards-marked racks b places cards) z

    -- 1 and 3 do not refuse the racks
    pub accepted-racks : first (rack_checks racks) ≡ 0
    unfolding card_checks rack_checks
    accepted-racks = go clear
      where
        go : Clear (card_checks racks b places cards) → first (rack_checks racks) ≡ 0
        go (more n (more _ (more s _))) = clear_first (more n (more s none))

    -- 1 and 3 to 6 do not refuse the table
    pub accepted-table : first (table_checks racks places) ≡ 0
    unfolding card_checks table_checks places_checks rack_checks
    accepted-table = go clear
      where
        go : Clear (card_checks racks b places cards) → first (table_checks racks places) ≡ 0
        go (more n (more _ (more s (more p (more e (more t none)))))) = clear_first (more n (more s (more (or-off_l _ p) (more e (more t none)))))

    -- so it is legal
    pub accepted-legal : Legal racks places
    accepted-legal = legal racks places accepted-table

    -- the cards are S·B bytes
    pub accepted-long : length cards ≡ slots racks * b
    unfolding card_checks bad_cards
    accepted-long = go clear
      where
        go : Clear (card_checks racks b places cards) → length cards ≡ slots racks * b
        go (more _ (more _ (more _ (more p _)))) = eqb-true _ _ (not-off-is (or-off_r (bad_places racks places) p))

    -- any other legal table, with cards of the same length, is accepted
    pub accepted_again : (places' cards' : List ℕ) → Legal racks places' → length cards' ≡ length cards → first (card_checks racks b places' cards') ≡ 0
    unfolding card_checks table_checks places_checks rack_checks bad_cards
    accepted_again places' cards' l e = go clear (table-clear racks places' (legal-checks racks places' accepted-racks l))
      where
        go : Clear (card_checks racks b places cards) → Clear (table_checks racks places') → first (card_checks racks b places' cards') ≡ 0
        go (more n (more y (more s _))) (more _ (more _ (more p (more q (more t none))))) =
            clear_first (more n (more y (more s (more (or-none p (ap not (eq-eqb _ _ (e ∙ accepted-long)))) (more q (more t none))))))

-- racks of capacities: at most 4,096 slots
pub accepted-small : (caps : List ℕ) (b : ℕ) (places cards : List ℕ) → first (card_checks (of_caps caps) b places cards) ≡ 0 → slots (of_caps caps) ≤ 4096
accepted-small caps b places cards z = slots_small caps (accepted-racks (of_caps caps) b places cards z)

-- there are such jobs: case 4 of the paper cards, with cards of one byte
pub accepted-four : Accepted (1 ∷ 1 ∷ []) 1 (record { places = 2 ∷ FREE ∷ 0 ∷ FREE ∷ []; cards = 0x41 ∷ 0x00 ∷ 0x42 ∷ 0x00 ∷ [] })
unfolding ◌and◌ ◌or◌ sum count some each first of_caps rack_at users width total base slots ends_by rack_of spare_of is_user free names bad_count bad_bytes too_large bad_size bad_places bad_cards bad_entry bad_entries repeats bad_twice card_checks
accepted-four = refl
