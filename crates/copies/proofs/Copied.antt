-- Each case of the copy list's call. Assumes nothing.
use mathlib.Core.Path.{◌≡◌, refl, sym, ap, ◌∙◌}
use mathlib.Core.Bool.{true, false, not}
use mathlib.Core.Logic.{inl, inr}
use lib.Dec.{leb}
use Rattle.std.proofs.lemmas.Bool.Decides.{leb_tells}
use mathlib.Core.List.{List, [], ◌∷◌}
use Prim.Native.Nat.{ℕ, ◌*◌, ◌≤◌}
use native.Mathlib.Omega.{arith}
use native.Mathlib.Nat.{zero-add}
use lib.ListN.{length}
use borrow.Author.Tests.{lt-ltb, le-ltb, ltb-false}
use Rattle.counting.proofs.Tests.{not_on, not-off-is}
use Rattle.counting.specs.Lists.{flat}
use Rattle.counting.specs.Checks.{first}
use Rattle.counting.proofs.Checks.{first-here, first-later, first-none, known_past}
use Rattle.counting.proofs.Stores.{length-flat}
use Rattle.std.specs.Prelude.{Ok, Err}
use Rattle.answers.specs.Answers.{Refusal, placeless, refusal_of, answered, copies_of, no_counts, listed, listed_of}
use Rattle.answers.specs.declared.Refusal as given
use Rattle.answers.specs.declared.Refusal.TheVariants as case
use Rattle.answers.specs.declared.Tally.{Tally}
use Rattle.answers.proofs.Answers.{listed-refused, listed-done}
use Rattle.racks.specs.Racks.{Rack, of_caps}
use Rattle.racks.specs.Numbers.{some_away, too_short, rack_checks}
use Rattle.racks.specs.Job.{racks_of, good_job}
use Rattle.racks.specs.declared.Job.{Job}
use Rattle.racks.proofs.Places.{placeless-alone}
use Rattle.tables.specs.parts.Tables.{refusal_by, table_number}
use Rattle.tables.proofs.Refusals.{placeless_by}
use Rattle.tables.proofs.Capacities.{listed-racks, of_refusal}
use Rattle.factors.specs.Copies.{copy_list, copy_checks, copied}
use Rattle.copies.specs.parts.Writes.{put_copies, AllWritten, fits, listed_here, copy_number, copied_by}
use Rattle.factors.specs.parts.Chains.{Chained}
use Rattle.factors.proofs.Costs.{list_most}

-- three numbers a slot are enough
pub fits-long : {places : List ℕ} → Chained places → (room : ℕ) → 3 * length places ≤ room → true ≡ fits room places
unfolding fits
fits-long {places} ok room l = ap not (sym (le-ltb room (2 * length (copy_list places)) (omega (arith, list_most ok))))

-- the copies, counted: they fit, or not
pub fits-count : (places : List ℕ) (room count : ℕ) → count ≡ length (copy_list places) → leb (2 * count) room ≡ fits room places
unfolding fits
fits-count places room count size = elim (leb_tells (2 * count) room) [
  | inl e ↦ e.0 ∙ ap not (sym (le-ltb room (2 * length (copy_list places)) (omega (arith, e.1))))
  | inr e ↦ e.0 ∙ ap not (sym (lt-ltb room (2 * length (copy_list places)) (omega (arith, e.1))))
]

-- the table is accepted and nothing is away
module _ (places lent : List ℕ) where
  -- the lent list is too short
  pub here-short : fits (length lent) places ≡ false → listed_of (answered (Err case.TooShort)) lent ≡ listed_here places lent
  unfolding listed_here fits too_short
  here-short e =
      listed-refused (placeless (first ((too_short lent (flat (copy_list places)), 13) ∷ []))) (copies_of (length (copy_list places))) (flat (copy_list places)) lent case.TooShort
      (ap placeless (sym (first-here _ 13 [] (rw (length-flat (copy_list places)) (not-off-is e)))))

  -- it has room
  pub fits-room : fits (length lent) places ≡ true → 2 * length (copy_list places) ≤ length lent
  unfolding fits
  fits-room e = ltb-false (length lent) (2 * length (copy_list places)) (not_on e)

  -- the list is written, and the tally has its copies
  pub here-done : fits (length lent) places ≡ true → (none t : Tally) (seen after marks : List ℕ) → none ≡ no_counts → AllWritten places lent seen none t after marks → listed_of (answered (Ok t)) after ≡ listed_here places lent
  unfolding listed_here fits too_short put_copies
  here-done e none t seen after marks en w =
      listed-done (placeless (first ((too_short lent (flat (copy_list places)), 13) ∷ []))) (copies_of (length (copy_list places))) (flat (copy_list places)) lent t after (w.count-is ∙ rw (en, zero-add)) w.list-is
      (ap placeless (sym (first-later _ 13 [] (rw (length-flat (copy_list places)) (not_on e)) ∙ first-none)))

-- the refusal of the call, by a job
module _ (job : Job) (places lent : List ℕ) where
  module _ (z : table_number job places ≡ 0) where
    -- a card is away
    pub copied-away : some_away (racks_of job) places ≡ true → placeless 12 ≡ refusal_by job places (copy_number job places lent)
    unfolding copy_number
    copied-away e = placeless_by job places 12 _ (refl, refl) (sym (known_past (table_number job places) _ z ∙ first-here _ 12 _ e))

    -- nothing is away
    pub copied-home : some_away (racks_of job) places ≡ false → listed_here places lent ≡ copied_by job places lent
    unfolding listed_here copied_by copy_number
    copied-home home =
        ap (λ (x : Refusal). listed x (copies_of (length (copy_list places))) (flat (copy_list places)) lent)
        (placeless_by job places _ _ (placeless-alone _ 13 (refl, refl))
        (sym (known_past (table_number job places) _ z ∙ first-later _ 12 _ home)))

-- a job made from capacities gives their list
pub copied_by_lem : (caps : List ℕ) (job : Job) → (first (rack_checks (of_caps caps)) ≡ 0) × (job ≡ good_job (of_caps caps)) → (places lent : List ℕ) → copied_by job places lent ≡ copied (of_caps caps) places lent
unfolding copied_by copy_number copied copy_checks
copied_by_lem caps job m places lent =
    of_refusal caps job m places (λ (r : List Rack). (some_away r places, 12) ∷ (too_short lent (flat (copy_list places)), 13) ∷ [])
    (λ (x : Refusal) (r : List Rack). listed x (copies_of (length (copy_list places))) (flat (copy_list places)) lent)

-- capacities that are refused give their refusal
pub copied-racks : (caps : List ℕ) (e : given.Refusal) → refusal_of e ≡ placeless (first (rack_checks (of_caps caps))) → (places lent : List ℕ) → listed_of (answered (Err e)) lent ≡ copied (of_caps caps) places lent
unfolding copied copy_checks
copied-racks caps e is places lent = listed-racks caps e is places ((some_away (of_caps caps) places, 12) ∷ (too_short lent (flat (copy_list places)), 13) ∷ []) (copies_of (length (copy_list places))) (flat (copy_list places)) lent
