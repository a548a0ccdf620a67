-- Each case of the slot question. Assumes nothing.
use mathlib.Core.Path.{◌≡◌, refl, ap, sym, ◌∙◌}
use mathlib.Core.List.{List, [], ◌∷◌}
use Prim.Native.Nat.{ℕ, ◌≤◌, ◌<◌}
use native.Mathlib.Omega.{arith}
use lib.ListN.{length}
use borrow.Author.Tests.{eq-eqb, ne_eqb, le-leb, lt-leb}
use Rattle.counting.specs.Tests.{◌and◌}
use Rattle.counting.specs.Checks.{first, known}
use Rattle.counting.proofs.Checks.{first-here, first-later, first-none, known_past}
use Rattle.racks.specs.Limits.{FREE}
use Rattle.racks.specs.Racks.{Rack, of_caps, slots, rack_of}
use Rattle.racks.specs.Table.{dest, free, settled, rack_to, on_rack, away}
use Rattle.racks.specs.Numbers.{no_slot}
use Rattle.std.specs.Prelude.{Ok, Err}
use Rattle.racks.specs.Numbers.{rack_checks}
use Rattle.racks.specs.Job.{racks_of, good_job}
use Rattle.racks.specs.declared.Job.{Job}
use Rattle.racks.proofs.Places.{NoPlace}
use Rattle.tables.specs.parts.Tables.{refusal_by, table_number}
use Rattle.tables.proofs.Refusals.{kept_by, placeless_by}
use Rattle.tables.proofs.Capacities.{refused-table, of_refusal}
use Rattle.slots.specs.parts.Asked.{said, asked_by}
use Rattle.answers.specs.Answers.{Refusal, placeless, refusal_of}
use Rattle.answers.specs.declared.Refusal as given
use Rattle.answers.specs.declared.Refusal.TheVariants as case
use Rattle.answers.proofs.Answers.{refuses}
use Rattle.slots.specs.Told.{refused_slot, slot_answered, kind_told, state_told}
use Rattle.slots.specs.Told.State.{Free, Settled, Unsettled, Away}
use Rattle.slots.specs.Slots.{kind_of, state_of, slot_checks, asked}
use Rattle.slots.specs.declared.State as held
use Rattle.slots.specs.declared.Kind as code

-- x is what is read at slot g
module _ (racks : List Rack) (places : List ℕ) (g x : ℕ) (ex : x ≡ dest places g) where
  pub state-free : x ≡ FREE → Free ≡ state_of racks places g
  unfolding state_of free
  state-free e = rw (eq-eqb (dest places g) FREE (sym ex ∙ e))

  module _ (f : x ≡ FREE → ⊥) where
    pub state-settled : x ≡ g → Settled ≡ state_of racks places g
    unfolding state_of free settled
    state-settled e = rw (ne_eqb (dest places g) FREE (λ q. f (ex ∙ q)), eq-eqb (dest places g) g (sym ex ∙ e))

    module _ (n : x ≡ g → ⊥) (here there : ℕ) (eh : here ≡ rack_of racks g) (et : there ≡ rack_of racks x) where
      there-is : there ≡ rack_of racks (dest places g)
      there-is = et ∙ ap (rack_of racks) ex

      pub state-here : here ≡ there → Unsettled ≡ state_of racks places g
      unfolding state_of free settled away on_rack rack_to ◌and◌
      state-here e =
          rw (ne_eqb (dest places g) FREE (λ q. f (ex ∙ q)), ne_eqb (dest places g) g (λ q. n (ex ∙ q)), eq-eqb (rack_of racks g) (rack_of racks (dest places g)) (sym eh ∙ e ∙ there-is))

      pub state-away : (here ≡ there → ⊥) → Away there ≡ state_of racks places g
      unfolding state_of free settled away on_rack rack_to ◌and◌
      state-away d =
          rw (ne_eqb (dest places g) FREE (λ q. f (ex ∙ q)), ne_eqb (dest places g) g (λ q. n (ex ∙ q)), ne_eqb (rack_of racks g) (rack_of racks (dest places g)) (λ e. d (eh ∙ e ∙ sym there-is)), there-is)

-- a refusal
pub said-refused : (racks : List Rack) (places : List ℕ) (g : ℕ) (x : Refusal) → (x.number ≡ 0 → ⊥) → refused_slot x ≡ said racks places g x
unfolding said
said-refused racks places g x f = rw (ne_eqb x.number 0 f)

-- each case, by a job
module _ (job : Job) (places : List ℕ) (g : ℕ) where
  by_refusal : (x : Refusal) → x ≡ refusal_by job places (first (known (table_number job places) ∷ (no_slot (racks_of job) g, 7) ∷ []))
      → said (racks_of job) places g x ≡ asked_by job places g
  unfolding asked_by
  by_refusal x e = ap (said (racks_of job) places g) e

  -- refused by the table
  pub asked-refused : (e : given.Refusal) → refusal_of e ≡ refusal_by job places (table_number job places) → slot_answered (Err e) ≡ asked_by job places g
  asked-refused e is =
      said-refused (racks_of job) places g (refusal_of e) (refuses e)
      ∙ by_refusal (refusal_of e) (kept_by job places (table_number job places) _ (refusal_of e) is (refuses e))

  module _ (z : table_number job places ≡ 0) (long : length places ≡ slots (racks_of job)) where
    past : first (known (table_number job places) ∷ (no_slot (racks_of job) g, 7) ∷ []) ≡ first ((no_slot (racks_of job) g, 7) ∷ [])
    past = known_past (table_number job places) _ z

    by_number : (n : ℕ) → NoPlace n → n ≡ first ((no_slot (racks_of job) g, 7) ∷ []) → said (racks_of job) places g (placeless n) ≡ asked_by job places g
    by_number n f e = by_refusal (placeless n) (placeless_by job places n _ f (e ∙ sym past))

    -- there is no such slot
    pub asked-past : length places ≤ g → slot_answered (Err case.NoSlot) ≡ asked_by job places g
    unfolding no_slot
    asked-past h =
        said-refused (racks_of job) places g (placeless 7) (λ q. omega arith)
        ∙ by_number 7 (refl, refl) (sym (first-here _ 7 [] (le-leb (slots (racks_of job)) g (omega arith))))

    -- what it is and what stands in it
    pub asked_is : g < length places → (k : code.Kind) (s : held.State) → kind_told k ≡ kind_of (racks_of job) g → state_told s ≡ state_of (racks_of job) places g
        → slot_answered (Ok (record { kind = k; state = s })) ≡ asked_by job places g
    unfolding no_slot said
    asked_is h k s ek es =
        rw (ek, es)
        (by_number 0 (refl, refl) (sym (first-later _ 7 [] (lt-leb (slots (racks_of job)) g (omega arith)) ∙ first-none)))

-- a job made from capacities answers as they do
pub asked_by_lem : (caps : List ℕ) (job : Job) → (first (rack_checks (of_caps caps)) ≡ 0) × (job ≡ good_job (of_caps caps)) → (places : List ℕ) (g : ℕ) → asked_by job places g ≡ asked (of_caps caps) places g
unfolding asked_by asked slot_checks said
asked_by_lem caps job m places g = of_refusal caps job m places (λ (r : List Rack). (no_slot r g, 7) ∷ []) (λ (x : Refusal) (r : List Rack). said r places g x)

-- and capacities that are refused give their refusal
pub asked-racks : (caps : List ℕ) (e : given.Refusal) → refusal_of e ≡ placeless (first (rack_checks (of_caps caps))) → (places : List ℕ) (g : ℕ) → slot_answered (Err e) ≡ asked (of_caps caps) places g
unfolding asked slot_checks said
asked-racks caps e is places g =
    said-refused (of_caps caps) places g (refusal_of e) (refuses e)
    ∙ ap (said (of_caps caps) places g) (refused-table caps e is places ((no_slot (of_caps caps) g, 7) ∷ []))
