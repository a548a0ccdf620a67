-- Wrong movers are shut out. Assumes nothing.
use mathlib.Core.Path.{◌≡◌, refl, ap, sym, ◌∙◌}
use mathlib.Core.Logic.{◌≢◌}
use mathlib.Core.List.{List, [], ◌∷◌}
use Prim.Native.Nat.{ℕ, zero, suc, ◌+◌}
use native.Mathlib.Omega.{arith}
use lib.ListN.{length, get_or, replicate}
use Rattle.counting.specs.Lists.{Pair}
use Rattle.counting.specs.Checks.{first}
use Rattle.counting.proofs.Select.{length-select}
use Rattle.racks.specs.Racks.{of_caps, slots}
use Rattle.racks.specs.Table.{aways}
use Rattle.racks.specs.parts.Legal.{Legal}
use Rattle.racks.specs.Numbers.{card_checks}
use Rattle.answers.specs.Answers.{Listed}
use Rattle.answers.specs.declared.Tally.{Tally}
use Rattle.answers.specs.declared.Answer.{Answer}
use Rattle.moves.specs.Moves.{Held, Outcome}
use Rattle.racks.proofs.LegalTable.{spared-caps}
use Rattle.moves.specs.Phases.{phases, budgeted}
use Rattle.moves.proofs.Phases.{budget-aways}
use Rattle.moves.proofs.FirstFit.{first-fit}
use Rattle.factors.specs.Copies.{copy_list}
use Rattle.runs.specs.Run.{gathered, counts, ran}
use Rattle.runs.proofs.WholeRun.{run-moves, run-phases, run-copies}
use Rattle.listing.specs.Listing.{listing}
use Rattle.demands.specs.ShutOut.{Runner, MeetsRun, Budgeter, MeetsBudget, Planner, MeetsPlan, Phaser, MeetsPhases, ShutOutRuns, ShutOutBudgets, ShutOutPlans, ShutOutPhases, idle_text, ShutOut}
use Rattle.demands.specs.Paper.{caps1, held1, file1, paper}
use Rattle.demands.proofs.CaseOne.{caps10, held10, after1, after10, refused10, planned1, cases}
use Rattle.conduct.proofs.Acceptance.{accepted-legal}

-- the number, the moves and the first entry of an outcome
abbrev number_of : Outcome → ℕ
number_of o = o.answer.number

abbrev moves_in : Outcome → ℕ
moves_in o = o.answer.tally.moves

abbrev entry0 : Held → ℕ
entry0 h = get_or h.places 0 0

-- what is known where no check of the table and the cards applies
module _ (caps : List ℕ) (b : ℕ) (h : Held) (z : first (card_checks (of_caps caps) b h.places h.cards) ≡ 0) where
  is-legal : Legal (of_caps caps) h.places
  is-legal = accepted-legal (of_caps caps) b h.places h.cards z

  -- the counts of a whole run
  run-counts : (ran (of_caps caps) b h).answer.tally
      ≡ record { phases = length (phases (of_caps caps) h.places); moves = aways (of_caps caps) h.places; copies = length (copy_list (gathered (of_caps caps) b h).places) }
  unfolding ran
  run-counts = rw z go
    where
      go : counts (of_caps caps) b h ≡ record { phases = length (phases (of_caps caps) h.places); moves = aways (of_caps caps) h.places; copies = length (copy_list (gathered (of_caps caps) b h).places) }
      go =
          let s = spared-caps caps in
          let p = run-phases (of_caps caps) b h is-legal s in
          let q = run-moves (of_caps caps) b h is-legal s in
          let r = run-copies (of_caps caps) b h is-legal s in
          λ i. record { phases = p i; moves = q i; copies = r i }

  -- the moves of a budget
  budget-counts : (k : ℕ) → (budgeted (of_caps caps) b h k).answer.tally.moves + aways (of_caps caps) (budgeted (of_caps caps) b h k).held.places ≡ aways (of_caps caps) h.places
  unfolding budgeted
  budget-counts k = rw z (sym (budget-aways (first-fit (spared-caps caps)) is-legal k))

-- a call's number is that of its checks
number-ran : (caps : List ℕ) (b : ℕ) (h : Held) → (ran (of_caps caps) b h).answer.number ≡ 0 → first (card_checks (of_caps caps) b h.places h.cards) ≡ 0
unfolding ran
number-ran caps b h z = z

number-budgeted : (caps : List ℕ) (b : ℕ) (h : Held) (k : ℕ) → (budgeted (of_caps caps) b h k).answer.number ≡ 0 → first (card_checks (of_caps caps) b h.places h.cards) ≡ 0
unfolding budgeted
number-budgeted caps b h k z = z

module _ (m : Runner) (meets : MeetsRun m) where
  run1 : m caps1 1 held1 ≡ after1
  run1 = meets caps1 1 held1 ∙ cases.ran1

  run10 : m caps10 1 held10 ≡ after10
  run10 = meets caps10 1 held10 ∙ cases.ran10

  run_none : m [] 1 held10 ≡ refused10
  run_none = meets [] 1 held10 ∙ cases.ran-none

  shut-runs : ShutOutRuns m
  shut-runs =
      record {
        refuses-all = λ all. all caps1 1 held1 (ap number_of run1);
        constant_reply = λ all. absurd (omega (arith, ap (λ (a : Answer). a.number) (sym (ap (λ (o : Outcome). o.answer) run1) ∙ all caps1 [] 1 1 held1 held10 ∙ ap (λ (o : Outcome). o.answer) run_none)));
        touches-nothing = λ all. absurd (omega (arith, ap entry0 (sym (all caps1 1 held1) ∙ ap (λ (o : Outcome). o.held) run1)));
        invented-counts = λ t all.
            let one = all caps1 1 held1 (ap number_of run1) in
            let ten = all caps10 1 held10 (ap number_of run10) in
            absurd (omega (arith, ap (λ (y : Tally). y.moves) (one ∙ sym ten), ap moves_in run1, ap moves_in run10));
        true-counts = λ caps b h z.
            ap (λ (o : Outcome). o.answer.tally) (meets caps b h) ∙ run-counts caps b h (number-ran caps b h (sym (ap number_of (meets caps b h)) ∙ z));
      }

-- after four moves of case 1 one card is away
one_left : aways (of_caps caps1) (budgeted (of_caps caps1) 1 held1 4).held.places ≡ 1
unfolding aways
one_left = sym (length-select (slots (of_caps caps1)) _) ∙ ap length paper.one_left

module _ (m : Budgeter) (meets : MeetsBudget m) where
  four_of-10 : m caps10 1 held10 4 ≡ after10
  four_of-10 = meets caps10 1 held10 4 ∙ cases.budgeted10

  four_of-none : m [] 1 held10 4 ≡ refused10
  four_of-none = meets [] 1 held10 4 ∙ cases.budgeted-none

  shut-budgets : ShutOutBudgets m
  shut-budgets =
      let four-of-1 = meets caps1 1 held1 4 ∙ paper.budget4 in
      record {
        refuses-all = λ all. all caps1 1 held1 4 (ap number_of four-of-1);
        constant_reply = λ all. absurd (omega (arith, ap (λ (a : Answer). a.number) (sym (ap (λ (o : Outcome). o.answer) four-of-1) ∙ all caps1 [] 1 1 held1 held10 4 4 ∙ ap (λ (o : Outcome). o.answer) four_of-none)));
        touches-nothing = λ all. absurd (omega (arith, ap entry0 (sym (all caps1 1 held1 4) ∙ ap (λ (o : Outcome). o.held) four-of-1)));
        all-at-once = λ all.
            absurd (omega (arith, all caps1 1 held1 4 (omega arith) (ap number_of four-of-1), ap (λ (o : Outcome). aways (of_caps caps1) o.held.places) (meets caps1 1 held1 4), one_left));
        invented-counts = λ t all.
            let one = all caps1 1 held1 4 (ap number_of four-of-1) in
            let ten = all caps10 1 held10 4 (ap number_of four_of-10) in
            absurd (omega (arith, ap (λ (y : Tally). y.moves) (one ∙ sym ten), ap moves_in four-of-1, ap moves_in four_of-10));
        true-counts = λ caps b h k z.
            ap (λ (o : Outcome). o.answer.tally.moves + aways (of_caps caps) o.held.places) (meets caps b h k)
            ∙ budget-counts caps b h (number-budgeted caps b h k (sym (ap number_of (meets caps b h k)) ∙ z)) k;
      }

module _ (p : Planner) (meets : MeetsPlan p) where
  abbrev nines : List ℕ
  nines = 9 ∷ 9 ∷ 9 ∷ 9 ∷ 9 ∷ 9 ∷ []

  plan1 : p caps1 held1.places nines ≡ planned1
  plan1 = meets caps1 held1.places nines ∙ cases.plan-is

  shut-plans : ShutOutPlans p
  shut-plans =
      record {
        all-at-once = λ all.
            absurd (omega (arith, all caps1 held1.places nines (ap (λ (o : Listed). o.answer.number) plan1), ap (λ (o : Listed). o.answer.tally.moves) plan1, cases.aways1));
        touches-nothing = λ all. absurd (omega (arith, ap (λ (l : List ℕ). get_or l 0 0) (sym (all caps1 held1.places nines) ∙ ap (λ (o : Listed). o.lent) plan1)));
      }

-- how many pairs the second phase has
abbrev second : List (List Pair) → ℕ
second plans = length (get_or plans 1 [])

second_idle : (all : List Pair) (idle : ℕ) → second (all ∷ replicate idle []) ≡ 0
second_idle all zero = refl
second_idle all (suc idle) = refl

module _ (p : Phaser) (meets : MeetsPhases p) where
  shut-phases : ShutOutPhases p
  shut-phases =
      record {
        all-at-once = λ all.
            let (one, idle, e) = all caps1 held1.places cases.away1 in
            absurd (omega (arith, sym (ap second (meets caps1 held1.places ∙ cases.phases1)) ∙ ap second e ∙ second_idle one idle));
      }

-- the first phase line ends before the idle one's does
shut-listing : (print : List ℕ → List ℕ) → ((file : List ℕ) → print file ≡ listing file) → print file1 ≢ idle_text
shut-listing print meets e = omega (arith, ap (λ (t : List ℕ). get_or t 20 0) (sym e ∙ meets file1 ∙ paper.shelve))

pub shut_out : ShutOut
shut_out = record { runs = shut-runs; budgets = shut-budgets; plans = shut-plans; phases = shut-phases; listings = shut-listing }
