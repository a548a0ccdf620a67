-- What each call leaves on a refusal. Assumes nothing.
use mathlib.Core.Path.{◌≡◌, refl, sym, ap, ◌∙◌}
use mathlib.Core.Logic.{◌≢◌}
use mathlib.Core.List.{List, []}
use Prim.Native.Nat.{ℕ}
use borrow.Author.Tests.{ne_eqb}
use Rattle.tables.specs.Check.{checked}
use Rattle.slots.specs.Slots.{asked}
use Rattle.plans.specs.Plan.{planned}
use Rattle.moves.specs.Moves.{moved}
use Rattle.moves.specs.Phases.{budgeted}
use Rattle.factors.specs.Copies.{copied}
use Rattle.shuffle.specs.Shuffle.{shuffled}
use Rattle.runs.specs.Run.{ran}
use Rattle.answers.specs.declared.Answer.{Answer}
use Rattle.counting.specs.Checks.{first}
use Rattle.parsing.specs.File.{Read, refusal_at, file_refusal, read_checks, read}
use Rattle.numerals.specs.Numeral.{Got, numeral}
use Rattle.numerals.specs.Numeral.{got_of}
use Rattle.numerals.specs.declared.Numeral.{Numeral}
use Rattle.std.specs.Prelude.{Result, Ok, Err}
use Rattle.answers.specs.Answers.{placeless, refused}
use Rattle.answers.specs.declared.Refusal as given
use Rattle.jobfile.proofs.One.{form-bare}
use Rattle.jobfile.specs.Reading.{at_after, Stepped, Next, ahead, JobRead}
use Rattle.jobfile.specs.declared.Reader.{Reader}
use Rattle.jobfile.specs.declared.Step.{Step}
use Rattle.jobfile.specs.Reading.{JobFile}
use Rattle.jobwriter.specs.Writing.{filed}
use Rattle.listing.specs.Listing.{handed_over, printed}
use Rattle.jobfile.specs.Reading.{job_seen}
use Rattle.demands.specs.Demand1.{refused_as, Refusals}

-- a file that is refused
refused-read : (file caps places : List ℕ) → (read file caps places).answer.number ≢ 0
    → read file caps places ≡ record { answer = refused_as (read file caps places).answer; racks = 0; bytes = 0; slots = 0; caps = caps; places = places; start = 0; cards = [] }
unfolding read file_refusal refusal_at
refused-read file caps places f = rw (ne_eqb (first (read_checks file caps places)) 0 f)

-- and a job
refused_job : (reader : Reader) (caps places : List ℕ) (job : JobFile) (caps' places' : List ℕ) → JobRead reader caps places job caps' places' → job.answer.number ≢ 0
    → job_seen (job, caps', places') ≡ (refused_as job.answer, 0, 0, 0, 0, [], caps, places)
refused_job reader caps places job caps' places' r f =
    let e = refused-read (ahead reader) caps places (λ z. f (ap (λ (a : Answer). a.number) r.answer-is ∙ z)) in
    let e0 = r.answer-is ∙ ap (λ (o : Read). o.answer) e ∙ ap refused_as (sym r.answer-is) in
    let e1 = r.racks-are ∙ ap (λ (o : Read). o.racks) e in
    let e2 = r.bytes-are ∙ ap (λ (o : Read). o.bytes) e in
    let e3 = r.slots-are ∙ ap (λ (o : Read). o.slots) e in
    let e4 = r.start_is ∙ ap (λ (o : Read). o.start) e in
    let e5 = r.cards-are ∙ ap (λ (o : Read). o.cards) e in
    let e6 = r.caps-are ∙ ap (λ (o : Read). o.caps) e in
    let e7 = r.places-are ∙ ap (λ (o : Read). o.places) e in
    λ i. (e0 i, e1 i, e2 i, e3 i, e4 i, e5 i, e6 i, e7 i)

-- a numeral that is refused says so, and the position stays
refused-numeral : (file : List ℕ) (x : Result Numeral given.Refusal) (at n : ℕ) → got_of x ≡ numeral file at → n ≢ 0 → (numeral file at).number ≡ n
    → (refused x ≡ placeless n) × (at_after x at ≡ at)
unfolding got_of at_after
refused-numeral file (Ok x) at n e f z = absurd (f (sym z ∙ sym (ap (λ (g : Got). g.number) e)))
refused-numeral file (Err r) at n e f z = (form-bare file at r e ∙ ap placeless (ap (λ (g : Got). g.number) e ∙ z), refl)

refused-step : (file : List ℕ) (at n : ℕ) (step : Step) → Stepped file at step → n ≢ 0 → (numeral file at).number ≡ n → (refused step.numeral ≡ placeless n) × (step.at ≡ at)
refused-step file at n step s f z =
    let r = refused-numeral file step.numeral at n s.got-is f z in
    (r.0, s.at-is ∙ r.1)

refused-next : (before after : Reader) (x : Result Numeral given.Refusal) (n : ℕ) → Next before x after → n ≢ 0 → (numeral before.file.now before.at).number ≡ n
    → (refused x ≡ placeless n) × (after.file ≡ before.file) × (after.at ≡ before.at)
refused-next before after x n s f z =
    let r = refused-numeral before.file.now x before.at n s.got-is f z in
    (r.0, s.file-is, s.at-is ∙ r.1)

pub refusals : Refusals
unfolding checked asked planned moved budgeted copied shuffled ran filed handed_over printed
refusals =
    record {
      check-table = λ racks places f. rw (ne_eqb _ 0 f);
      slot_question = λ racks places g f. rw (ne_eqb _ 0 f);
      phase-plan = λ racks places lent f. rw (ne_eqb _ 0 f);
      one-move = λ racks b h from to f. rw (ne_eqb _ 0 f);
      budgeted-moves = λ racks b h k f. rw (ne_eqb _ 0 f);
      copy-list = λ racks places lent f. rw (ne_eqb _ 0 f);
      shuffle-cards = λ racks b h f. rw (ne_eqb _ 0 f);
      whole_run = λ racks b h f. rw (ne_eqb _ 0 f);
      read-file = refused-read;
      write-file = λ racks b places cards lent f. rw (ne_eqb _ 0 f);
      read_job = refused_job;
      step-at = refused-step;
      next = refused-next;
      list_job = λ file lent f. rw (ne_eqb _ 0 f);
    }
