-- One outcome for each public call: each contract's own layer proves it, and the numbers that C is given tell no less. Assumes nothing.
use mathlib.Core.Path.{refl, ap}
use mathlib.Core.List.{List}
use Prim.Native.Nat.{ℕ}
use Rattle.counting.specs.One.{One}
use Rattle.counting.proofs.One.{OneToOne, one_told, one-is, read-back}
use Rattle.answers.specs.declared.Answer.{Answer}
use Rattle.answers.proofs.One.{answered-one, checked-one, size_answered-one, tally-none-one, tally_of-moves-one, tally_of-copies-one, number_of-one, place_of-one, answer-numbered-one, answer-refused-one, answer-done-one, answer-given-one}
use Rattle.racks.proofs.One.{job_of-one, job_of_cards-one}
use Rattle.tables.proofs.One.{check-table-one}
use Rattle.slots.specs.Told.{slot_answered}
use Rattle.slots.proofs.One.{slot_question-one, slot_answered-one}
use Rattle.plans.proofs.One.{phase-plan-one}
use Rattle.moves.proofs.One.{one-move-one, budgeted-moves-one}
use Rattle.factors.proofs.One.{copy-list-one}
use Rattle.shuffle.proofs.One.{shuffle-cards-one}
use Rattle.runs.proofs.One.{whole-run-one}
use Rattle.parsing.specs.Answers.{FileAnswer, file_answered}
use Rattle.parsing.proofs.One.{file_answered-one}
use Rattle.jobfile.proofs.One.{read-file-one, rest_of-one, card-bytes-one, step-at-one, new-one, next_one, read_job-one, given-read_job-one}
use Rattle.answers.specs.Answers.{answered, SizeAnswer, size_answered}
use Rattle.jobwriter.proofs.One.{write-file-one}
use Rattle.listing.proofs.One.{list_job-one}
use Rattle.flat.specs.Flat.{answer_of, file_of, size_of}
use Rattle.flat.specs.declared.Answer as c
use Rattle.flat.specs.declared.FileAnswer as c-file
use Rattle.flat.specs.declared.SizeAnswer as c-size
use Rattle.demands.specs.OneOutcome.{OneOutcome}

-- what f tells whole, beside a lent list, and beside two
beside : {A B : Type 0} (f : A → B) → OneToOne f → {allowed : B × List ℕ → Type 0} → One allowed → One (λ ((r, lent) : A × List ℕ). allowed (f r, lent))
beside {A} {B} f same =
    one_told (λ (x : A × List ℕ). (f x.0, x.1)) (λ x y e. let r = same x.0 y.0 (ap (λ (z : B × List ℕ). z.0) e) in λ i. (r i, (e i).1))

beside_two : {A B : Type 0} (f : A → B) → OneToOne f → {allowed : B × List ℕ × List ℕ → Type 0} → One allowed → One (λ ((r, l, m) : A × List ℕ × List ℕ). allowed (f r, l, m))
beside_two {A} {B} f same =
    one_told (λ (x : A × List ℕ × List ℕ). (f x.0, x.1, x.2)) (λ x y e. let r = same x.0 y.0 (ap (λ (z : B × List ℕ × List ℕ). z.0) e) in λ i. (r i, (e i).1, (e i).2))

-- the numbers that C is given, read back from an answer
abbrev plain : Answer → c.Answer
plain a = record { number = a.number; place = a.place; phases = a.tally.phases; moves = a.tally.moves; copies = a.tally.copies }

c-plain : OneToOne answer_of
c-plain = read-back answer_of plain (λ x. refl)

c-same : {allowed : Answer → Type 0} → One allowed → One (λ (r : c.Answer). allowed (answer_of r))
c-same = one_told answer_of c-plain

-- with a lent list, and with the table and the cards
c-listed : {allowed : Answer × List ℕ → Type 0} → One allowed → One (λ ((r, lent) : c.Answer × List ℕ). allowed (answer_of r, lent))
c-listed = beside answer_of c-plain

c_carded : {allowed : Answer × List ℕ × List ℕ → Type 0} → One allowed → One (λ ((r, places, cards) : c.Answer × List ℕ × List ℕ). allowed (answer_of r, places, cards))
c_carded = beside_two answer_of c-plain

-- a file read, and a text
c-filed : {allowed : FileAnswer × List ℕ × List ℕ → Type 0} → One allowed → One (λ ((r, caps, places) : c-file.FileAnswer × List ℕ × List ℕ). allowed (file_of r, caps, places))
c-filed =
    beside_two file_of
    (read-back file_of
    (λ (y : FileAnswer). record {
      number = y.answer.number;
      place = y.answer.place;
      phases = y.answer.tally.phases;
      moves = y.answer.tally.moves;
      copies = y.answer.tally.copies;
      racks = y.racks;
      bytes = y.bytes;
      slots = y.slots;
      start = y.start;
    }) (λ x. refl))

c-sized : {allowed : SizeAnswer × List ℕ → Type 0} → One allowed → One (λ ((r, lent) : c-size.SizeAnswer × List ℕ). allowed (size_of r, lent))
c-sized =
    beside size_of
    (read-back size_of
    (λ (y : SizeAnswer). record {
      number = y.answer.number;
      place = y.answer.place;
      phases = y.answer.tally.phases;
      moves = y.answer.tally.moves;
      copies = y.answer.tally.copies;
      size = y.size;
    }) (λ x. refl))

pub one-outcome : OneOutcome
one-outcome =
    record {
      check-table = check-table-one;
      slot_question = slot_question-one;
      phase-plan = phase-plan-one;
      one-move = one-move-one;
      budgeted-moves = budgeted-moves-one;
      copy-list = copy-list-one;
      shuffle-cards = shuffle-cards-one;
      whole_run = whole-run-one;
      read-file = read-file-one;
      write-file = write-file-one;
      list_job = list_job-one;
      rest_of = rest_of-one;
      card-bytes = card-bytes-one;
      step-at = step-at-one;
      new = new-one;
      next = next_one;
      read_job = read_job-one;
      job_of = job_of-one;
      job_of_cards = job_of_cards-one;
      tally-none = tally-none-one;
      tally_of-moves = tally_of-moves-one;
      tally_of-copies = tally_of-copies-one;
      number_of = number_of-one;
      place_of = place_of-one;
      answer-numbered = answer-numbered-one;
      answer-refused = answer-refused-one;
      answer_of_lem = answer-given-one;
      answer-done = answer-done-one;
      given-check-table = λ caps places. one_told _ checked-one (check-table-one caps places);
      given-slot_question = λ caps places g. one_told slot_answered slot_answered-one (slot_question-one caps places g);
      given-phase-plan = λ caps places lent. beside answered answered-one (phase-plan-one caps places lent);
      given-one-move = λ caps b places cards from to. beside_two answered answered-one (one-move-one caps b places cards from to);
      given-budgeted-moves = λ caps b places cards k. beside_two answered answered-one (budgeted-moves-one caps b places cards k);
      given-copy-list = λ caps places lent. beside answered answered-one (copy-list-one caps places lent);
      given-shuffle-cards = λ caps b places cards. beside_two answered answered-one (shuffle-cards-one caps b places cards);
      given-whole-run = λ caps b places cards. beside_two answered answered-one (whole-run-one caps b places cards);
      given-read-file = λ file caps places. beside_two file_answered file_answered-one (read-file-one file caps places);
      given-write-file = λ caps b places cards lent. beside size_answered size_answered-one (write-file-one caps b places cards lent);
      given-list_job = λ file lent. beside size_answered size_answered-one (list_job-one file lent);
      given-card-bytes = λ file found. card-bytes-one file (file_answered found);
      given-read_job = given-read_job-one;
      c_check-table = λ caps places. c-same (check-table-one caps places);
      c-slot_question = λ caps places g. one-is _;
      c-phase-plan = λ caps places lent. c-listed (phase-plan-one caps places lent);
      c-one-move = λ caps b places cards from to. c_carded (one-move-one caps b places cards from to);
      c-budgeted-moves = λ caps b places cards k. c_carded (budgeted-moves-one caps b places cards k);
      c_copy-list = λ caps places lent. c-listed (copy-list-one caps places lent);
      c-shuffle-cards = λ caps b places cards. c_carded (shuffle-cards-one caps b places cards);
      c-whole-run = λ caps b places cards. c_carded (whole-run-one caps b places cards);
      c-read-file = λ file caps places. c-filed (read-file-one file caps places);
      c_write-file = λ caps b places cards lent. c-sized (write-file-one caps b places cards lent);
      c-list_job = λ file lent. c-sized (list_job-one file lent);
      c-limits = one-is _;
    }
