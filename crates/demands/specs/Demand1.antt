-- Demand 1: a call gives number n exactly when the rules' condition n holds and no earlier one of the call's list does, and 0 exactly when none holds;
-- 5 comes with the lowest bad entry, 6 with the lowest entry that repeats an earlier one, every other number with the place 0;
-- a refusal changes nothing lent and gives 0 for all else. Assumes nothing: these are statements; `demand1` in proofs/Demand1 and `refusals` in proofs/Refusals prove them.
use Rattle.std.specs.Prelude.{◌≡◌, ◌≢◌, ◌↔◌, true, List, [], ◌∷◌, ℕ, suc, ◌+◌, ◌≤◌, ◌<◌, length, get_or, take, Result}
use Rattle.counting.specs.Lists.{flat}
use Rattle.racks.specs.Racks.{Rack, of_caps, users, total, base, slots, rack_of, is_user}
use Rattle.answers.specs.Answers.{no_counts, placeless, refused}
use Rattle.answers.specs.declared.Refusal as given
use Rattle.answers.specs.declared.Answer.{Answer}
use Rattle.tables.specs.Check.{checked}
use Rattle.slots.specs.Told.{nothing}
use Rattle.slots.specs.Slots.{asked}
use Rattle.plans.specs.Plan.{plan, planned}
use Rattle.moves.specs.Moves.{Held, held, moved}
use Rattle.moves.specs.Phases.{budgeted}
use Rattle.factors.specs.Copies.{copy_list, copied}
use Rattle.shuffle.specs.Shuffle.{shuffled}
use Rattle.runs.specs.Run.{ran}
use Rattle.numerals.specs.Numeral.{numeral}
use Rattle.parsing.specs.File.{file_racks, file_bytes, read}
use Rattle.numerals.specs.declared.Numeral.{Numeral}
use Rattle.jobfile.specs.Reading.{Stepped, Next, ahead, JobRead}
use Rattle.jobfile.specs.declared.Reader.{Reader}
use Rattle.jobfile.specs.declared.Step.{Step}
use Rattle.jobfile.specs.Reading.{JobFile}
use Rattle.jobwriter.specs.Writing.{file_for, filed}
use Rattle.texts.specs.Lines.{refused_line}
use Rattle.runtexts.specs.RunText.{run_text}
use Rattle.listing.specs.Listing.{file_held, listing, printed}
use Rattle.conduct.specs.Accepted.{Accepted}
use Rattle.jobfile.specs.Reading.{job_seen}
use Rattle.demands.specs.Rows.{None, Holds, Given, ◌then◌}
use Rattle.demands.specs.Conditions.{UserSlot, NoSlot, CardAway, TooShort, table_rows, card_rows, end_rows}
use Rattle.demands.specs.Places.{Answered, FileAnswered}
use Rattle.demands.specs.FileConditions.{EndsWith, value_of, form_rows, file_rows, NoRoom, FileTooLarge}

-- the number and the place of each call
pub record Demand1 : Type 0 where
  pub check-table : (racks : List Rack) (places : List ℕ) → Answered racks places (table_rows racks places) (checked racks places)
  pub slot_question : (racks : List Rack) (places : List ℕ) (g : ℕ)
      → Answered racks places (table_rows racks places then (7, NoSlot racks g) ∷ []) (asked racks places g).answer
  pub phase-plan : (racks : List Rack) (places lent : List ℕ)
      → Answered racks places (table_rows racks places then (13, TooShort lent (flat (plan racks places))) ∷ []) (planned racks places lent).answer
  pub one-move : (racks : List Rack) (b : ℕ) (h : Held) (from to : ℕ)
      → Answered racks h.places (card_rows racks b h.places h.cards then end_rows racks h.places from to) (moved racks b h (from, to)).answer
  pub budgeted-moves : (racks : List Rack) (b : ℕ) (h : Held) (k : ℕ)
      → Answered racks h.places (card_rows racks b h.places h.cards) (budgeted racks b h k).answer
  pub copy-list : (racks : List Rack) (places lent : List ℕ)
      → Answered racks places (table_rows racks places then (12, CardAway racks places) ∷ (13, TooShort lent (flat (copy_list places))) ∷ [])
      (copied racks places lent).answer
  pub shuffle-cards : (racks : List Rack) (b : ℕ) (h : Held)
      → Answered racks h.places (card_rows racks b h.places h.cards then (12, CardAway racks h.places) ∷ []) (shuffled racks b h).answer
  pub whole_run : (racks : List Rack) (b : ℕ) (h : Held) → Answered racks h.places (card_rows racks b h.places h.cards) (ran racks b h).answer
  pub read-file : (file caps places : List ℕ)
      → FileAnswered file (file_rows file then (17, NoRoom file caps places) ∷ []) (read file caps places).answer
  pub write-file : (racks : List Rack) (b : ℕ) (places cards lent : List ℕ)
      → Answered racks places (card_rows racks b places cards then (19, TooShort lent (file_for racks b places cards)) ∷ [])
      (filed racks b places cards lent).answer
  -- a job is read from the reader's position on: the whole file from the start, and 15 where the position lies behind the end
  pub read_job : (reader : Reader) (caps places : List ℕ) (job : JobFile) (caps' places' : List ℕ) → JobRead reader caps places job caps' places'
      → FileAnswered (ahead reader) (file_rows (ahead reader) then (17, NoRoom (ahead reader) caps places) ∷ []) job.answer
  pub from_start : (reader : Reader) → reader.at ≡ 0 → ahead reader ≡ reader.file.now
  pub behind-end : (reader : Reader) (caps places : List ℕ) → length reader.file.now ≤ reader.at → (read (ahead reader) caps places).answer.number ≡ 15
  -- a text that says `refused 5` is written like any other: the listing's own number has no place
  pub list_job : (file lent : List ℕ)
      → Given (printed file lent).answer.number ((13, TooShort lent (listing file)) ∷ []) × ((printed file lent).answer.place ≡ 0)
  -- one numeral of a file: 14, 20, 15, or its value by its groups and the position behind the last
  pub form : (file : List ℕ) (at : ℕ) → Given (numeral file at).number (form_rows file at)
  pub ends : (file : List ℕ) (at : ℕ) → (numeral file at).number ≡ 0 → (i : ℕ) × EndsWith file at i
  pub value : (file : List ℕ) (at i : ℕ) → EndsWith file at i → numeral file at ≡ record { number = 0; value = value_of file at i; next = at + i + 1 }
  -- the program looks at 18 before all else; its text says `refused n` exactly when condition n holds, or is that of a run, which is no such line
  pub shelve-refuses : (file : List ℕ) (n : ℕ) → (listing file ≡ refused_line n) ↔ Holds n ((18, FileTooLarge file) ∷ file_rows file)
  pub run_no_refusal : (racks : List Rack) (b : ℕ) (h : Held) (n : ℕ) → run_text racks b h ≢ refused_line n
  pub shelve-runs : (file : List ℕ) → None ((18, FileTooLarge file) ∷ file_rows file) → listing file ≡ run_text (file_racks file) (file_bytes file) (file_held file)
  -- a file that is read without refusal gives a job that 1 to 6 do not refuse (`EveryCall` says of such a job that every call takes it): what the lists hold
  -- at their fronts, B and the card bytes
  pub read-accepted : (file caps places : List ℕ) → (read file caps places).answer.number ≡ 0
      → let r = read file caps places in Accepted (take r.racks r.caps) r.bytes (held (take r.slots r.places) r.cards)
  -- the words of the conditions: N and the m_p are those of the capacities lent, S = total + N
  pub capacities : (caps : List ℕ) → (length (of_caps caps) ≡ length caps) × (slots (of_caps caps) ≡ total (of_caps caps) + length caps)
  pub users-lent : (caps : List ℕ) (p : ℕ) → p < length caps → users (of_caps caps) p ≡ get_or caps p 0
  -- the rack of a slot begins at the slot or before and ends behind it, before the next one's first
  pub rack : (racks : List Rack) (g p : ℕ) → g < slots racks
      → (rack_of racks g ≡ p) ↔ ((p < length racks) × (base racks p ≤ g) × (g < base racks (suc p)))
  -- and the slot question's user slots are those of condition 5
  pub user : (racks : List Rack) (g : ℕ) → (is_user racks g ≡ true) ↔ UserSlot racks g

-- a refusal: the number of an answer and its place, and no counts
abbrev pub refused_as : Answer → Answer
refused_as a = record { number = a.number; place = a.place; tally = no_counts }

-- what each call leaves on a refusal, all of it
pub record Refusals : Type 0 where
  pub check-table : (racks : List Rack) (places : List ℕ) → (checked racks places).number ≢ 0
      → checked racks places ≡ refused_as (checked racks places)
  pub slot_question : (racks : List Rack) (places : List ℕ) (g : ℕ) → (asked racks places g).answer.number ≢ 0
      → asked racks places g ≡ record { answer = refused_as (asked racks places g).answer; slot = nothing }
  pub phase-plan : (racks : List Rack) (places lent : List ℕ) → (planned racks places lent).answer.number ≢ 0
      → planned racks places lent ≡ record { answer = refused_as (planned racks places lent).answer; lent = lent }
  pub one-move : (racks : List Rack) (b : ℕ) (h : Held) (from to : ℕ) → (moved racks b h (from, to)).answer.number ≢ 0
      → moved racks b h (from, to) ≡ record { answer = refused_as (moved racks b h (from, to)).answer; held = h }
  pub budgeted-moves : (racks : List Rack) (b : ℕ) (h : Held) (k : ℕ) → (budgeted racks b h k).answer.number ≢ 0
      → budgeted racks b h k ≡ record { answer = refused_as (budgeted racks b h k).answer; held = h }
  pub copy-list : (racks : List Rack) (places lent : List ℕ) → (copied racks places lent).answer.number ≢ 0
      → copied racks places lent ≡ record { answer = refused_as (copied racks places lent).answer; lent = lent }
  pub shuffle-cards : (racks : List Rack) (b : ℕ) (h : Held) → (shuffled racks b h).answer.number ≢ 0
      → shuffled racks b h ≡ record { answer = refused_as (shuffled racks b h).answer; held = h }
  pub whole_run : (racks : List Rack) (b : ℕ) (h : Held) → (ran racks b h).answer.number ≢ 0
      → ran racks b h ≡ record { answer = refused_as (ran racks b h).answer; held = h }
  pub read-file : (file caps places : List ℕ) → (read file caps places).answer.number ≢ 0
      → read file caps places
      ≡ record { answer = refused_as (read file caps places).answer; racks = 0; bytes = 0; slots = 0; caps = caps; places = places; start = 0; cards = [] }
  pub write-file : (racks : List Rack) (b : ℕ) (places cards lent : List ℕ) → (filed racks b places cards lent).answer.number ≢ 0
      → filed racks b places cards lent ≡ record { answer = refused_as (filed racks b places cards lent).answer; size = 0; lent = lent }
  pub read_job : (reader : Reader) (caps places : List ℕ) (job : JobFile) (caps' places' : List ℕ) → JobRead reader caps places job caps' places' → job.answer.number ≢ 0
      → job_seen (job, caps', places') ≡ (refused_as job.answer, 0, 0, 0, 0, [], caps, places)
  -- a numeral that is refused leaves the position where it was
  pub step-at : (file : List ℕ) (at n : ℕ) (step : Step) → Stepped file at step → n ≢ 0 → (numeral file at).number ≡ n → (refused step.numeral ≡ placeless n) × (step.at ≡ at)
  pub next : (before after : Reader) (x : Result Numeral given.Refusal) (n : ℕ) → Next before x after → n ≢ 0 → (numeral before.file.now before.at).number ≡ n
      → (refused x ≡ placeless n) × (after.file ≡ before.file) × (after.at ≡ before.at)
  pub list_job : (file lent : List ℕ) → (printed file lent).answer.number ≢ 0
      → printed file lent ≡ record { answer = refused_as (printed file lent).answer; size = 0; lent = lent }
