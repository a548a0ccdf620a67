-- Laws of whole texts: the parts of a run's text one behind the other, the copy list in its array. Assumes nothing.
use mathlib.Core.Path.{◌≡◌, ap, sym, ◌∙◌}
use mathlib.Core.List.{List, ◌++◌}
use Prim.Native.Nat.{ℕ, ◌*◌, ◌≤◌}
use native.Mathlib.Omega.{arith}
use native.Mathlib.Nat.{sub-zero}
use lib.ListN.{length, take}
use Rattle.counting.proofs.Lists.{length-tabulate}
use Rattle.counting.proofs.Stores.{length-flat}
use Rattle.answers.specs.declared.Tally.{Tally}
use Rattle.racks.specs.Racks.{Rack, slots}
use Rattle.racks.specs.parts.Legal.{Legal, Spared}
use Rattle.racks.specs.Job.{racks_of}
use Rattle.racks.specs.declared.Job.{Job}
use Rattle.racks.proofs.Away.{aways-few}
use Rattle.tables.specs.parts.Tables.{Open}
use Rattle.moves.specs.Moves.{Held, held}
use Rattle.moves.specs.Phases.{phases}
use Rattle.carrying.specs.parts.Carrying.{unflat}
use Rattle.carrying.proofs.Flat.{pairs-part, pairs-all}
use Rattle.moves.proofs.Phases.{phases-pairs, phases-moves}
use Rattle.moves.proofs.FirstFit.{first-fit}
use Rattle.factors.specs.Copies.{copy_list}
use Rattle.factors.specs.parts.Chains.{Chained}
use Rattle.copies.specs.parts.Writes.{put_copies}
use Rattle.factors.proofs.Costs.{list_most}
use Rattle.copies.proofs.Writing.{length-put-copies}
use Rattle.shuffle.specs.Shuffle.{settled_held}
use Rattle.shuffle.specs.parts.Shuffled.{Shuffled}
use Rattle.runs.specs.Run.{gathered, counts}
use Rattle.gathering.specs.parts.Gathered.{LOG, PhasesMade}
use Rattle.runs.specs.parts.Ran.{phase_counts, Ran}
use Rattle.runs.proofs.Gathering.{all-counted, all-few}
use Rattle.gathering.proofs.Ending.{ends-chained, ends-long, ends-none, ends-ran}
use Rattle.texts.specs.Lines.{phase_lines, copies_line, cards_line, end_line}
use Rattle.texts.specs.parts.Writing.{Reaches, Wrote}
use Rattle.texts.proofs.Writing.{room-first, room_next, wrote_then}
use Rattle.runtexts.specs.RunText.{run_text}
use Rattle.runtexts.specs.parts.Logs.{phases_in, Readable}
use Rattle.runtexts.proofs.Phasing.{logged-phases, logged_readable}
use Rattle.runtexts.proofs.Settled.{settled-long}

-- the copy list in a lent list
module _ (places list after : List ℕ) (fits : 2 * length (copy_list places) ≤ length list) (e : after ≡ put_copies list 0 (copy_list places)) where
  -- which keeps its length
  pub copies-long : length after ≡ length list
  copies-long = ap length e ∙ length-put-copies list 0 (copy_list places)

  -- its copies, as they stand there
  pub copies-read : (n : ℕ) → n ≡ length (copy_list places) → unflat (take (2 * n) after) ≡ copy_list places
  unfolding put_copies
  copies-read n en = (rw sub-zero at (pairs-part after 0 (2 * n) (omega arith))) ∙ pairs-all after list 0 (2 * n) (copy_list places) e (omega (arith, length-flat (copy_list places))) (omega arith)

-- a legal job, and room for the text of its run
pub record Runs (racks : List Rack) (b : ℕ) (h : Held) (out : List ℕ) : Type 0 where
  pub legal : Legal racks h.places
  pub spared : Spared racks
  pub small : slots racks ≤ 4096
  pub long : length h.cards ≡ slots racks * b
  pub reaches : Reaches (run_text racks b h) 0 out

-- by the job
pub runs-first : {job : Job} {b : ℕ} {h : Held} {out racking : List ℕ} → Open job h.places racking → Spared (racks_of job)
    → length h.cards ≡ slots (racks_of job) * b → Reaches (run_text (racks_of job) b h) 0 out → Runs (racks_of job) b h out
runs-first o spared long room = record { legal = o.legal; spared = spared; small = o.sound.small; long = long; reaches = room }

-- the parts of that text, each behind the one before it
module _ {racks : List Rack} {b : ℕ} {h : Held} {out : List ℕ} (r : Runs racks b h out) where
  abbrev phases-part : List ℕ
  phases-part = phase_lines 1 (phases racks h.places)

  abbrev copies-part : List ℕ
  copies-part = copies_line (copy_list (gathered racks b h).places)

  abbrev cards-part : List ℕ
  cards-part = cards_line (slots racks) b (settled_held racks b (gathered racks b h)).cards

  abbrev end-part : List ℕ
  end-part = end_line (counts racks b h)

  three-room : Reaches (phases-part ++ copies-part ++ cards-part) 0 out
  unfolding run_text
  three-room = room-first (phases-part ++ copies-part ++ cards-part) end-part out 0 r.reaches

  two-room : Reaches (phases-part ++ copies-part) 0 out
  two-room = room-first (phases-part ++ copies-part) cards-part out 0 three-room

  -- the phases
  pub phases-room : Reaches (phase_lines 1 (phases racks h.places)) 0 out
  phases-room = room-first phases-part copies-part out 0 two-room

  module _ {h₁ : Held} {t : Tally} {log : List ℕ} (p : PhasesMade racks b h h₁ t log) where
    -- the phases are counted
    count-is : t.phases ≡ length (phases racks h.places)
    unfolding phase_counts
    count-is = ap (λ (x : Tally). x.phases) p.tally-is ∙ all-counted (phases-pairs (first-fit r.spared) r.legal)

    -- and can be read from a log with room for their ends
    pub put_readable : LOG ≤ length log → Readable t.phases log
    put_readable full =
        let fit = first-fit r.spared in
        let m = phases-moves fit r.legal in
        let a = aways-few racks h.places in
        logged_readable p.logged full t.phases count-is (omega (arith, count-is, all-few (phases-pairs fit r.legal), m, a, r.small)) (omega (arith, m, a, r.small))

    read_is : LOG ≤ length log → phase_lines 1 (phases_in t.phases log) ≡ phases-part
    read_is full = ap (phase_lines 1) (logged-phases p.logged full t.phases count-is)

    pub read-room : LOG ≤ length log → Reaches (phase_lines 1 (phases_in t.phases log)) 0 out
    read-room full = rw (read_is full) phases-room

    -- what they leave can be shuffled
    pub put-chained : Chained h₁.places
    put-chained = ends-chained racks b h r.legal r.spared r.small r.long h₁ t log p

    -- with cards for all slots
    pub put-long : length h₁.cards ≡ length h₁.places * b
    put-long = ends-long racks b h r.legal r.spared r.small r.long h₁ t log p

    pub put-none : t.copies ≡ 0
    put-none = ends-none racks b h r.legal r.spared r.small r.long h₁ t log p

    -- the log has room for the copy list
    pub put-fits : 2 * length (copy_list h₁.places) ≤ LOG
    put-fits = omega (arith, list_most put-chained, put-chained.small)

    copies-are : copies_line (copy_list h₁.places) ≡ copies-part
    copies-are = ap (λ (x : Held). copies_line (copy_list x.places)) p.held-is

    module _ (full : LOG ≤ length log) {out₁ : List ℕ} {p₁ : ℕ} (w₁ : Wrote (phase_lines 1 (phases_in t.phases log)) out 0 out₁ p₁) where
      one-wrote : Wrote phases-part out 0 out₁ p₁
      one-wrote = rw (read_is full) at w₁

      -- the copies
      pub copies-room : Reaches (copies_line (copy_list h₁.places)) p₁ out₁
      copies-room = rw copies-are (room_next copies-part one-wrote two-room)

      module _ {out₂ : List ℕ} {p₂ : ℕ} (w₂ : Wrote (copies_line (copy_list h₁.places)) out₁ p₁ out₂ p₂)
          {after : Tally} {places' cards' : List ℕ} (s : Shuffled b h₁.places h₁.cards t after places' cards') where
        two-wrote : Wrote (phases-part ++ copies-part) out 0 out₂ p₂
        two-wrote = wrote_then one-wrote (rw copies-are at w₂)

        ended : Ran racks b h (held places' cards') after
        ended = ends-ran racks b h r.legal r.spared r.small r.long h₁ t log p after places' cards' s

        places-long : length places' ≡ slots racks
        unfolding settled_held
        places-long = ap (λ (x : Held). length x.places) ended.held-is ∙ length-tabulate (slots racks) _

        -- the cards at the end are B bytes for each slot
        pub last-long : length cards' ≡ length places' * b
        last-long =
            ap (λ (x : Held). length x.cards) ended.held-is ∙ settled-long racks b h r.legal r.spared r.small r.long ∙ ap (λ (n : ℕ). n * b) (sym places-long)

        cards-are : cards_line (length places') b cards' ≡ cards-part
        cards-are = rw places-long (ap (λ (x : Held). cards_line (slots racks) b x.cards) ended.held-is)

        -- the cards
        pub cards-room : Reaches (cards_line (length places') b cards') p₂ out₂
        cards-room = rw cards-are (room_next cards-part two-wrote three-room)

        module _ {out₃ : List ℕ} {p₃ : ℕ} (w₃ : Wrote (cards_line (length places') b cards') out₂ p₂ out₃ p₃) where
          three-wrote : Wrote (phases-part ++ copies-part ++ cards-part) out 0 out₃ p₃
          three-wrote = wrote_then two-wrote (rw cards-are at w₃)

          end_is : end_line after ≡ end-part
          end_is = ap end_line ended.tally-is

          -- the end
          pub end-room : Reaches (end_line after) p₃ out₃
          unfolding run_text
          end-room = rw end_is (room_next end-part three-wrote r.reaches)

          -- all of it is written
          pub run-wrote : {out₄ : List ℕ} {p₄ : ℕ} → Wrote (end_line after) out₃ p₃ out₄ p₄ → Wrote (run_text racks b h) out 0 out₄ p₄
          unfolding run_text
          run-wrote w₄ = wrote_then three-wrote (rw end_is at w₄)
