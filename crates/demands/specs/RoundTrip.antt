-- Reader and writer of job files undo each other: what `write_file` wrote is read as the job that was lent, and what `read_file` read is written as the
-- bytes that were read. So the writer is one to one, and no accepted file has two forms. And how long a file can be.
-- Assumes nothing: these are statements; `round_trip` in proofs/RoundTrip proves them.
use Rattle.std.specs.Prelude.{◌≡◌, List, ℕ, ◌+◌, ◌-◌, ◌*◌, ◌≤◌, length, take}
use Rattle.std.proofs.lemmas.List.Edits.{sets}
use Rattle.answers.specs.Answers.{placeless, answer, no_counts}
use Rattle.answers.specs.Answers.{SizeAnswer}
use Rattle.racks.specs.Racks.{of_caps}
use Rattle.moves.specs.Moves.{held}
use Rattle.parsing.specs.File.{read}
use Rattle.jobwriter.specs.Writing.{file_for, filed, WriteFile}
use Rattle.roundtrip.specs.RoundTrip.{Bytes}
use Rattle.conduct.specs.Accepted.{Accepted}

pub record RoundTrip : Type 0 where
  -- the first `size` bytes of the buffer that the writer leaves, read into lists with room: N, B, S, the capacities, the places and the card bytes
  -- are those that were lent to the writer
  pub read-written : (caps : List ℕ) (b : ℕ) (places cards lent : List ℕ) (r : SizeAnswer) (lent' caps₀ places₀ : List ℕ)
      → WriteFile caps b places cards lent r lent' → r.answer.number ≡ 0 → length caps ≤ length caps₀ → length places ≤ length places₀
      → read (take r.size lent') caps₀ places₀
      ≡ record {
        answer = answer (placeless 0) no_counts;
        racks = length caps;
        bytes = b;
        slots = length places;
        caps = sets caps₀ 0 caps;
        places = sets places₀ 0 places;
        start = r.size - length cards;
        cards = cards;
      }
  -- what the reader found in a file of bytes, written into a buffer with room: the bytes of that file, and its length
  pub written_read : (file caps₀ places₀ lent : List ℕ) → Bytes file → (read file caps₀ places₀).answer.number ≡ 0 → length file ≤ length lent
      → let r = read file caps₀ places₀ in
      filed (of_caps (take r.racks r.caps)) r.bytes (take r.slots r.places) r.cards lent
      ≡ record { answer = answer (placeless 0) no_counts; size = length file; lent = sets lent 0 file }
  -- the file of an accepted job has at most three bytes for N and B, two for each rack and each slot, and the card bytes: room that is always enough
  pub enough : (caps : List ℕ) (b : ℕ) (places cards : List ℕ) → Accepted caps b (held places cards)
      → length (file_for (of_caps caps) b places cards) ≤ 3 + 2 * (length caps + length places) + length cards
  -- two accepted jobs with one file are one job
  pub one-to-one : (caps caps' : List ℕ) (b b' : ℕ) (places places' cards cards' : List ℕ)
      → Accepted caps b (held places cards) → Accepted caps' b' (held places' cards')
      → file_for (of_caps caps) b places cards ≡ file_for (of_caps caps') b' places' cards'
      → (caps ≡ caps') × (b ≡ b') × (places ≡ places') × (cards ≡ cards')
  -- two files of bytes that are read alike, and not refused, are one file
  pub one_form : (file file' caps₀ places₀ : List ℕ) → Bytes file → Bytes file' → (read file caps₀ places₀).answer.number ≡ 0
      → read file caps₀ places₀ ≡ read file' caps₀ places₀ → file ≡ file'
