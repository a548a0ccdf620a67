-- Reader and writer undo each other: `round_trip`. Assumes nothing.
use mathlib.Core.Path.{◌≡◌, sym, ap, ◌∙◌}
use mathlib.Core.List.{List}
use Prim.Native.Nat.{ℕ}
use lib.ListN.{take}
use Rattle.racks.specs.Racks.{of_caps}
use Rattle.moves.specs.Moves.{held}
use Rattle.parsing.specs.File.{Read, read_m, file_bytes, file_places, file_cards}
use Rattle.jobwriter.specs.Writing.{file_for}
use Rattle.roundtrip.proofs.ReadBack.{read_back, file-room}
use Rattle.roundtrip.proofs.Calls.{read-written, file_again, written_read}
use Rattle.conduct.specs.Accepted.{Accepted}
use Rattle.demands.specs.RoundTrip.{RoundTrip}

-- two accepted jobs with one file
one_job : (caps caps' : List ℕ) (b b' : ℕ) (places places' cards cards' : List ℕ) → Accepted caps b (held places cards) → Accepted caps' b' (held places' cards')
    → file_for (of_caps caps) b places cards ≡ file_for (of_caps caps') b' places' cards' → (caps ≡ caps') × (b ≡ b') × (places ≡ places') × (cards ≡ cards')
one_job caps caps' b b' places places' cards cards' a a' e =
    let k = read_back caps b places cards a in
    let k' = read_back caps' b' places' cards' a' in (
      sym k.caps-are ∙ ap (λ (f : List ℕ). (read_m f).values) e ∙ k'.caps-are,
      sym k.bytes-are ∙ ap file_bytes e ∙ k'.bytes-are,
      sym k.places-are ∙ ap file_places e ∙ k'.places-are,
      sym k.cards-are ∙ ap file_cards e ∙ k'.cards-are,
    )

pub round_trip : RoundTrip
round_trip =
    record {
      read-written = λ caps b places cards lent r lent' caps₀ places₀ w z. read-written caps b places cards lent r lent' w z caps₀ places₀;
      written_read = λ file caps₀ places₀ lent bytes z. written_read file caps₀ places₀ bytes z lent;
      enough = file-room;
      one-to-one = one_job;
      one_form = λ file file' caps₀ places₀ bytes bytes' z e.
          sym (file_again file caps₀ places₀ bytes z)
          ∙ ap (λ (o : Read). file_for (of_caps (take o.racks o.caps)) o.bytes (take o.slots o.places) o.cards) e
          ∙ file_again file' caps₀ places₀ bytes' (sym (ap (λ (o : Read). o.answer.number) e) ∙ z);
    }
