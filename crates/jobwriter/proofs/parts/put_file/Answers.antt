use mathlib.Core.List.{◌++◌}
use mathlib.Core.Path.{◌∙◌}
use Rattle.std.proofs.Common.{rules}
use native.Mathlib.Omega.{arith}
use lib.ListN.{length}
use Rattle.counting.specs.Lists.{each}
use Rattle.racks.specs.Job.{racks_of}
use Rattle.racks.proofs.Jobs.{sound-racks, sound-count}
use Rattle.jobwriter.specs.Writing.{numeral_of, numerals_of, cap_of, file_entry}
use Rattle.jobwriter.specs.parts.Puts.{Put}
use Rattle.jobwriter.proofs.Puts.{put_then}
use Rattle.jobwriter.proofs.Files.{caps-given, entries-given, room-count, room-bytes, room-caps, room-entries, room-cards, file-put}
use Rattle.jobwriter.proofs.parts.put_file.Goals as goal
use Rattle.jobwriter.proofs.parts.put_file.Goals.{After-put_numbers-next, After-put_numbers-next-2, After-put_number-next, After-put_number-next-2}

-- N is put
count : (c : After-put_number-next) → Put (numeral_of (length (racks_of c.args.job))) c.args.out.now 0 c.put_number-next.new.out c.put_number-next.result
count c = rw (sound-racks _ c.requires.0.sound) at c.put_number-next.ensures

-- and B
bytes : (c : After-put_number-next-2) → Put (numeral_of (length (racks_of c.args.job)) ++ numeral_of c.args.b) c.args.out.now 0 c.put_number-next-2.new.out c.put_number-next-2.result
bytes c = put_then ((rw (sound-racks _ c.requires.0.sound) at c.put_number-next.ensures)) c.put_number-next-2.ensures

-- and the m_p
caps : (c : After-put_numbers-next) → Put ((numeral_of (length (racks_of c.args.job)) ++ numeral_of c.args.b) ++ numerals_of (each cap_of (racks_of c.args.job))) c.args.out.now 0 c.put_numbers-next.new.out c.put_numbers-next.result
caps c =
    put_then (put_then (rw (sound-racks _ c.requires.0.sound) at c.put_number-next.ensures) c.put_number-next-2.ensures)
    (c.put_numbers-next.ensures (each cap_of (racks_of c.args.job)) (caps-given c.requires.0.sound (λ p h. search rules) (λ p x h e. search rules)))

-- and the entries
entries : (c : After-put_numbers-next-2) → Put (numerals_of (each file_entry c.args.places.now)) c.put_numbers-next.new.out c.put_numbers-next.result c.put_numbers-next-2.new.out c.put_numbers-next-2.result
entries c =
    c.put_numbers-next-2.ensures (each file_entry c.args.places.now) (entries-given c.args.places.now c.requires.0.short (λ g h. search rules) (λ g x h e. search rules))

pub overflow_cast-job : goal.overflow_cast-job
overflow_cast-job c = omega (arith, sound-count _ c.requires.0.sound)

pub put_number-next-requires : goal.put_number-next-requires
put_number-next-requires c = (omega (arith, sound-count _ c.requires.0.sound), room-count c.requires.0 c.args.cards.now c.args.out.now c.requires.1 c.requires.2)

pub put_number-next-requires-2 : goal.put_number-next-requires-2
put_number-next-requires-2 c = (omega (arith, c.requires.0.bytes), room-bytes c.requires.0 c.args.cards.now c.args.out.now c.requires.1 c.requires.2 (count (goal.at.put_number-next-requires-2 c).After-put_number-next))

pub put_numbers-next-requires : goal.put_numbers-next-requires
put_numbers-next-requires c = (
  each cap_of (racks_of c.args.job),
  caps-given c.requires.0.sound (λ p h. search rules) (λ p x h e. search rules),
  room-caps c.requires.0 c.args.cards.now c.args.out.now c.requires.1 c.requires.2 (bytes (goal.at.put_numbers-next-requires c).After-put_number-next-2),
)

pub put_numbers-next-requires-2 : goal.put_numbers-next-requires-2
put_numbers-next-requires-2 c = (
  each file_entry c.args.places.now,
  entries-given c.args.places.now c.requires.0.short (λ g h. search rules) (λ g x h e. search rules),
  room-entries c.requires.0 c.args.cards.now c.args.out.now c.requires.1 c.requires.2 (caps (goal.at.put_numbers-next-requires-2 c).After-put_numbers-next),
)

pub put-requires : goal.put-requires
put-requires c =
    room-cards c.requires.0 c.args.cards.now c.args.out.now c.requires.1 c.requires.2 (caps (goal.at.put-requires c).After-put_numbers-next) (entries (goal.at.put-requires c).After-put_numbers-next-2)

pub returns : goal.returns
returns c =
    c.put.ensures ∙ file-put c.requires.0 c.args.cards.now c.args.out.now c.requires.1 c.requires.2 (caps (goal.at.returns c).After-put_numbers-next) (entries (goal.at.returns c).After-put_numbers-next-2)
