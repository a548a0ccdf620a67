use Prim.Native.Nat.{◌≤◌}
use mathlib.Core.Path.{◌≡◌, ◌∙◌}
use lib.ListN.{length}
use native.Mathlib.Omega.{arith}
use Rattle.counting.proofs.Tests.{bit_le}
use Rattle.std.proofs.Common.{rules}
use Rattle.counting.specs.Lists.{each}
use Rattle.racks.specs.Job.{racks_of}
use Rattle.racks.proofs.Jobs.{sound-count}
use Rattle.jobwriter.specs.Writing.{numerals_of, cap_of, file_entry}
use Rattle.counting.proofs.Tests.{bit-code}
use Rattle.jobwriter.proofs.Files.{caps-given, entries-given, numbers-size, caps-few, entries-few}
use Rattle.jobwriter.proofs.parts.numbers_size.Goals as goal
use Rattle.jobwriter.proofs.parts.numbers_size.Goals.{After-from-more, After-count_bytes-caps, After-count_bytes-entries}

-- a second group of B, or none
one : (c : After-from-more) → c.from-more.result ≤ 1
one c = bit_le _ _ (c.from-more.ensures ∙ bit-code _)

pub count_bytes-caps-requires : goal.count_bytes-caps-requires
count_bytes-caps-requires c = (
  each cap_of (racks_of c.args.job),
  caps-given c.requires.sound (λ p h. search rules) (λ p x h e. search rules),
  omega (arith, sound-count _ c.requires.sound),
)

pub count_bytes-entries-requires : goal.count_bytes-entries-requires
count_bytes-entries-requires c = (
  each file_entry c.args.places.now,
  entries-given c.args.places.now c.requires.short (λ g h. search rules) (λ g x h e. search rules),
  omega (arith, c.requires.few),
)

-- the m_p are counted
caps : (c : After-count_bytes-caps) → c.count_bytes-caps.result ≡ length (numerals_of (each cap_of (racks_of c.args.job)))
caps c =
    c.count_bytes-caps.ensures (each cap_of (racks_of c.args.job)) (caps-given c.requires.sound (λ p h. search rules) (λ p x h e. search rules))

-- and the entries
entries : (c : After-count_bytes-entries) → c.count_bytes-entries.result ≡ length (numerals_of (each file_entry c.args.places.now))
entries c =
    c.count_bytes-entries.ensures (each file_entry c.args.places.now) (entries-given c.args.places.now c.requires.short (λ g h. search rules) (λ g x h e. search rules))

pub overflow_add-result-2 : goal.overflow_add-result-2
overflow_add-result-2 c =
    omega (arith, one (goal.at.overflow_add-result-2 c).After-from-more, caps-few c.requires.sound, caps (goal.at.overflow_add-result-2 c).After-count_bytes-caps)

pub overflow_add-result-3 : goal.overflow_add-result-3
overflow_add-result-3 c =
    omega (arith, one (goal.at.overflow_add-result-3 c).After-from-more, caps-few c.requires.sound, entries-few c.requires, caps (goal.at.overflow_add-result-3 c).After-count_bytes-caps, entries (goal.at.overflow_add-result-3 c).After-count_bytes-entries)

pub returns : goal.returns
returns c =
    numbers-size (racks_of c.args.job) c.args.b _ _ _ c.args.places.now c.requires.sound.few c.requires.bytes (c.from-more.ensures ∙ bit-code _) (caps (goal.at.returns c).After-count_bytes-caps) (entries (goal.at.returns c).After-count_bytes-entries)
