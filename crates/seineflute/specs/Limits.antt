-- The limits and marks that C and Rust are given. Assumes nothing: these are definitions.
use Rattle.racks.specs.Limits.{RACKS, BYTES, USERS, TOTAL, SLOTS, FREE, HAND}
use Rattle.runtexts.specs.RunText.{FILE}
use Rattle.listing.specs.Listing.{ENOUGH}
use Rattle.seineflute.specs.declared.Limits.{Limits}

-- each by its definition
abbrev pub limits : Limits
limits = record { racks = RACKS; bytes = BYTES; users = USERS; total = TOTAL; slots = SLOTS; free = FREE; hand = HAND; file = FILE; enough = ENOUGH }
