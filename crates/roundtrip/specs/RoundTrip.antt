-- What is said of the reader and the writer of job files together. Assumes nothing: these are definitions.
use Rattle.std.specs.Prelude.{List, ℕ, ◌<◌, length, get_or}

-- a file of bytes
abbrev pub Bytes : List ℕ → Type 0
Bytes file = (i : ℕ) → i < length file → get_or file i 0 < 256
