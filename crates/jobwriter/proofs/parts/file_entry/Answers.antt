use Rattle.jobwriter.proofs.Files.{entry_free, entry-held}
use Rattle.jobwriter.proofs.parts.file_entry.Goals as goal

pub returns-then-x-eq-FREE : goal.returns-then-x-eq-FREE
returns-then-x-eq-FREE c = entry_free _ c.if-x-eq-FREE.true

pub returns : goal.returns
returns c = entry-held _ c.if-x-eq-FREE.false
