use Rattle.shuffler.proofs.Settling.{entry_free, entry_named}
use Rattle.shuffler.proofs.parts.entry_by.Goals as goal

pub returns-then-source-eq-FREE : goal.returns-then-source-eq-FREE
returns-then-source-eq-FREE c = entry_free _ _ c.if-source-eq-FREE.true

pub returns : goal.returns
returns c = entry_named _ _ c.if-source-eq-FREE.false
