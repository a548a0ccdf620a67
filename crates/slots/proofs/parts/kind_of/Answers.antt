use mathlib.Core.Path.{sym, ◌∙◌}
use Rattle.slots.specs.Slots.{kind_of}
use Rattle.slots.proofs.parts.kind_of.Goals as goal

pub returns-then-is_user : goal.returns-then-is_user
unfolding kind_of
returns-then-is_user c = rw (sym c.is_user.ensures ∙ c.if-is_user.true)

pub returns : goal.returns
unfolding kind_of
returns c = rw (sym c.is_user.ensures ∙ c.if-is_user.false)
