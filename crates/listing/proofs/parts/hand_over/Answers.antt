use Rattle.listing.proofs.Handing.{handed-13, handed-0}
use Rattle.listing.proofs.parts.hand_over.Goals as goal

pub returns-then-out-text : goal.returns-then-out-text
returns-then-out-text c = handed-13 c.args.text.now c.args.out.now c.if-out-text.true

pub returns : goal.returns
returns c = handed-0 c.args.text.now c.args.out.now _ _ c.if-out-text.false c.put_text.ensures
