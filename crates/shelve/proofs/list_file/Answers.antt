use Rattle.std.specs.Prelude.{Ok, Err}
use Rattle.answers.specs.Answers.{size_answered}
use Rattle.listing.proofs.Files.{text-front}
use Rattle.shelve.proofs.list_file.Goals as goal

-- A buffer that is long enough has the whole listing at its front.
pub returns-in-Ok-clause-text : goal.returns-in-Ok-clause-text
returns-in-Ok-clause-text c = (text-front c.args.file.now c.args.out.now _ (size_answered (Ok c.in-Ok.size)) c.requires c.in-Ok.ensures).0

pub returns-in-Ok-clause-within : goal.returns-in-Ok-clause-within
returns-in-Ok-clause-within c = (text-front c.args.file.now c.args.out.now _ (size_answered (Ok c.in-Ok.size)) c.requires c.in-Ok.ensures).1

-- It is never refused: no text would be none.
pub returns-in-Err-clause-text : goal.returns-in-Err-clause-text
returns-in-Err-clause-text c = (text-front c.args.file.now c.args.out.now _ (size_answered (Err c.in-Err.field-0)) c.requires c.in-Err.ensures).0
