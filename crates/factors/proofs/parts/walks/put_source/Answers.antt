use Rattle.factors.proofs.Sourced.{put-source-is}
use Rattle.factors.proofs.parts.walks.put_source.Goals as goal

pub returns : goal.returns
returns c = put-source-is _ _ _ _ c.named_slot-to.ensures
