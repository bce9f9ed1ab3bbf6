-- the node of a live entry
use Rattle.std.proofs.Common.{rules}
use Rattle.mi_ids.proofs.ids.Ids.live.Goals as goal

pub returns : goal.returns
returns c = search rules
