-- the bits and the node that are written
use Rattle.std.proofs.Common.{rules}
use Rattle.mi_ids.proofs.PageLemmas.{put-slot, put-used}
use Rattle.mi_ids.proofs.page.Page.put.Goals as goal

pub returns-clause-slots : goal.returns-clause-slots
returns-clause-slots c = λ k w. put-slot c.args.self.now c.args.slot c.args.node c.requires (search rules) k

pub returns-clause-used : goal.returns-clause-used
returns-clause-used c = put-used c.args.self.now.present c.args.slot c.requires
