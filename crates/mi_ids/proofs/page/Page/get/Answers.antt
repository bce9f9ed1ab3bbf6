-- the bits and the node that are read
use Rattle.std.proofs.Common.{slice_index_or, rules}
use Rattle.mi_ids.proofs.PageLemmas.{got-none, got-some, any-default}
use Rattle.mi_ids.proofs.page.Page.get.Goals as goal

pub returns-then-self-slot-eq0 : goal.returns-then-self-slot-eq0
returns-then-self-slot-eq0 c = got-none c.args.self.now c.args.slot (search rules)

pub returns : goal.returns
returns c = got-some c.args.self.now c.args.slot (slice_index_or c.args.self.now.nodes c.args.slot c.index-self-slot.result) (search rules) (any-default c.args.self.now.nodes c.args.slot _ _ (search rules))
