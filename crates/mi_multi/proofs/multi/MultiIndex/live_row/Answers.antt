-- The live node of an id is that of its row.
use Rattle.std.proofs.Common.{sym, ◌∙◌}
use Rattle.mi_multi.proofs.PutCallLemmas.{live_of, gone_of}
use Rattle.mi_multi.proofs.multi.MultiIndex.live_row.Goals as goal

pub returns-in_err-node-clause-absent : goal.returns-in_err-node-clause-absent
returns-in_err-node-clause-absent c none =
    gone_of c.self.inside c.args.self.now c.self.view_is c.args.id (sym c.live.ensures ∙ c.in_err-node.was)

pub returns-clause-live : goal.returns-clause-live
returns-clause-live c =
    live_of c.self.inside c.args.self.now c.self.view_is c.args.id c.in_ok-node.node (sym c.live.ensures ∙ c.in_ok-node.was)
