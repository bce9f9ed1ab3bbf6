-- The link of a node in the list says what stands behind it.
use Rattle.std.proofs.Common.{ap, ◌∙◌}
use Rattle.mi_node.specs.declared.link.Link.{Link}
use Rattle.mi_list.proofs.ChangeLemmas.{knows}
use Rattle.mi_list.proofs.list.List.next.Goals as goal

pub link-requires-clause-held : goal.link-requires-clause-held
link-requires-clause-held g c = (knows c.args.self.now c.args.p.now c.requires.0 c.args.node c.requires.1 c.requires.2).held

pub returns : goal.returns
returns g c xs ys h = ap (λ (l : Link). l.forth) c.link.ensures ∙ (knows c.args.self.now c.args.p.now xs c.args.node ys h).forth_is
