-- The node before a place is what the next one's link says, or the list's last.
use Rattle.std.proofs.Common.{ap, ◌∙◌}
use Rattle.mi_node.specs.declared.link.Link.{Link}
use Rattle.mi_list.proofs.ChangeLemmas.{back_some}
use Rattle.mi_list.proofs.list.List.back_at.Goals as goal

pub link-requires-clause-held : goal.link-requires-clause-held
link-requires-clause-held g c = (back_some c.args.self.now c.args.p.now c.requires.0 c.requires.1 c.in-Some.next c.requires.2 (c.requires.3 ∙ c.in-Some.is)).0

pub returns-in-Some : goal.returns-in-Some
returns-in-Some g c xs ys h e =
    ap (λ (y : Link). y.back) c.link.ensures ∙ (back_some c.args.self.now c.args.p.now xs ys c.in-Some.next h (e ∙ c.in-Some.is)).1
