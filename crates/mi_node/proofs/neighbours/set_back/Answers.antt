-- The link of the node alone is set, and its back alone in it.
use Rattle.std.proofs.Common.{ap, sym, ◌∙◌}
use Rattle.mi_node.specs.Pool.{with_link}
use Rattle.mi_node.specs.Neighbours.{with_back, with_back_if}
use Rattle.mi_node.proofs.neighbours.set_back.Goals as goal

pub returns-in-Some : goal.returns-in-Some
unfolding with_back
returns-in-Some g c =
    c.set_link.ensures ∙ ap (λ l. with_link c.args.p.now c.in-Some.node.name c.args.slot (record l { back = c.args.back })) c.link-link.ensures
    ∙ ap (λ o. with_back_if c.args.p.now c.args.slot o c.args.back) (sym c.in-Some.is)
