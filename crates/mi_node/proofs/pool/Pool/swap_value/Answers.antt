-- The places say it of their map.
use Rattle.std.proofs.Common.{◌∙◌, ap, sym}
use Rattle.mi_node.specs.Pool.{Pooled, value_of, with_value}
use Rattle.mi_node.proofs.pool.Pool.swap_value.Goals as goal

pub returns-clause-value : goal.returns-clause-value
returns-clause-value g c = sym (ap (λ (p : Pooled g.row.T.Denot). value_of p c.args.node.name) c.self.view_is) ∙ c.swap_value.ensures.value

pub returns-clause-pool : goal.returns-clause-pool
returns-clause-pool g c = c.swap_value.ensures.nodes ∙ ap (λ (p : Pooled g.row.T.Denot). with_value p c.args.node.name c.args.value) c.self.view_is
