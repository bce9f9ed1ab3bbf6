-- An id has a live node exactly where it is of a row.
use Rattle.std.proofs.Common.{◌≡◌, ap, ◌∙◌, subst}
use Rattle.std.specs.Option.{is_some}
use Rattle.mi_model.specs.Table.{has as has_row}
use Rattle.mi_container.specs.Data.{as_table}
use Rattle.mi_ids.specs.IdMap.{live_node}
use Rattle.mi_multi.specs.Seen.{Seen}
use Rattle.mi_multi.proofs.AcceptLemmas.{has_live}
use Rattle.mi_multi.proofs.multi.MultiIndex.has.Goals as goal

pub returns : goal.returns
returns c =
    let i = c.self.inside in
    c.is_some.ensures ∙ ap is_some c.live.ensures
    ∙ subst (λ (w : Seen). is_some (live_node i.ids.entries c.args.id) ≡ has_row (as_table w.plain) c.args.id)
    c.self.view_is (has_live i.schema i.ids.entries i.nodes.pool i.nodes.structures.items i.next i.arrivals c.args.id)
