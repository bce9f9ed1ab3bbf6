-- what the table's container says of its pool, and what the journal's inverses keep
use Rattle.std.proofs.Common.{◌<◌, map, length, sym, subst}
use Rattle.std.proofs.lemmas.List.{length-map}
use Rattle.mi_database.specs.LinkedData.{LinkedData, data_seen}
use Rattle.mi_database.specs.Kept.{NodesAreKept}
use Rattle.mi_database.proofs.StateLemmas.{within_containers, holds_at}
use Rattle.mi_database.proofs.KeptLemmas.{nodes_kept}
use Rattle.mi_database.proofs.linked.Linked.keeps_nodes.Goals as goal

pub returns : goal.returns
returns g c =
    let a = c.self.inside in
    let h : LinkedData = data_seen a.catalog (map g.C.Container.plain a.containers.items) a.journal a.revision
    (map g.C.Container.held a.containers.items) (map g.C.Container.secrets a.containers.items) in
    let listed : c.args.n < length a.catalog.tables = subst (λ (q : LinkedData). c.args.n < length q.catalog.tables) (sym c.self.view_is) c.requires in
    let within : c.args.n < length a.containers.items =
    within_containers g.C.Container.shape g.C.Container.plain a.catalog a.containers.items a.journal.sessions a.revision c.args.n c.self.invariant.0 listed in
    subst (λ (q : LinkedData). NodesAreKept q c.args.n) c.self.view_is
    (nodes_kept _ h c.args.n c.self.invariant.0 (subst (λ m. c.args.n < m) (sym (length-map a.containers.items g.C.Container.plain)) within)
    (holds_at g.C.Container.held g.C.Container.plain a.containers.items c.args.n c.index.result.now within c.index.ensures c.keeps_nodes.ensures))
