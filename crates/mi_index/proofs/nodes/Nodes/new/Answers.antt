-- A structure for each index, without nodes.
use Rattle.std.proofs.Common.{◌≡◌, List, ap, subst, ◌∙◌, length}
use Rattle.mi_catalog.specs.declared.index.Column.{Column}
use Rattle.mi_catalog.specs.declared.index.Index.{Index}
use Rattle.mi_node.specs.Pool.{no_nodes}
use Rattle.mi_index.specs.Opened.{AllOpenedFor}
use Rattle.mi_order.specs.declared.stored.Stored.{Stored}
use Rattle.mi_index.proofs.OpeningLemmas.{is_opened}
use Rattle.mi_index.proofs.nodes.Nodes.new.Goals as goal

pub returns : goal.returns
returns c =
    let s = c.args.schema.now in
    let secret = c.args.secret in
    let q = c.in_ok-structures.ensures in let xs = c.in_ok-structures.structures.items in
    let kinds : AllOpenedFor secret s.columns s.indexes 0 xs = subst (λ (l : List Index). AllOpenedFor secret s.columns l 0 xs)
    c.indexes.ensures (subst (λ (l : List Column). AllOpenedFor secret l c.indexes.result.now 0 xs) c.columns.ensures q.0) in
    let pool : c.with_slots.result ≡ no_nodes (length s.indexes) = c.with_slots.ensures ∙ ap (no_nodes {T = Stored}) c.index_count-slots.ensures in
    is_opened secret s xs c.with_slots.result pool kinds q.1
