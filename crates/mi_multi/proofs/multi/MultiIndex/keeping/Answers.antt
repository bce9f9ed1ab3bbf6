-- The order of the index is that of its kind and its parts.
use Rattle.std.proofs.Common.{◌∙◌, ap, sym}
use Rattle.mi_catalog.specs.declared.index.IndexKind.{IndexKind}
use Rattle.mi_catalog.specs.Shape.{index_at}
use Rattle.mi_container.specs.Changes.{sorted_order}
use Rattle.mi_multi.specs.Physical.{order_of}
use Rattle.mi_multi.specs.Restoring.{keeping_of}
use Rattle.mi_multi.proofs.RestoringLemmas.{order_kept}
use Rattle.mi_multi.proofs.multi.MultiIndex.keeping.Goals as goal

pub returns-in-Sequenced : goal.returns-in-Sequenced
returns-in-Sequenced c =
    let o = order_kept c.self.inside c.args.self.now c.self.view_is c.args.index c.requires in
    sym (ap keeping_of o.1 ∙ ap (λ (k : IndexKind). keeping_of (order_of k (index_at c.self.inside.schema c.args.index).parts o.0)) (sym c.kind.ensures ∙ c.in-Sequenced.is))

pub returns-in-Hashed : goal.returns-in-Hashed
returns-in-Hashed c =
    let o = order_kept c.self.inside c.args.self.now c.self.view_is c.args.index c.requires in
    sym (ap keeping_of o.1 ∙ ap (λ (k : IndexKind). keeping_of (order_of k (index_at c.self.inside.schema c.args.index).parts o.0)) (sym c.kind.ensures ∙ c.in-Hashed.is))

pub returns-in-Ordered : goal.returns-in-Ordered
returns-in-Ordered c =
    let o = order_kept c.self.inside c.args.self.now c.self.view_is c.args.index c.requires in
    c.by_parts.ensures ∙ ap (λ ps. keeping_of (sorted_order ps)) c.parts.ensures
    ∙ sym (ap keeping_of o.1 ∙ ap (λ (k : IndexKind). keeping_of (order_of k (index_at c.self.inside.schema c.args.index).parts o.0)) (sym c.kind.ensures ∙ c.in-Ordered.is))

pub returns-in-Ranked : goal.returns-in-Ranked
returns-in-Ranked c =
    let o = order_kept c.self.inside c.args.self.now c.self.view_is c.args.index c.requires in
    c.by_parts-in-Ranked.ensures ∙ ap (λ ps. keeping_of (sorted_order ps)) c.parts-in-Ranked.ensures
    ∙ sym (ap keeping_of o.1 ∙ ap (λ (k : IndexKind). keeping_of (order_of k (index_at c.self.inside.schema c.args.index).parts o.0)) (sym c.kind.ensures ∙ c.in-Ranked.is))
