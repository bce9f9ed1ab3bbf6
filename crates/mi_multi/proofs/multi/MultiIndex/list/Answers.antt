-- The list is by ids, by stamps or the index's own.
use Rattle.std.proofs.Common.{◌∙◌, ap, sym}
use Rattle.std.proofs.lemmas.Result.{IfOk-weaker}
use Rattle.mi_container.specs.Data.{listed, order_at}
use Rattle.mi_container.proofs.RestoreLemmas.{list_is}
use Rattle.mi_multi.proofs.ImagingLemmas.{few_orders}
use Rattle.mi_multi.proofs.RestoringLemmas.{goes_by_ids, sequenced_of}
use Rattle.mi_multi.proofs.multi.MultiIndex.list.Goals as goal

pub list_by_walk-requires : goal.list_by_walk-requires
list_by_walk-requires c =
    sequenced_of c.args.self.now.shape c.args.self.now.plain.orders c.args.index c.keeping.result
    c.keeps_rules.ensures.kinds c.requires.index c.keeping.ensures c.in-List.is

pub returns-in-Ids : goal.returns-in-Ids
returns-in-Ids c =
    let d = c.args.self.now.plain in let s = c.args.self.now.shape in let x = c.args.index in
    IfOk-weaker c.from_slice.result _ _
    (λ list is.
    is ∙ c.requires.ids
    ∙ sym (list_is d x (few_orders s d c.keeps_rules.ensures x c.requires.index)
    ∙ ap (listed x d.rows) (goes_by_ids (order_at d.orders x) c.keeping.result c.keeping.ensures c.in-Ids.is)))
    c.from_slice.ensures.items
