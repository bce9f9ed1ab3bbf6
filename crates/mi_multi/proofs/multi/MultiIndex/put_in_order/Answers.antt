-- An index that goes by the ids alone is in order; a sequenced one is of that kind.
use Rattle.std.proofs.Common.{◌<◌, ap, sym, ◌∙◌, length, arith}
use Rattle.mi_container.specs.Data.{listed, order_at}
use Rattle.mi_container.proofs.RestoreLemmas.{list_is, kinds_long}
use Rattle.mi_multi.proofs.RestoringLemmas.{goes_by_ids, sequenced_of}
use Rattle.mi_multi.proofs.multi.MultiIndex.put_in_order.Goals as goal

pub put_by_list-requires-clause-sequenced : goal.put_by_list-requires-clause-sequenced
put_by_list-requires-clause-sequenced c =
    sequenced_of c.args.self.now.shape c.args.self.now.plain.orders c.args.index c.keeping.result
    c.keeps_rules.ensures.kinds c.requires.index c.keeping.ensures c.in-List.is

pub returns-then-are_same-clause-list : goal.returns-then-are_same-clause-list
returns-then-are_same-clause-list c = c.requires.by_ids ∙ sym c.requires.ids ∙ sym (c.are_same.ensures.yes c.if-are_same.true)

pub returns-in-Ids-clause-list : goal.returns-in-Ids-clause-list
returns-in-Ids-clause-list c =
    let d = c.args.self.now.plain in let s = c.args.self.now.shape in
    let few : c.args.index < length d.orders = (let k = kinds_long s.indexes d.orders c.keeps_rules.ensures.kinds in let f = c.requires.index in omega (arith, k, f)) in
    let by = goes_by_ids (order_at d.orders c.args.index) c.keeping.result c.keeping.ensures c.in-Ids.is in
    list_is d c.args.index few ∙ ap (listed c.args.index d.rows) by ∙ sym (c.requires.by_id by)
