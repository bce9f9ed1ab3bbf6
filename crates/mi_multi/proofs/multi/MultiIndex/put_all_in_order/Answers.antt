-- Each index is still as it was when its turn comes.
use Rattle.std.proofs.Common.{◌≡◌, ◌<◌, ap, sym, ◌∙◌, subst, List, ℕ, [], map, length, get_or, arith}
use Rattle.mi_model.specs.Table.{ListsEach}
use Rattle.mi_model.proofs.TableLaws.{all_get}
use Rattle.mi_container.specs.Data.{as_table, order_at, ids_of}
use Rattle.mi_container.specs.Data.Order.{ById}
use Rattle.mi_container.proofs.RestoreLemmas.{ordered_each, ordered_ids, ordered_now, ordered_early, ordered_more, ids_by_rows, kinds_long}
use Rattle.mi_multi.proofs.RestoringLemmas.{list_given, long_given}
use Rattle.mi_multi.proofs.multi.MultiIndex.put_all_in_order.Goals.{After-as_slice}
use Rattle.mi_multi.proofs.multi.MultiIndex.put_all_in_order.Goals as goal

module _ (c : After-as_slice) where
  abbrev lists : List (List ℕ)
  lists = map (λ v. v.items) c.args.lists.now

  few : c.loop-index.index < length c.args.lists.now
  few = c.loop-index-test.true

  few_lists : c.loop-index.index < length lists
  few_lists = let l = long_given c.args.lists.now in let f = few in omega (arith, l, f)

  given : c.as_slice.result.now ≡ get_or lists c.loop-index.index []
  given = list_given c.args.lists.now c.loop-index.index c.index-lists-index.result c.as_slice.result.now few c.index-lists-index.is c.as_slice.ensures.value

  count : length c.as_slice.result.now ≡ length c.args.ids.now
  count = ap (λ (l : List ℕ). length l) given ∙ all_get (λ l. length l ≡ length c.args.ids.now) lists c.loop-index.index c.requires.counts few_lists

  ids : order_at c.args.self.now.plain.orders c.loop-index.index ≡ ById → c.as_slice.result.now ≡ ids_of c.args.self.now.plain.rows
  ids by = given ∙ c.requires.by_id c.loop-index.index (let l = few in let n = c.requires.long in omega (arith, l, n)) by

pub put_in_order-requires-clause-each : goal.put_in_order-requires-clause-each
put_in_order-requires-clause-each c =
    ordered_each c.loop-index.index c.args.most (lists c) c.args.self.now.plain c.loop-index.self.plain c.loop-index.invariant.ordered
    c.as_slice.result.now (subst (ListsEach (as_table c.args.self.now.plain)) (sym (given c))
    (all_get (ListsEach (as_table c.args.self.now.plain)) (lists c) c.loop-index.index c.requires.each (few_lists c)))

pub put_in_order-requires-clause-by_id : goal.put_in_order-requires-clause-by_id
put_in_order-requires-clause-by_id c =
    ordered_ids c.loop-index.index c.args.most (lists c) c.args.self.now.plain c.loop-index.self.plain c.loop-index.invariant.ordered
    c.as_slice.result.now (ids c)

pub put_in_order-requires-clause-ids : goal.put_in_order-requires-clause-ids
put_in_order-requires-clause-ids c = c.requires.ids ∙ sym (ids_by_rows c.args.self.now.plain c.loop-index.self.plain c.loop-index.invariant.ordered.rows)

pub put_in_order-requires-clause-by_ids : goal.put_in_order-requires-clause-by_ids
put_in_order-requires-clause-by_ids c =
    ordered_now c.loop-index.index c.args.most (lists c) c.args.self.now.plain c.loop-index.self.plain c.loop-index.invariant.ordered
    (let l = few c in let n = c.requires.long in
    let k = kinds_long c.args.self.now.shape.indexes c.args.self.now.plain.orders c.keeps_rules.ensures.kinds in omega (arith, l, n, k))
    c.requires.by_ids

pub put_in_order-requires-clause-low : goal.put_in_order-requires-clause-low
put_in_order-requires-clause-low c =
    ordered_early c.loop-index.index c.args.most (lists c) c.args.self.now.plain c.loop-index.self.plain c.loop-index.invariant.ordered
    (length c.args.ids.now) c.requires.low

pub put_in_order-requires-clause-early : goal.put_in_order-requires-clause-early
put_in_order-requires-clause-early c =
    let a = c.loop-index.invariant.ordered.arrivals in let e = c.requires.early in omega (arith, a, e)

pub loop-index-preserved : goal.loop-index-preserved
loop-index-preserved c =
    let o = (goal.at.loop-index-preserved c).After-as_slice in
    record {
      ordered = ordered_more c.loop-index.index c.args.most (lists o) c.args.self.now.plain c.loop-index.self.plain c.put_in_order.new.self.plain
          c.loop-index.invariant.ordered
          (let l = few o in let n = c.requires.long in
          let k = kinds_long c.args.self.now.shape.indexes c.args.self.now.plain.orders c.keeps_rules.ensures.kinds in omega (arith, l, n, k))
          c.put_in_order.ensures.same (c.put_in_order.ensures.list ∙ given o)
          c.put_in_order.ensures.low;
      shape = c.put_in_order.ensures.shape ∙ c.loop-index.invariant.shape;
      secrets = c.put_in_order.ensures.secrets ∙ c.loop-index.invariant.secrets;
    }
