-- The rows are in, and each index is in the order of its list; then the counters are set.
use Rattle.std.proofs.Common.{◌≡◌, ◌≤◌, ◌∙◌, ap, sym, subst, List, [], ℕ, map, length, arith}
use Rattle.std.specs.List.{AllByRecursion}
use Rattle.mi_container.specs.Restore.{HasRows, IsListsFault}
use Rattle.mi_container.proofs.RestoreLemmas.{opened_rows, ids_of_rows, lists_fault, AllLow, rows_low, rows_counted, filled_data, filled_table, kinds_long}
use Rattle.mi_container.specs.Data.{Data, as_table, ids_of, plain_row, IsData}
use Rattle.mi_model.specs.Table.{ListsEach}
use Rattle.mi_multi.specs.Seen.{Seen}
use Rattle.mi_multi.proofs.multi.MultiIndex.fill.Goals.{After-as_slice-in-Ok}
use Rattle.mi_catalog.specs.Shape.{Shape}
use Rattle.mi_multi.proofs.RestoringLemmas.{long_given, ids_count}
use Rattle.mi_multi.proofs.multi.MultiIndex.fill.Goals as goal

pub add_rows-requires-clause-none : goal.add_rows-requires-clause-none
add_rows-requires-clause-none c =
    subst (HasRows []) (sym c.set_counters.ensures.plain)
    (opened_rows c.args.self.now.shape c.args.self.now.plain c.keeps_rules.ensures c.requires.none c.requires.kept)

pub check_lists-requires-clause-ids : goal.check_lists-requires-clause-ids
check_lists-requires-clause-ids c =
    c.as_slice-2.ensures.value
    ∙ ids_of_rows c.args.rows.items c.add_rows.new.self.plain c.in_ok-ids.ids.items c.in_ok-add_rows.ensures.added
    (c.in_ok-ids.ensures ∙ ap (map (λ r. r.0)) c.as_slice.ensures.value)

pub returns-in-Err-clause-fault : goal.returns-in-Err-clause-fault
returns-in-Err-clause-fault c =
    let s = c.args.self.now.shape in
    let shape = c.add_rows.ensures.shape ∙ c.set_counters.ensures.shape in
    let lists : List (List ℕ) = map (λ v. v.items) c.args.lists.now in
    lists_fault s (record { rows = c.args.rows.items; lists = lists; next = c.args.next; arrivals = c.args.arrivals })
    (as_table c.add_rows.new.self.plain) c.in_ok-add_rows.ensures.added.rows_are c.in-Err.fault
    (subst (λ (q : Shape). IsListsFault q (as_table c.add_rows.new.self.plain) lists c.in-Err.fault) shape c.in-Err.ensures.fault)

pub set_counters-requires-in-Ok-clause-data : goal.set_counters-requires-in-Ok-clause-data
set_counters-requires-in-Ok-clause-data c =
    let s = c.add_rows.new.self.shape in let d = c.add_rows.new.self.plain in
    subst (λ k. IsData s (record d { next = k; arrivals = 9223372036854775807 }))
    (sym (ap (λ (w : Seen). w.plain.next) c.set_counters-in-Ok.view_is))
    (rows_counted s c.args.rows.items d 9223372036854775807 c.keeps_rules-in-Ok.ensures c.in_ok-add_rows.ensures.added
    (let l = c.requires.most in omega (arith, l)))

-- as the rows came in
module _ (c : After-as_slice-in-Ok) where
  count : length c.as_slice-in-Ok.result.now ≡ length c.args.rows.items
  count = ap (λ (q : List ℕ). length q) (c.as_slice-in-Ok.ensures.value ∙ c.in_ok-ids.ensures ∙ ap (map (λ r. r.0)) c.as_slice.ensures.value)
      ∙ ids_count c.args.rows.items

  ids : c.as_slice-in-Ok.result.now ≡ ids_of c.set_counters-in-Ok-2.new.self.plain.rows
  ids = c.as_slice-in-Ok.ensures.value
      ∙ ids_of_rows c.args.rows.items c.add_rows.new.self.plain c.in_ok-ids.ids.items c.in_ok-add_rows.ensures.added
      (c.in_ok-ids.ensures ∙ ap (map (λ r. r.0)) c.as_slice.ensures.value)
      ∙ sym (ap (λ (q : Data). ids_of q.rows) c.set_counters-in-Ok-2.ensures.plain)

  rows_were : map plain_row c.set_counters-in-Ok-2.new.self.plain.rows ≡ c.args.rows.items
  rows_were = ap (λ (q : Data). map plain_row q.rows) c.set_counters-in-Ok-2.ensures.plain ∙ c.in_ok-add_rows.ensures.added.rows_are

  orders_long : length c.set_counters-in-Ok-2.new.self.plain.orders ≡ length c.args.lists.now
  orders_long =
      let k = kinds_long c.add_rows.new.self.shape.indexes c.add_rows.new.self.plain.orders c.keeps_rules-in-Ok.ensures.kinds in
      let f = ap (λ (q : Shape). length q.indexes) (c.add_rows.ensures.shape ∙ c.set_counters.ensures.shape) in
      let l = c.requires.long in
      let e = ap (λ (q : Data). length q.orders) c.set_counters-in-Ok-2.ensures.plain in omega (arith, k, f, l, e)

  below : c.set_counters-in-Ok-2.new.self.plain.next ≤ c.args.next
  below =
      let e = ap (λ (q : Data). q.next) c.set_counters-in-Ok-2.ensures.plain in
      let v = ap (λ (w : Seen). w.plain.next) c.set_counters-in-Ok.view_is in
      let n = c.in_ok-add_rows.ensures.next in omega (arith, e, v, n)

pub put_all_in_order-requires-clause-ids : goal.put_all_in_order-requires-clause-ids
put_all_in_order-requires-clause-ids c = ids ((goal.at.put_all_in_order-requires-clause-ids c).After-as_slice-in-Ok)

pub put_all_in_order-requires-clause-counts : goal.put_all_in_order-requires-clause-counts
put_all_in_order-requires-clause-counts c =
    subst (λ n. AllByRecursion (λ (l : List ℕ). length l ≡ n) (map (λ v. v.items) c.args.lists.now))
    (ap (λ (q : List ℕ). length q) (c.as_slice-2.ensures.value ∙ sym c.as_slice-in-Ok.ensures.value)) c.in-Ok.ensures.counts

pub put_all_in_order-requires-clause-each : goal.put_all_in_order-requires-clause-each
put_all_in_order-requires-clause-each c =
    let lists : List (List ℕ) = map (λ v. v.items) c.args.lists.now in
    subst (λ (q : Data). AllByRecursion (ListsEach (as_table q)) lists) (sym c.set_counters-in-Ok-2.ensures.plain) c.in-Ok.ensures.each

pub put_all_in_order-requires-clause-low : goal.put_all_in_order-requires-clause-low
put_all_in_order-requires-clause-low c =
    let o = (goal.at.put_all_in_order-requires-clause-low c).After-as_slice-in-Ok in
    subst (λ k. AllLow k c.set_counters-in-Ok-2.new.self.plain) (sym (count o))
    (subst (AllLow (length c.args.rows.items)) (sym c.set_counters-in-Ok-2.ensures.plain)
    (rows_low c.add_rows.new.self.shape c.args.rows.items c.add_rows.new.self.plain c.keeps_rules-in-Ok.ensures c.in_ok-add_rows.ensures.added))

pub set_counters-requires-in-Ok-2-clause-data : goal.set_counters-requires-in-Ok-2-clause-data
set_counters-requires-in-Ok-2-clause-data c =
    let o = (goal.at.set_counters-requires-in-Ok-2-clause-data c).After-as_slice-in-Ok in
    let k = orders_long o in
    let g = long_given c.args.lists.now in
    filled_data c.put_all_in_order.new.self.shape c.args.arrivals c.args.rows.items (map (λ v. v.items) c.args.lists.now) c.args.next c.args.arrivals
    c.set_counters-in-Ok-2.new.self.plain c.put_all_in_order.new.self.plain (rows_were o)
    (ap (λ (q : Data). q.kept) c.set_counters-in-Ok-2.ensures.plain ∙ c.in_ok-add_rows.ensures.added.kept)
    (length c.args.lists.now) c.put_all_in_order.ensures.ordered c.keeps_rules-in-Ok-2.ensures
    (omega (arith, k)) (omega (arith, k, g)) (below o) (omega arith)

pub returns-clause-table : goal.returns-clause-table
returns-clause-table c =
    let o = (goal.at.returns-clause-table c).After-as_slice-in-Ok in
    let k = orders_long o in
    let g = long_given c.args.lists.now in
    filled_table c.put_all_in_order.new.self.shape c.args.arrivals c.args.rows.items (map (λ v. v.items) c.args.lists.now) c.args.next c.args.arrivals
    c.set_counters-in-Ok-2.new.self.plain c.put_all_in_order.new.self.plain (rows_were o)
    (ap (λ (q : Data). q.kept) c.set_counters-in-Ok-2.ensures.plain ∙ c.in_ok-add_rows.ensures.added.kept)
    (length c.args.lists.now) c.put_all_in_order.ensures.ordered c.keeps_rules-in-Ok-2.ensures
    (omega (arith, k)) (omega (arith, k, g)) (below o) (omega arith)
    c.set_counters-in-Ok-3.new.self.plain c.set_counters-in-Ok-3.ensures.plain
