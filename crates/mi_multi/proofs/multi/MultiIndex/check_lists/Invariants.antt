-- the lists so far are those of indexes
use Rattle.std.proofs.Common.{◌≡◌, ◌<◌, ℕ, [], map, get_or, length}
use Rattle.mi_model.specs.Table.{ListsEach}
use Rattle.mi_container.specs.Data.{as_table, order_at, ids_of}
use Rattle.mi_container.specs.Data.Order.{ById}
use Rattle.mi_multi.proofs.multi.MultiIndex.check_lists.Given as goal

abbrev pub invariant-loop-index : goal.invariant-loop-index
invariant-loop-index l = record {
  each : (x : ℕ) → x < l.index → ListsEach (as_table l.self.plain) (get_or (map (λ v. v.items) l.lists) x []);
  long : (x : ℕ) → x < l.index → length (get_or (map (λ v. v.items) l.lists) x []) ≡ length l.ids;
  by_id : (x : ℕ) → x < l.index → order_at l.self.plain.orders x ≡ ById → get_or (map (λ v. v.items) l.lists) x [] ≡ ids_of l.self.plain.rows;
}
