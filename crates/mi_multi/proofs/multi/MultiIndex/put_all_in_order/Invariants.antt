-- the indexes so far are in order
use Rattle.std.proofs.Common.{◌≡◌, map}
use Rattle.mi_container.specs.Restore.{InOrderTo}
use Rattle.mi_multi.proofs.multi.MultiIndex.put_all_in_order.Given as goal

abbrev pub invariant-loop-index : goal.invariant-loop-index
invariant-loop-index l = record {
  ordered : InOrderTo l.index l.most (map (λ v. v.items) l.lists) l.fn.self.plain l.self.plain;
  shape : l.self.shape ≡ l.fn.self.shape;
  secrets : l.self.secrets ≡ l.fn.self.secrets;
}
