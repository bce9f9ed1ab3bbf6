-- the rows so far have their stamps
use Rattle.std.proofs.Common.{◌≡◌, ◌≤◌, take, length}
use Rattle.mi_container.specs.Restore.{raised_all}
use Rattle.mi_multi.proofs.multi.MultiIndex.raise_rows.Given as goal

abbrev pub invariant-loop-place : goal.invariant-loop-place
invariant-loop-place l = record {
  plain : l.self.plain ≡ raised_all l.index (take l.place l.ids) l.first l.fn.self.plain;
  within : l.place ≤ length l.ids;
  shape : l.self.shape ≡ l.fn.self.shape;
  secrets : l.self.secrets ≡ l.fn.self.secrets;
}
