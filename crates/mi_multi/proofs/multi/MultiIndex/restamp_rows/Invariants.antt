-- the rows from here on have their stamps
use Rattle.std.proofs.Common.{◌≡◌, drop}
use Rattle.mi_container.specs.Restore.{restamped_all}
use Rattle.mi_multi.proofs.multi.MultiIndex.restamp_rows.Given as goal

abbrev pub invariant-loop-place : goal.invariant-loop-place
invariant-loop-place l = record {
  plain : l.self.plain ≡ restamped_all l.index (drop l.place l.ids) l.place l.fn.self.plain;
  shape : l.self.shape ≡ l.fn.self.shape;
  secrets : l.self.secrets ≡ l.fn.self.secrets;
}
