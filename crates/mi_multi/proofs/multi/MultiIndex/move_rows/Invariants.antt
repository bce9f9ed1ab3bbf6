-- the rows so far are at the end
use Rattle.std.proofs.Common.{◌≡◌, ◌≤◌, take, length}
use Rattle.mi_container.specs.Restore.{moved_all}
use Rattle.mi_multi.proofs.multi.MultiIndex.move_rows.Given as goal

abbrev pub invariant-loop-place : goal.invariant-loop-place
invariant-loop-place l = record {
  plain : l.self.plain ≡ moved_all l.index (take l.place l.ids) l.fn.self.plain;
  within : l.place ≤ length l.ids;
  shape : l.self.shape ≡ l.fn.self.shape;
  secrets : l.self.secrets ≡ l.fn.self.secrets;
}
