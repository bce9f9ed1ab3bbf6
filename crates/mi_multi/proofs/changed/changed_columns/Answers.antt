-- Each column that both records have is marked by what their values are.
use Rattle.mi_multi.specs.Columns.{changed_columns}
use Rattle.mi_multi.proofs.changed.changed_columns.Goals as goal

pub returns : goal.returns
returns c = (changed_columns c.columns.before c.columns.after, c.columns.invariant)
