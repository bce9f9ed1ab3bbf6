-- The value is put into the column that the edit names.
use Rattle.std.proofs.Common.{Some, map, ap, sym, ◌∙◌}
use Rattle.std.specs.Prelude.{slice_set}
use Rattle.mi_value.specs.Lent.{lent}
use Rattle.mi_value.proofs.edit.edit_one.Goals as goal

pub returns-in-Put-clause-ok : goal.returns-in-Put-clause-ok
returns-in-Put-clause-ok c =
    rw c.in-Put.is (ap Some (sym (c.set.ensures ∙ ap (slice_set (map lent c.args.values.now) c.in-Put.column) c.lend.ensures)))
