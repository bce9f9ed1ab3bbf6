-- A replace that nothing refuses is of a table that isn't spent.
use Rattle.std.proofs.Common.{sym, ◌∙◌}
use Rattle.mi_plain.proofs.RowLemmas.{free_replace}
use Rattle.mi_plain.proofs.table.PlainTable.replace.Goals as goal

pub put-requires-clause-unspent : goal.put-requires-clause-unspent
put-requires-clause-unspent c = (free_replace c.args.schema.now c.args.id c.args.row c.args.self.now (sym c.replace_refusal.ensures ∙ c.in_default.is)).1
