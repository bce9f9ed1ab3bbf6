-- No id fails to meet no bound.
use Rattle.std.proofs.Common.{ap, sym, ◌∙◌}
use Rattle.mi_model.proofs.QueryLaws.{rank_from, from_all}
use Rattle.mi_plain.proofs.table.PlainTable.rank_from.Goals as goal

pub returns-in-All : goal.returns-in-All
returns-in-All c =
    let s = c.args.schema.now in let t = c.args.self.now in let x = c.args.x in
    sym (ap (rank_from s t x) c.in-All.is ∙ from_all s t x)
