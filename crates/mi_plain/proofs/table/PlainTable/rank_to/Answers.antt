-- All ids meet no bound.
use Rattle.std.proofs.Common.{ap, sym, ◌∙◌}
use Rattle.mi_model.proofs.PlaceLaws.{length-view, listed_within, sorted_listed}
use Rattle.mi_model.proofs.QueryLaws.{rank_to, to_all}
use Rattle.mi_plain.proofs.table.PlainTable.rank_to.Goals as goal

pub returns-in-All : goal.returns-in-All
returns-in-All c =
    let s = c.args.schema.now in let t = c.args.self.now in let x = c.args.x in
    c.size.ensures ∙ sym (length-view s t x c.requires.is (listed_within s x (sorted_listed _ c.requires.kind)))
    ∙ sym (ap (rank_to s t x) c.in-All.is ∙ to_all s t x)
