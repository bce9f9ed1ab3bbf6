-- Which rank a bound has, that of the look-up's id is.
use Rattle.std.proofs.Common.{ap, sym, ◌∙◌}
use Rattle.mi_model.specs.LookUp as look
use Rattle.mi_model.proofs.QueryLaws.{rank_from, from_all, from_key, from_beyond}
use Rattle.mi_plain.proofs.WalkLemmas.{up_first}
use Rattle.mi_plain.proofs.table.PlainTable.first_from.Goals as goal

pub first-requires-clause-kind : goal.first-requires-clause-kind
first-requires-clause-kind c = Rattle.mi_model.proofs.PlaceLaws.sorted_listed _ c.requires.kind

pub returns-in-All : goal.returns-in-All
returns-in-All c =
    let s = c.args.schema.now in let t = c.args.self.now in let x = c.args.x in
    c.first.ensures ∙ sym (up_first s t x c.requires.kind c.args.lower.now 0 (ap (rank_from s t x) c.in-All.is ∙ from_all s t x))

pub returns-in-From : goal.returns-in-From
returns-in-From c =
    let s = c.args.schema.now in let t = c.args.self.now in let x = c.args.x in
    c.lower.ensures
    ∙ sym (up_first s t x c.requires.kind c.args.lower.now _
    (ap (rank_from s t x) c.in-From.is ∙ from_key s t x c.in-From.key ∙ ap (look.lower_rank s t x) (sym c.values.ensures)))

pub returns-in-Beyond : goal.returns-in-Beyond
returns-in-Beyond c =
    let s = c.args.schema.now in let t = c.args.self.now in let x = c.args.x in
    c.upper.ensures
    ∙ sym (up_first s t x c.requires.kind c.args.lower.now _
    (ap (rank_from s t x) c.in-Beyond.is ∙ from_beyond s t x c.in-Beyond.key ∙ ap (look.upper_rank s t x) (sym c.values-in-Beyond.ensures)))
