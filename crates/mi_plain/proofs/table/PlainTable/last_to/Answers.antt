-- Which rank a bound has, that of the look-up's id is one less.
use Rattle.std.proofs.Common.{ap, sym, ◌∙◌}
use Rattle.mi_model.specs.LookUp as look
use Rattle.mi_model.proofs.QueryLaws.{rank_to, to_all}
use Rattle.mi_plain.proofs.WalkLemmas.{down_first}
use Rattle.mi_plain.proofs.table.PlainTable.last_to.Goals as goal

pub last-requires-clause-kind : goal.last-requires-clause-kind
last-requires-clause-kind c = Rattle.mi_model.proofs.PlaceLaws.sorted_listed _ c.requires.kind

pub returns-in-All : goal.returns-in-All
returns-in-All c =
    let s = c.args.schema.now in let t = c.args.self.now in let x = c.args.x in
    c.last.ensures ∙ sym (down_first s t x c.requires.kind c.args.upper.now _ (ap (rank_to s t x) c.in-All.is ∙ to_all s t x))

pub returns-in-UpTo : goal.returns-in-UpTo
returns-in-UpTo c =
    let s = c.args.schema.now in let t = c.args.self.now in let x = c.args.x in
    c.before_nth.ensures
    ∙ sym (down_first s t x c.requires.kind c.args.upper.now _
    (ap (rank_to s t x) c.in-UpTo.is ∙ ap (look.upper_rank s t x) (sym c.values.ensures) ∙ sym c.upper_rank.ensures))

pub returns-in-Below : goal.returns-in-Below
returns-in-Below c =
    let s = c.args.schema.now in let t = c.args.self.now in let x = c.args.x in
    c.before_nth-in-Below.ensures
    ∙ sym (down_first s t x c.requires.kind c.args.upper.now _
    (ap (rank_to s t x) c.in-Below.is ∙ ap (look.lower_rank s t x) (sym c.values-in-Below.ensures) ∙ sym c.lower_rank.ensures))
