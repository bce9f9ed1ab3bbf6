-- The row that has the key rivals, unless it is the one that is excepted.
use Rattle.std.proofs.Common.{◌≡◌, ap, sym, ◌∙◌}
use Rattle.std.specs.declared.option.Option.TheVariants.{None, Some}
use Rattle.mi_catalog.specs.Shape.{index_at}
use Rattle.mi_model.specs.Conflict.{rival}
use Rattle.mi_container.specs.Data.{as_table}
use Rattle.mi_multi.proofs.ConflictLemmas.{none_is, own_is_none, other_is}
use Rattle.mi_multi.proofs.multi.MultiIndex.rival.Goals as goal

pub returns-in_err-holder : goal.returns-in_err-holder
returns-in_err-holder c =
    c.from_residual.ensures
    ∙ sym (none_is c.self.inside c.self.invariant c.args.self.now c.self.view_is c.args.index c.requires.declared c.requires.there
    c.args.row.now c.keeps_rules.ensures c.requires.alone c.args.except (sym c.holder.ensures ∙ c.in_err-holder.was))

pub returns-in-Some : goal.returns-in-Some
returns-in-Some c =
    let now = c.args.self.now in
    let here : rival (as_table now.plain).rows (index_at now.shape c.args.index).parts c.args.row.now None
    ≡ Some c.in-Some.own = sym c.holder.ensures ∙ c.in_ok-holder.was ∙ ap Some (sym c.if-own-holder.true) in
    sym (ap (rival (as_table now.plain).rows (index_at now.shape c.args.index).parts c.args.row.now) c.in-Some.is
    ∙ own_is_none c.self.inside c.self.invariant now c.self.view_is c.args.index c.requires.declared
    c.requires.there c.args.row.now c.keeps_rules.ensures c.requires.alone c.in-Some.own here)

pub returns-in_default : goal.returns-in_default
returns-in_default c =
    let now = c.args.self.now in
    sym (ap (rival (as_table now.plain).rows (index_at now.shape c.args.index).parts c.args.row.now) c.in-Some.is
    ∙ other_is c.self.inside c.self.invariant now c.self.view_is c.args.index c.requires.declared c.requires.there
    c.args.row.now c.keeps_rules.ensures c.requires.alone c.in-Some.own c.in_ok-holder.holder c.if-own-holder.false
    (sym c.holder.ensures ∙ c.in_ok-holder.was))
