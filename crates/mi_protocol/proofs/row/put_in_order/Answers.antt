-- All columns are gone over, and so all members, which have the same names.
use Rattle.std.proofs.Common.{◌≡◌, [], ◌++◌, Some, drop, map, option_map, sym, ap, ◌∙◌, append-nil, arith}
use Rattle.std.proofs.lemmas.List.{drop_all}
use Rattle.mi_value.specs.Lent.{lent}
use Rattle.mi_protocol.proofs.RowLemmas.{names, names_of, pairwise, row_in_order}
use Rattle.mi_protocol.proofs.row.put_in_order.Goals as goal

pub returns : goal.returns
returns g c is_put =
    let l = c.columns in let cs = c.args.columns.now in let ms = c.args.members.now in
    let no_columns : drop l.i cs ≡ [] = drop_all l.i cs (omega arith) in
    let no_members : drop l.i ms ≡ [] = drop_all l.i ms (omega arith) in
    let same : names ms ≡ names_of cs = l.invariant.2 (ap names no_members ∙ sym (ap names_of no_columns)) in
    let values = map lent l.values.items in
    let all : Some values ≡ pairwise cs ms =
    ap Some (sym (append-nil values)) ∙ sym (ap (λ ds. option_map (λ vs. values ++ vs) (pairwise ds (drop l.i ms))) no_columns) ∙ l.invariant.1 in
    row_in_order cs ms same c.requires.distinct ∙ sym all
