-- The copy of a column stands behind those of the columns before it.
use Rattle.std.proofs.Common.{◌≡◌, List, [], ◌∷◌, ◌++◌, take, sym, ap, ◌∙◌}
use Rattle.std.proofs.lemmas.List.{take_more}
use Rattle.mi_catalog.specs.declared.index.Column.{Column}
use Rattle.mi_catalog.proofs.index.copy_columns.Goals as goal

pub loop-column-preserved : goal.loop-column-preserved
loop-column-preserved c =
    let cs = c.args.columns.now in let i = c.loop-column.column-index in
    let more = take_more cs i c.column-item.result c.loop-column-test.true in
    let kept : c.loop-column.copied.items ≡ take i cs = c.loop-column.invariant in
    let before = ap (λ (copied : List Column). copied ++ c.in_ok-copy.field-0 ∷ []) kept in
    let here = ap (λ (d : Column). take i cs ++ d ∷ []) (c.in_ok-copy.ensures ∙ c.column-item.is) in
    rw c.in_ok-push.ensures.items (before ∙ (here ∙ sym more))
