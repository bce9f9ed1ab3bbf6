-- The labels of one table more stand behind those so far.
use Rattle.std.proofs.Common.{[], ◌∷◌, ◌++◌, ap, ap₂, sym, ◌∙◌, arith}
use Rattle.std.proofs.lemmas.List.{map_more}
use Rattle.mi_catalog.specs.Shape.{Shape}
use Rattle.mi_protocol.proofs.labels.labels_of.Goals as goal

pub tables-preserved : goal.tables-preserved
tables-preserved c =
    c.in_ok-push.ensures.items
    ∙ ap₂ (λ ls l. ls ++ l ∷ []) c.tables.invariant (c.in_ok-of.ensures ∙ c.columns.ensures ∙ ap (λ (s : Shape). s.columns) c.table-schema.ensures)
    ∙ sym (map_more (λ (s : Shape). s.columns) c.args.catalog.now.tables c.tables.table _ (omega arith))
