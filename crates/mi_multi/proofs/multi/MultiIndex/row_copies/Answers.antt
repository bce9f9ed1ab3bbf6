-- The rows between no bounds are all of the table.
use Rattle.std.proofs.Common.{◌∙◌, ap, map, false}
use Rattle.std.proofs.lemmas.Result.{IfOk-weaker}
use Rattle.mi_value.specs.declared.bound.Lower.TheVariants as lower
use Rattle.mi_value.specs.declared.bound.Upper.TheVariants as upper
use Rattle.mi_model.specs.Page.{range}
use Rattle.mi_model.specs.Table.{row}
use Rattle.mi_container.specs.Data.{as_table}
use Rattle.mi_multi.proofs.CallLemmas.{id_sorted}
use Rattle.mi_multi.proofs.ImagingLemmas.{all_rows_seen}
use Rattle.mi_multi.proofs.multi.MultiIndex.row_copies.Goals as goal

pub walk_range-requires : goal.walk_range-requires
walk_range-requires c = record { index = id_sorted c.self.inside c.self.invariant c.self.view_is c.keeps_rules.ensures }

pub returns : goal.returns
returns c =
    let s = c.args.self.now.shape in let t = as_table c.args.self.now.plain in
    IfOk-weaker c.copies.result _ _
    (λ rows is.
    is
    ∙ ap (map (λ r. (r.0, r.1.now))) c.as_slice.ensures.value
    ∙ c.in_ok-lent.ensures.rows
    ∙ ap (λ n. map (row t) (range s t 0 lower.All upper.All false n).ids) c.size-limit.ensures
    ∙ all_rows_seen c.self.inside c.self.invariant c.self.view_is c.keeps_rules.ensures)
    c.copies.ensures
