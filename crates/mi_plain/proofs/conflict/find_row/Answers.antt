-- The row that is read is the one at its place.
use Rattle.std.proofs.Common.{Some, [], sym, ap, ◌∙◌}
use Rattle.std.proofs.lemmas.List.{get_or_default}
use Rattle.mi_catalog.specs.Key.{Row}
use Rattle.mi_plain.proofs.conflict.find_row.Goals as goal

pub returns-in-Ok : goal.returns-in-Ok
returns-in-Ok c =
    ap (λ (r : Row). Some r.1) (get_or_default c.args.rows.now c.in-Ok.i c.index-rows-i.result (0, []) c.in-Ok.ensures.found.within)
    ∙ sym c.in-Ok.ensures.found.found
