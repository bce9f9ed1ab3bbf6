-- The table stands behind the command, and nothing else.
use Rattle.std.proofs.Common.{◌∷◌, [], Some, None, cond, codes, option_map, refl, ap, sym, ◌∙◌}
use Rattle.mi_request.specs.Short.{table_is, asked_short}
use Rattle.mi_request.specs.ShortCode.{perhaps_name}
use Rattle.mi_request.proofs.WordLemmas.{not_read}
use Rattle.mi_request.proofs.short.size.Goals as goal

pub returns-in_err-table : goal.returns-in_err-table
returns-in_err-table c =
    not_read (codes "size") ((codes "table", perhaps_name) ∷ []) c.args.line.now _ (ap (option_map asked_short) c.from_residual.ensures) (c.in_err-table.ensures [])

pub returns-then-not-is_end : goal.returns-then-not-is_end
returns-then-not-is_end c =
    not_read (codes "size") ((codes "table", perhaps_name) ∷ []) c.args.line.now None refl
    (c.in_ok-table.ensures [] ∙ ap (λ b. option_map (λ ms. table_is c.in_ok-table.table ∷ ms) (cond b (Some []) None)) (sym c.is_end.ensures ∙ c.if-not-is_end.true))

pub returns : goal.returns
returns c =
    sym (ap (option_map (λ ms. Some (codes "size", ms)))
    (c.in_ok-table.ensures [] ∙ ap (λ b. option_map (λ ms. table_is c.in_ok-table.table ∷ ms) (cond b (Some []) None)) (sym c.is_end.ensures ∙ c.if-not-is_end.false)))
