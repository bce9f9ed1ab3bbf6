-- The table and the id stand behind the command, and nothing else.
use Rattle.std.proofs.Common.{◌∷◌, [], Some, codes, option_map, refl, ap, sym, ◌∙◌}
use Rattle.mi_request.specs.Short.{table_is}
use Rattle.mi_request.specs.ShortCode.{a_whole, perhaps_name, Template}
use Rattle.mi_request.proofs.WordLemmas.{not_read}
use Rattle.mi_request.proofs.short.erase.Goals as goal

abbrev last : Template
last = (codes "id", a_whole) ∷ []

pub returns-in_err-table : goal.returns-in_err-table
returns-in_err-table c = not_read (codes "erase") ((codes "table", perhaps_name) ∷ last) c.args.line.now _ c.from_residual.ensures (c.in_err-table.ensures last)

pub returns-in_err-id : goal.returns-in_err-id
returns-in_err-id c =
    not_read (codes "erase") ((codes "table", perhaps_name) ∷ last) c.args.line.now _ c.from_residual-in_err-id.ensures
    (c.in_ok-table.ensures last ∙ ap (option_map (λ ms. table_is c.in_ok-table.table ∷ ms)) (c.in_err-id.ensures (codes "id") refl))

pub returns : goal.returns
returns c =
    sym (ap (option_map (λ ms. Some (codes "erase", ms)))
    (c.in_ok-table.ensures last ∙ ap (option_map (λ ms. table_is c.in_ok-table.table ∷ ms)) (c.in_ok-id.ensures (codes "id") refl)))
