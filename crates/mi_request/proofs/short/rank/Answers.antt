-- The index and the id stand behind the command, and nothing else.
use Rattle.std.proofs.Common.{◌∷◌, [], Some, codes, option_map, refl, ap, sym, ◌∙◌}
use Rattle.mi_request.specs.Short.{table_is, index_is, asked_short}
use Rattle.mi_request.specs.ShortCode.{a_name, a_whole, perhaps_name, Template}
use Rattle.mi_request.proofs.WordLemmas.{not_read}
use Rattle.mi_request.proofs.short.rank.Goals as goal

abbrev last : Template
last = (codes "id", a_whole) ∷ []

pub returns-in_err-at : goal.returns-in_err-at
returns-in_err-at c = not_read (codes "rank") ((codes "table", perhaps_name) ∷ (codes "index", a_name) ∷ last) c.args.line.now _ (ap (option_map asked_short) c.from_residual.ensures) (c.in_err-at.ensures last)

pub returns-in_err-id : goal.returns-in_err-id
returns-in_err-id c =
    not_read (codes "rank") ((codes "table", perhaps_name) ∷ (codes "index", a_name) ∷ last) c.args.line.now _ (ap (option_map asked_short) c.from_residual-in_err-id.ensures)
    (c.in_ok-at.ensures last ∙ ap (option_map (λ ms. table_is c.in_ok-at.at.table ∷ index_is c.in_ok-at.at.index ∷ ms)) (c.in_err-id.ensures (codes "id") refl))

pub returns : goal.returns
returns c =
    sym (ap (option_map (λ ms. Some (codes "rank", ms)))
    (c.in_ok-at.ensures last ∙ ap (option_map (λ ms. table_is c.in_ok-at.at.table ∷ index_is c.in_ok-at.at.index ∷ ms)) (c.in_ok-id.ensures (codes "id") refl)))
