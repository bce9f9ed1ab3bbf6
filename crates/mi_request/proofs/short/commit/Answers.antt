-- The revision stands behind the command, and nothing else.
use Rattle.std.proofs.Common.{◌∷◌, [], Some, codes, option_map, option_and_then, refl, ap, sym, ◌∙◌}
use Rattle.mi_request.specs.Short.{asked_short}
use Rattle.mi_request.specs.ShortCode.{a_whole, read_members, Template}
use Rattle.mi_request.proofs.WordLemmas.{not_read}
use Rattle.mi_request.proofs.short.commit.Goals as goal

abbrev members : Template
members = (codes "revision", a_whole) ∷ []

pub returns-in_err-revision : goal.returns-in_err-revision
returns-in_err-revision c =
    not_read (codes "commit") members c.args.line.now _ (ap (option_map asked_short) c.from_residual-in_err-revision.ensures)
    (ap (option_and_then (read_members members)) (sym c.in_ok-rest.ensures) ∙ c.in_err-revision.ensures (codes "revision") refl)

pub returns : goal.returns
returns c =
    sym (ap (option_map (λ ms. Some (codes "commit", ms)))
    (ap (option_and_then (read_members members)) (sym c.in_ok-rest.ensures) ∙ c.in_ok-revision.ensures (codes "revision") refl))
