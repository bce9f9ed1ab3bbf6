-- The names that are compared are those of the table of commands.
use Rattle.std.proofs.Common.{rules, ◌≡◌, ◌∷◌, [], codes, sym, ap, ◌∙◌}
use Rattle.mi_request.specs.Commands.{form_of, member_names}
use Rattle.mi_request.specs.Json.{has_only}
use Rattle.mi_request.proofs.request.CommandName.allows.Goals as goal

pub returns-in-Range : goal.returns-in-Range
returns-in-Range c =
    let here : c.has_only-in-Range.result
    ≡ has_only (codes "cmd" ∷ codes "table" ∷ codes "index" ∷ codes "lower" ∷ codes "upper" ∷ codes "reverse" ∷ codes "limit" ∷ []) c.args.object.now
    = search rules in
    here ∙ ap (λ n. has_only (codes "cmd" ∷ member_names (form_of n)) c.args.object.now) (sym c.in-Range.is)
