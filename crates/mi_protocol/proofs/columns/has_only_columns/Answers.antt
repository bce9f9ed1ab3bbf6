-- That each name is a column's is asked of the names alone.
use Rattle.std.proofs.Common.{◌∙◌, ap, map}
use Rattle.mi_catalog.specs.declared.index.Column.{Column}
use Rattle.mi_request.specs.Json.{has_only}
use Rattle.mi_request.proofs.ObjectLemmas.{has_only-names}
use Rattle.mi_protocol.proofs.columns.has_only_columns.Goals as goal

pub returns : goal.returns
returns c =
    c.are_columns.ensures ∙ has_only-names (λ (x : Column). x.name) c.args.columns.now _
    ∙ ap (has_only (map (λ x. x.name) c.args.columns.now)) c.members.ensures
