-- The rules say that the name is short.
use Rattle.std.proofs.Common.{◌≡◌, ◌<◌, ◌≤◌, ◌∙◌, ap, subst, sym, length}
use Rattle.std.proofs.lemmas.List.{get_or_default}
use Rattle.mi_value.specs.declared.limits.TheConstants.{MAX_NAME}
use Rattle.mi_catalog.specs.declared.index.Index.{Index}
use Rattle.mi_catalog.specs.Shape.{Shape, index_at}
use Rattle.mi_catalog.specs.contracts.schema.Schema.{the_view}
use Rattle.mi_catalog.proofs.RuleLaws.{index_name_short}
use Rattle.mi_catalog.proofs.schema.Schema.index_name.Goals as goal

pub returns-clause-short : goal.returns-clause-short
returns-clause-short c =
    let short : length (index_at (the_view c.self.inside) c.args.i).name ≤ MAX_NAME = index_name_short (the_view c.self.inside) c.args.i c.self.invariant in
    let within : c.args.i < length c.self.inside.indexes.items = subst (λ (s : Shape). c.args.i < length s.indexes) (sym c.self.view_is) c.requires in
    let found : c.index.result.now ≡ index_at (the_view c.self.inside) c.args.i = c.index.ensures ∙ get_or_default _ _ _ _ within in
    subst (λ name. length name ≤ MAX_NAME) (sym (c.as_str.ensures ∙ ap (λ (i : Index). i.name) found)) short
