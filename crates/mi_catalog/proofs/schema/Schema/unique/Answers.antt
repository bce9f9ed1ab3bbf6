-- The index stands where the number says.
use Rattle.std.proofs.Common.{◌≡◌, ◌<◌, ◌∙◌, ap, subst, sym, length}
use Rattle.std.proofs.lemmas.List.{get_or_default}
use Rattle.mi_catalog.specs.declared.index.Index.{Index}
use Rattle.mi_catalog.specs.Shape.{Shape, index_at}
use Rattle.mi_catalog.specs.contracts.schema.Schema.{the_view}
use Rattle.mi_catalog.proofs.schema.Schema.unique.Goals as goal

pub returns : goal.returns
returns c =
    let within : c.args.i < length c.self.inside.indexes.items = subst (λ (s : Shape). c.args.i < length s.indexes) (sym c.self.view_is) c.requires in
    let found : c.index.result.now ≡ index_at (the_view c.self.inside) c.args.i = c.index.ensures ∙ get_or_default _ _ _ _ within in
    ap (λ (i : Index). i.«unique») found ∙ ap (λ (s : Shape). (index_at s c.args.i).«unique») c.self.view_is
