-- The list of indexes has that length.
use Rattle.std.proofs.Common.{ap, length, ◌∙◌}
use Rattle.mi_catalog.specs.Shape.{Shape}
use Rattle.mi_catalog.proofs.schema.Schema.index_count.Goals as goal

pub returns : goal.returns
returns c = c.len.ensures ∙ (c.self.inside.indexes.ok.0 ∙ ap (λ (s : Shape). length s.indexes) c.self.view_is)
