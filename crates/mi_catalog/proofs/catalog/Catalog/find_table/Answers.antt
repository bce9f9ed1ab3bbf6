-- The first table of the name.
use Rattle.std.proofs.Common.{rules, tests, bytes_eq}
use Rattle.std.proofs.lemmas.Iterator.{YieldsList-from_slice}
use Rattle.std.proofs.lemmas.Iterator.Search.{position_from_yields_List}
use Rattle.mi_catalog.specs.Shape.{Shape}
use Rattle.mi_catalog.proofs.catalog.Catalog.find_table.Goals as goal

pub returns : goal.returns
returns c =
    position_from_yields_List (λ (s : Shape). bytes_eq s.table_name c.args.name.now) _ _ c.position.result c.position.ensures.ran
    (YieldsList-from_slice c.args.self.now.tables cc) (λ x b q k. search (rules, tests))
