-- The first column of the name.
use Rattle.std.proofs.Common.{rules, tests, bytes_eq}
use Rattle.std.proofs.lemmas.Iterator.{YieldsList-from_slice}
use Rattle.std.proofs.lemmas.Iterator.Search.{position_from_yields_List}
use Rattle.mi_catalog.specs.declared.index.Column.{Column}
use Rattle.mi_catalog.proofs.schema.Schema.find_column.Goals as goal

pub returns : goal.returns
returns c =
    position_from_yields_List (λ (s : Column). bytes_eq s.name c.args.name.now) _ _ c.position.result c.position.ensures.ran
    (YieldsList-from_slice c.args.self.now.columns cc) (λ x b q k. search (rules, tests))
