-- The edits of a line name each column once, so their order doesn't matter.
use Rattle.std.specs.Prelude.{List, IfSome}
use Rattle.serde_json.specs.Data.{Members}
use Rattle.mi_value.specs.Edits.{NamesEachOnce}
use Rattle.mi_catalog.specs.declared.index.Column.{Column}
use Rattle.mi_protocol.specs.Edits.{bound_edits}

abbrev pub LinesEditColumnsOnce : Type 0
LinesEditColumnsOnce = (cs : List Column) (set add : Members) → IfSome (bound_edits cs set add) NamesEachOnce
