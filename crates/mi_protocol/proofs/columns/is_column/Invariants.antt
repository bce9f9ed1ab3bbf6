use Rattle.std.proofs.Common.{◌≡◌, drop}
use Rattle.std.specs.List.{list_any}
use Rattle.std.specs.Str.{bytes_eq}
use Rattle.mi_protocol.proofs.columns.is_column.Given as goal

-- all turns on what is left
abbrev pub invariant-columns : goal.invariant-columns
invariant-columns l =
    list_any (λ c. bytes_eq l.name c.name) (drop l.column-index l.columns) ≡ list_any (λ c. bytes_eq l.name c.name) l.columns
