use Rattle.std.proofs.Common.{◌≡◌, drop}
use Rattle.std.specs.List.{list_any, list_all}
use Rattle.std.specs.Str.{bytes_eq}
use Rattle.mi_protocol.proofs.columns.are_columns.Given as goal

-- all turns on what is left
abbrev pub invariant-members : goal.invariant-members
invariant-members l =
    list_all (λ m. list_any (λ c. bytes_eq m.0.now c.name) l.columns) (drop l.member-index l.members)
    ≡ list_all (λ m. list_any (λ c. bytes_eq m.0.now c.name) l.columns) l.members
