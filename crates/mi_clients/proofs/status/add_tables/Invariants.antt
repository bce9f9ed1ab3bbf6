use Rattle.std.proofs.Common.{◌≡◌, ◌++◌, drop}
use Rattle.std.specs.String.{string_bytes}
use Rattle.mi_clients.specs.Status.{listed, table_text}
use Rattle.mi_clients.proofs.status.add_tables.Given as goal

-- with those to come all are added
abbrev pub invariant-tables : goal.invariant-tables
invariant-tables g l = string_bytes l.text ++ listed (table_text (g.D.Sessions.state l.database) l.memories) l.i (drop l.i (g.D.Sessions.state l.database).catalog.tables)
    ≡ string_bytes l.fn.text ++ listed (table_text (g.D.Sessions.state l.database) l.memories) 0 (g.D.Sessions.state l.database).catalog.tables
