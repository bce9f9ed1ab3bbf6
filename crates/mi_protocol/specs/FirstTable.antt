-- Lines that name no table: they are over the first, as if the catalog had no other.
use Rattle.std.specs.Prelude.{◌≡◌, false, [], ◌∷◌, IfOk, IfSome}
use Rattle.mi_catalog.specs.Shape.{CatalogShape, schema_at}
use Rattle.mi_request.specs.Commands.{names_table}
use Rattle.mi_request.specs.declared.request.Request.{Request}
use Rattle.mi_protocol.specs.declared.command.Command.{Command}
use Rattle.mi_protocol.specs.Binding.{bound_command, over_table}

-- a command over the first table, or over sessions
abbrev pub IsOverFirst : Command → Type 0
IsOverFirst c = IfSome (over_table c) (λ n. n ≡ 0)

-- a request that names no table is a command over the first
abbrev pub NoNameIsTheFirst : Type 0
NoNameIsTheFirst = (c : CatalogShape) (r : Request) → names_table r ≡ false → IfOk (bound_command c r) IsOverFirst

-- a catalog of the first table alone
abbrev pub first_alone : CatalogShape → CatalogShape
first_alone c = record c { tables = schema_at c 0 ∷ [] }

-- and it is the command, or the refusal, that it is over a catalog of that table alone
abbrev pub OtherTablesAreNotSeen : Type 0
OtherTablesAreNotSeen = (c : CatalogShape) (r : Request) → names_table r ≡ false → bound_command c r ≡ bound_command (first_alone c) r
