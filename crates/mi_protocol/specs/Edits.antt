-- Edits: what the members of `set` and `add` make of the columns.
use Rattle.std.specs.Prelude.{ℕ, suc, ◌&&◌, List, [], ◌∷◌, map, if◌then◌else◌, Option, Some, None, option_map, option_and_then}
use Rattle.serde_json.specs.Data.{Data, Members}
use Rattle.serde_json.specs.Find.{get_member, as_number, as_i64}
use Rattle.mi_value.specs.declared.value.ColumnType.{ColumnType}
use Rattle.mi_value.specs.declared.value.ColumnType.TheVariants as column
use Rattle.mi_value.specs.declared.edit.Edit.{Edit}
use Rattle.mi_value.specs.declared.edit.Edit.TheVariants as edit
use Rattle.mi_catalog.specs.declared.index.Column.{Column}
use Rattle.mi_request.specs.Json.{has_only, option_map₂}
use Rattle.mi_protocol.specs.Values.{fitting}

-- an addition to column x, which must be an `int`, of a whole number
abbrev pub addition : ℕ → ColumnType → Data → Option Edit
addition x column.Int d = option_map (edit.Add x) (option_and_then as_i64 (as_number d))
addition x column.Text d = None
addition x column.Flag d = None

-- the edit of column x, if there is one, from its members of `set` and of `add`; none where it doesn't fit or has both
abbrev pub edit_of : ℕ → ColumnType → Option Data → Option Data → Option (Option Edit)
edit_of x kind None None = Some None
edit_of x kind (Some d) None = option_map (λ v. Some (edit.Put x v)) (fitting kind d)
edit_of x kind None (Some d) = option_map Some (addition x kind d)
edit_of x kind (Some d) (Some e) = None

abbrev pub with_edit : Option Edit → List Edit → List Edit
with_edit None es = es
with_edit (Some e) es = e ∷ es

-- the edits of columns, the first of them being column x, in their order
abbrev pub edits_from : ℕ → List Column → Members → Members → Option (List Edit)
edits_from x [] set add = Some []
edits_from x (c ∷ cs) set add = option_map₂ with_edit (edit_of x c.kind (get_member c.name set) (get_member c.name add)) (edits_from (suc x) cs set add)

-- the edits of a record with these columns; every member is of a column
abbrev pub bound_edits : List Column → Members → Members → Option (List Edit)
bound_edits cs set add = if has_only (map (λ c. c.name) cs) set && has_only (map (λ c. c.name) cs) add then edits_from 0 cs set add else None
