-- The edits of a line name each column once.
-- Cited by `laws::lines_edit_columns_once` and `BindingLemmas`.
use Rattle.std.proofs.Common.{◌≡◌, ℕ, ◌≤◌, suc, ℤ, Bool, true, false, cond, List, [], ◌∷◌, refl, arith}
use Rattle.std.specs.Prelude.{Option, Some, None, IfSome, option_map, option_and_then}
use Rattle.std.specs.List.{AllByRecursion}
use Rattle.serde_json.specs.Data.{Data, Members}
use Rattle.serde_json.specs.Find.{get_member, as_number, as_i64}
use Rattle.mi_value.specs.declared.value.Value.{Value}
use Rattle.mi_value.specs.declared.value.ColumnType.{ColumnType}
use Rattle.mi_value.specs.declared.value.ColumnType.TheVariants as column
use Rattle.mi_value.specs.declared.edit.Edit.{Edit}
use Rattle.mi_value.specs.declared.edit.Edit.TheVariants as edit
use Rattle.mi_value.specs.Edits.{column_of, SparesColumn, NamesEachOnce}
use Rattle.mi_catalog.specs.declared.index.Column.{Column}
use Rattle.mi_request.specs.Json.{option_map₂}
use Rattle.mi_protocol.specs.Values.{fitting}
use Rattle.mi_protocol.specs.Edits.{edit_of, with_edit, edits_from}
use Rattle.mi_protocol.specs.EditOrder.{LinesEditColumnsOnce}

-- an edit of this column, if any
abbrev IsOfColumn : ℕ → Option Edit → Type 0
IsOfColumn x o = IfSome o (λ e. column_of e ≡ x)

put_of : (x : ℕ) (o : Option Value) → IfSome (option_map (λ v. Some (edit.Put x v)) o) (IsOfColumn x)
put_of x None = tt
put_of x (Some v) = refl

add_of : (x : ℕ) (o : Option ℤ) → IfSome (option_map {T = Edit} Some (option_map (edit.Add x) o)) (IsOfColumn x)
add_of x None = tt
add_of x (Some n) = refl

of_column : (x : ℕ) (kind : ColumnType) (set add : Option Data) → IfSome (edit_of x kind set add) (IsOfColumn x)
of_column x kind None None = tt
of_column x kind (Some d) None = put_of x (fitting kind d)
of_column x column.Int None (Some d) = add_of x (option_and_then as_i64 (as_number d))
of_column x column.Text None (Some d) = tt
of_column x column.Flag None (Some d) = tt
of_column x kind (Some d) (Some e) = tt

-- edits of different columns, none before this one
record From (x : ℕ) (es : List Edit) : Type 0 where
  late : AllByRecursion (λ e. x ≤ column_of e) es
  once : NamesEachOnce es

later : (x : ℕ) (es : List Edit) → AllByRecursion (λ e. suc x ≤ column_of e) es → AllByRecursion (λ e. x ≤ column_of e) es
later x [] all = tt
later x (e ∷ es) all = (omega arith, later x es all.1)

spared : (x : ℕ) (e : Edit) (es : List Edit) → column_of e ≡ x → AllByRecursion (λ e. suc x ≤ column_of e) es → SparesColumn (column_of e) es
spared x e [] is all = tt
spared x e (f ∷ es) is all = (λ same. absurd (omega arith), spared x e es is all.1)

one_more : (x : ℕ) (o : Option (Option Edit)) (r : Option (List Edit)) → IfSome o (IsOfColumn x) → IfSome r (From (suc x))
    → IfSome (option_map₂ with_edit o r) (From x)
one_more x None r is rest = tt
one_more x (Some o) None is rest = tt
one_more x (Some None) (Some es) is rest = record { late = later x es rest.late; once = rest.once }
one_more x (Some (Some e)) (Some es) is rest = record { late = (omega arith, later x es rest.late); once = (spared x e es is rest.late, rest.once) }

from_column : (x : ℕ) (cs : List Column) (set add : Members) → IfSome (edits_from x cs set add) (From x)
from_column x [] set add = record { late = tt; once = tt }
from_column x (c ∷ cs) set add =
    one_more x (edit_of x c.kind (get_member c.name set) (get_member c.name add)) (edits_from (suc x) cs set add)
    (of_column x c.kind (get_member c.name set) (get_member c.name add)) (from_column (suc x) cs set add)

once_if : (b : Bool) (r : Option (List Edit)) → IfSome r (From 0) → IfSome (cond b r None) NamesEachOnce
once_if false r h = tt
once_if true None h = tt
once_if true (Some es) h = h.once

pub lines_edit_columns_once : LinesEditColumnsOnce
lines_edit_columns_once cs set add = once_if _ (edits_from 0 cs set add) (from_column 0 cs set add)
