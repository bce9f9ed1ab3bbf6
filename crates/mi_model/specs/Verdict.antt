-- What each change of a table answers and leaves. The first refusal that applies is answered.
use Rattle.std.specs.Prelude.{ℕ, Bool, true, ◌==◌, not, ◌||◌, ◌&&◌, if◌then◌else◌, List, length}
use Rattle.std.specs.Option.{option_map, option_map_or}
use Rattle.std.specs.declared.option.Option.{Option}
use Rattle.std.specs.declared.option.Option.TheVariants.{None, Some}
use Rattle.std.specs.declared.result.Result.{Result}
use Rattle.std.specs.declared.result.Result.TheVariants.{Ok, Err}
use Rattle.mi_value.specs.declared.value.Value.{Value}
use Rattle.mi_value.specs.declared.edit.Edit.{Edit}
use Rattle.mi_value.specs.declared.refusal.Refusal.{Refusal}
use Rattle.mi_value.specs.declared.refusal.Refusal.TheVariants.{NoId, Range, Full, Spent, Unique, Lost}
use Rattle.mi_value.specs.declared.limits.TheConstants.{LAST_COUNT}
use Rattle.mi_value.specs.Edits.{apply}
use Rattle.mi_catalog.specs.Shape.{Shape}
use Rattle.mi_model.specs.Table.{Table, has, row, size}
use Rattle.mi_model.specs.View.{of_key}
use Rattle.mi_model.specs.Conflict.{conflict}
use Rattle.mi_model.specs.Change.{insert, put, erase, erase_key, relocate}

-- what a command answers, and the table that it leaves
abbrev pub Outcome : Type 0 → Type 0
Outcome A = Result A Refusal × Table

-- a counter can't rise any more
abbrev pub is_spent : ℕ → Bool
is_spent n = n == LAST_COUNT

-- whether the id that a place names is there
abbrev pub has_place : Table → Option ℕ → Bool
has_place t b = option_map_or (has t) b true

-- the refusal of a conflict
abbrev pub as_unique : ℕ × ℕ → Refusal
as_unique at = Unique at.0 at.1

-- a change with its answer, or where a refusal applies nothing but that
abbrev pub unless : {A : Type 0} → Option Refusal → A → Table → Table → Outcome A
unless None answer changed t = (Ok answer, changed)
unless (Some refusal) answer changed t = (Err refusal, t)

-- an insert may stand directly before a row of a sequenced index
abbrev pub insert_refusal : Shape → Option (ℕ × ℕ) → List Value → Table → Option Refusal
insert_refusal s at r t =
    if not (has_place t (option_map (λ p. p.1) at)) then Some NoId
    else if size t == s.max_rows then Some Full
    else if is_spent t.next || is_spent t.arrivals then Some Spent
    else option_map as_unique (conflict s t r None)

abbrev pub insert_outcome : Shape → Option (ℕ × ℕ) → List Value → Table → Outcome ℕ
insert_outcome s at r t = unless (insert_refusal s at r t) t.next (insert at r t) t

abbrev pub replace_refusal : Shape → ℕ → List Value → Table → Option Refusal
replace_refusal s e r t =
    if not (has t e) then Some NoId
    else if is_spent t.arrivals then Some Spent
    else option_map as_unique (conflict s t r (Some e))

abbrev pub replace_outcome : Shape → ℕ → List Value → Table → Outcome (Unit {0})
replace_outcome s e r t = unless (replace_refusal s e r t) tt (put s e r t) t

-- a modify that a unique index refuses changes nothing, or without rollback erases the row
abbrev pub refused_modify : Bool → ℕ → ℕ × ℕ → Table → Outcome (Unit {0})
refused_modify rollback e at t = if rollback then (Err (as_unique at), t) else (Err (Lost at.0 at.1), erase e t)

abbrev pub modified : Shape → ℕ → Bool → Option (List Value) → Table → Outcome (Unit {0})
modified s e rollback None t = (Err Range, t)
modified s e rollback (Some r) t =
    if is_spent t.arrivals then (Err Spent, t)
    else option_map_or (λ at. refused_modify rollback e at t) (conflict s t r (Some e)) (Ok tt, put s e r t)

abbrev pub modify_outcome : Shape → ℕ → List Edit → Bool → Table → Outcome (Unit {0})
modify_outcome s e edits rollback t =
    if not (has t e) then (Err NoId, t) else modified s e rollback (apply edits (row t e).1) t

abbrev pub erase_outcome : ℕ → Table → Outcome (Unit {0})
erase_outcome e t = if has t e then (Ok tt, erase e t) else (Err NoId, t)

-- it answers the number of rows erased
abbrev pub erase_key_outcome : Shape → ℕ → List Value → Table → Outcome ℕ
erase_key_outcome s x key t = (Ok (length (of_key s t x key)), erase_key s x key t)

abbrev pub relocate_outcome : ℕ → ℕ → Option ℕ → Table → Outcome (Unit {0})
relocate_outcome x e b t = if has t e && has_place t b then (Ok tt, relocate x e b t) else (Err NoId, t)
