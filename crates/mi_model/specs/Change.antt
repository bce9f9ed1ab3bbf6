-- The changes of a table.
use Rattle.std.specs.Prelude.{ℕ, ◌+◌, ◌==◌, not, if◌then◌else◌, List, [], ◌∷◌, ◌++◌, map, slice_set, slice_index_or}
use Rattle.std.specs.List.{filter, fold}
use Rattle.std.specs.Ordering.{is_eq}
use Rattle.std.specs.declared.option.Option.{Option}
use Rattle.std.specs.declared.option.Option.TheVariants.{None, Some}
use Rattle.std.specs.Map.{set_value}
use Rattle.mi_value.specs.declared.value.Value.{Value}
use Rattle.mi_value.specs.Order.{compare_key}
use Rattle.mi_catalog.specs.declared.index.Index.{Index}
use Rattle.mi_catalog.specs.Shape.{Shape}
use Rattle.mi_model.specs.Table.{Table, row, list_of}
use Rattle.mi_model.specs.View.{of_key}

-- e directly before b
abbrev pub stand_before : ℕ → ℕ → List ℕ → List ℕ
stand_before b e [] = e ∷ []
stand_before b e (a ∷ ids) = if a == b then e ∷ a ∷ ids else a ∷ stand_before b e ids

-- e directly before the id that is given, or last
abbrev pub stand : Option ℕ → ℕ → List ℕ → List ℕ
stand None e ids = ids ++ e ∷ []
stand (Some b) e ids = stand_before b e ids

-- the list without e
abbrev pub without : ℕ → List ℕ → List ℕ
without e ids = filter (λ a. not (a == e)) ids

-- e at the end of every list, except that in the index that is given it stands before the id that is given
abbrev pub added : Option (ℕ × ℕ) → ℕ → List (List ℕ) → List (List ℕ)
added None e lists = map (stand None e) lists
added (Some at) e lists = slice_set (map (stand None e) lists) at.0 (stand_before at.1 e (slice_index_or lists at.0 []))

-- a new row
abbrev pub insert : Option (ℕ × ℕ) → List Value → Table → Table
insert at r t = record t {
  rows = t.rows ++ (t.next, r) ∷ [];
  lists = added at t.next t.lists;
  next = t.next + 1;
  arrivals = t.arrivals + 1;
}

-- e goes last where its key in the index changes; an index without parts sees no change
abbrev pub moved_in : Index → List Value → List Value → ℕ → List ℕ → List ℕ
moved_in i old new e ids = if is_eq (compare_key i.parts old new) then ids else without e ids ++ e ∷ []

-- the same in the list of each index
abbrev pub moved : List Index → List Value → List Value → ℕ → List (List ℕ) → List (List ℕ)
moved [] old new e lists = lists
moved (i ∷ is) old new e [] = []
moved (i ∷ is) old new e (ids ∷ lists) = moved_in i old new e ids ∷ moved is old new e lists

-- another record for e
abbrev pub put : Shape → ℕ → List Value → Table → Table
put s e r t = record t {
  rows = set_value (λ a. a == e) t.rows r;
  lists = moved s.indexes (row t e).1 r e t.lists;
  arrivals = t.arrivals + 1;
}

-- no row e any more
abbrev pub erase : ℕ → Table → Table
erase e t = record t { rows = filter (λ r. not (r.0 == e)) t.rows; lists = map (without e) t.lists }

-- none of these rows any more
abbrev pub erase_all : List ℕ → Table → Table
erase_all ids t = fold (λ left e. erase e left) t ids

abbrev pub erase_key : Shape → ℕ → List Value → Table → Table
erase_key s x key t = erase_all (of_key s t x key) t

-- e directly before b, or last; where both are one row nothing changes
abbrev pub relocated : Option ℕ → ℕ → List ℕ → List ℕ
relocated None e ids = stand None e (without e ids)
relocated (Some b) e ids = if b == e then ids else stand (Some b) e (without e ids)

-- e at another place of a sequenced index
abbrev pub relocate : ℕ → ℕ → Option ℕ → Table → Table
relocate x e b t = record t { lists = slice_set t.lists x (relocated b e (list_of t x)) }
