-- The changes of data at work on a small table: what is remembered, and that all is given back. Each statement is proved by computation.
use Rattle.std.specs.Prelude.{◌≡◌, ℕ, pos, Bool, true, false, List, [], ◌∷◌}
use Rattle.std.specs.declared.option.Option.{Option}
use Rattle.std.specs.declared.option.Option.TheVariants.{None, Some}
use Rattle.mi_value.specs.declared.value.Value.{Value}
use Rattle.mi_value.specs.declared.value.Value.TheVariants.{Int, Flag}
use Rattle.mi_catalog.specs.declared.index.IndexKind.TheVariants.{Ranked, Hashed, Sequenced}
use Rattle.mi_catalog.specs.Shape.{Shape}
use Rattle.mi_model.specs.View.{view}
use Rattle.mi_node.specs.Refs.{Ref}
use Rattle.mi_container.specs.Data.{Link, Data, as_table, kept_of, ids_of}
use Rattle.mi_container.specs.Changes.{opened_data}
use Rattle.mi_container.specs.Inverse.{RowRef, OldPlace}
use Rattle.mi_container.specs.Inverse.Inverse.{Put, Erased, Relocated}
use Rattle.mi_container.specs.Run.{Change, after_changes, inverses, all_back}
use Rattle.mi_container.specs.Run.Change.{Insert, Replace, Erase, Relocate}

-- the indexes: id, by_balance, by_vip (hashed) and line (sequenced)
abbrev pub small_shape : Shape
small_shape = record {
  table_name = [];
  columns = [];
  indexes =
      record { name = []; kind = Ranked; «unique» = true; parts = [] }
      ∷ record { name = []; kind = Ranked; «unique» = false; parts = record { column = 0; descending = false } ∷ [] }
      ∷ record { name = []; kind = Hashed; «unique» = false; parts = record { column = 1; descending = false } ∷ [] }
      ∷ record { name = []; kind = Sequenced; «unique» = false; parts = [] }
      ∷ [];
  first_id = 0;
  first_arrival = 0;
  first_revision = 0;
  max_rows = 1000000;
}

abbrev pub small_record : ℕ → Bool → List Value
small_record balance vip = Int (pos balance) ∷ Flag vip ∷ []

-- the node of a name
abbrev pub node : ℕ → Ref
node name = record { name = name; generation = 0 }

-- four rows, the last directly before row 1 in the line
abbrev pub data_before : Data
data_before =
    after_changes (Insert None (node 10) (small_record 7 false) ∷ Insert None (node 11) (small_record 7 true) ∷ Insert None (node 12) (small_record 7 false)
    ∷ Insert (Some (3, 1)) (node 13) (small_record 7 true) ∷ []) (opened_data small_shape)

-- 1 and its neighbour 3 are erased, 0 gets another balance and its old one again, 2 goes first in the line
abbrev pub changes : List Change
changes = Erase 1 None ∷ Erase 3 None ∷ Replace 0 (small_record 9 false) ∷ Replace 0 (small_record 7 false) ∷ Relocate 3 2 (Some 0) ∷ []

abbrev pub data_after : Data
data_after = after_changes changes data_before

-- the line, and the rows by balance: 0 now stands behind its equal
abbrev pub ChangesAreSeen : Type 0
ChangesAreSeen = (view small_shape (as_table data_before) 3 ≡ 0 ∷ 3 ∷ 1 ∷ 2 ∷ []) × (view small_shape (as_table data_after) 3 ≡ 2 ∷ 0 ∷ [])
    × (view small_shape (as_table data_after) 1 ≡ 2 ∷ 0 ∷ []) × (ids_of data_after.kept ≡ 1 ∷ 3 ∷ [])

abbrev pub no_neighbours : Link
no_neighbours = record { back = None; forth = None }

-- 1 remembers the vip behind it, and 3 before and 2 behind it in the line; the node of 3 is kept by then, and is live again when 1 comes back
abbrev pub NeighboursAreRemembered : Type 0
NeighboursAreRemembered = (kept_of data_after.kept 1 ≡ Some (record {
  node = record { at = node 11; content = record { values = small_record 7 true; stamps = 0 ∷ 1 ∷ 1 ∷ 0 ∷ [] } };
  links =
      no_neighbours ∷ no_neighbours ∷ record { back = None; forth = Some (node 13) } ∷ record { back = Some (node 13); forth = Some (node 12) } ∷ [];
}))

abbrev pub named_row : ℕ → ℕ → RowRef
named_row e name = record { id = e; at = node name }

abbrev pub some_place : ℕ → Option OldPlace
some_place stamp = Some (record { stamp = stamp; link = no_neighbours })

-- a put keeps the old record, and the old stamp of the one key that changed
abbrev pub InversesAreSmall : Type 0
InversesAreSmall = (inverses changes data_before
    ≡ Relocated 3 (named_row 2 12) None
    ∷ Put (named_row 0 10) (record { values = small_record 9 false; places = None ∷ some_place 4 ∷ None ∷ None ∷ [] })
    ∷ Put (named_row 0 10) (record { values = small_record 7 false; places = None ∷ some_place 0 ∷ None ∷ None ∷ [] })
    ∷ Erased (named_row 3 13) None ∷ Erased (named_row 1 11) None ∷ [])

-- all taken back: the data before, 0 first among its equals again
abbrev pub AllIsGivenBack : Type 0
AllIsGivenBack = (all_back (inverses changes data_before) data_after ≡ data_before)
    × (view small_shape (as_table (all_back (inverses changes data_before) data_after)) 1 ≡ 0 ∷ 1 ∷ 2 ∷ 3 ∷ [])
