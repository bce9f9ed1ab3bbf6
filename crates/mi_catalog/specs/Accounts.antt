-- The schema that is served where no other is given.
use Rattle.std.specs.Prelude.{true, false, [], ◌∷◌, codes}
use Rattle.mi_value.specs.declared.value.ColumnType.TheVariants as column
use Rattle.mi_value.specs.declared.limits.TheConstants.{DEFAULT_MAX_ROWS}
use Rattle.mi_catalog.specs.declared.index.IndexKind.TheVariants.{Ranked, Ordered, Hashed, Sequenced}
use Rattle.mi_catalog.specs.Shape.{Shape}

-- accounts by owner, balance, vip and class, and in a line of their own
abbrev pub accounts : Shape
accounts = record {
  table_name = codes "accounts";
  columns =
      record { name = codes "owner"; kind = column.Text }
      ∷ record { name = codes "balance"; kind = column.Int }
      ∷ record { name = codes "vip"; kind = column.Flag } ∷ [];
  indexes =
      record { name = codes "id"; kind = Ranked; «unique» = true; parts = [] }
      ∷ record { name = codes "by_owner"; kind = Hashed; «unique» = true; parts = record { column = 0; descending = false } ∷ [] }
      ∷ record { name = codes "by_balance"; kind = Ranked; «unique» = false; parts = record { column = 1; descending = false } ∷ [] }
      ∷ record { name = codes "by_vip"; kind = Hashed; «unique» = false; parts = record { column = 2; descending = false } ∷ [] }
      ∷ record {
        name = codes "by_class";
        kind = Ordered;
        «unique» = false;
        parts = record { column = 2; descending = true } ∷ record { column = 1; descending = false } ∷ [];
      }
      ∷ record { name = codes "line"; kind = Sequenced; «unique» = false; parts = [] }
      ∷ [];
  first_id = 0;
  first_arrival = 0;
  first_revision = 0;
  max_rows = DEFAULT_MAX_ROWS;
}
