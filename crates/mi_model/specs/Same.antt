-- When two tables, and two databases, show the same.
use Rattle.std.specs.Prelude.{◌≡◌, ℕ, List, [], ◌∷◌}
use Rattle.std.specs.List.{AllZip}
use Rattle.mi_value.specs.declared.value.Value.{Value}
use Rattle.mi_catalog.specs.declared.index.IndexKind.{IndexKind}
use Rattle.mi_catalog.specs.declared.index.IndexKind.TheVariants.{Hashed}
use Rattle.mi_catalog.specs.Shape.{Shape, index_at}
use Rattle.mi_catalog.specs.Key.{IsWholeKey}
use Rattle.mi_model.specs.Table.{Table}
use Rattle.mi_model.specs.View.{view, of_key}
use Rattle.mi_model.specs.Database.{Database}

-- a hashed index shows the same for each whole key, and any other the same list
abbrev pub SameView : IndexKind → Shape → ℕ → Table → Table → Type 0
SameView Hashed s x t u = (key : List Value) → IsWholeKey (index_at s x).parts key → of_key s t x key ≡ of_key s u x key
SameView kind s x t u = view s t x ≡ view s u x

pub record SameTable (s : Shape) (t u : Table) : Type 0 where
  pub rows : t.rows ≡ u.rows
  pub next : t.next ≡ u.next
  pub arrivals : t.arrivals ≡ u.arrivals
  pub views : (x : ℕ) → SameView (index_at s x).kind s x t u

-- table by table
abbrev pub SameTables : List Shape → List Table → List Table → Type 0
SameTables [] ts us = ts ≡ us
SameTables (s ∷ shapes) [] [] = Unit {0}
SameTables (s ∷ shapes) (t ∷ ts) (u ∷ us) = SameTable s t u × SameTables shapes ts us
SameTables (s ∷ shapes) ts us = ⊥

pub record SameDatabase (d e : Database) : Type 0 where
  pub catalog : d.catalog ≡ e.catalog
  pub tables : SameTables d.catalog.tables d.tables e.tables
  pub old : AllZip (SameTables d.catalog.tables) d.old e.old
  pub revision : d.revision ≡ e.revision
