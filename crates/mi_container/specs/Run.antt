-- Runs of changes of a container, and what takes a run back.
use Rattle.std.specs.Prelude.{◌≡◌, ℕ, List, [], ◌∷◌, ◌++◌}
use Rattle.std.specs.declared.option.Option.{Option}
use Rattle.std.specs.declared.option.Option.TheVariants.{None, Some}
use Rattle.mi_value.specs.declared.value.Value.{Value}
use Rattle.mi_catalog.specs.Shape.{Shape}
use Rattle.mi_model.specs.Conflict.{conflict}
use Rattle.mi_model.specs.Table.{Table}
use Rattle.mi_model.specs.Change.{insert, put, erase, relocate}
use Rattle.mi_node.specs.Refs.{Ref}
use Rattle.mi_container.specs.Data.{Order, Data, order_at, as_table}
use Rattle.mi_container.specs.Changes.{inserted, replaced, erased, relocated_in}
use Rattle.mi_container.specs.Inverse.{Inverse, insert_inverse, put_inverse, erase_inverse, relocate_inverse, id_named, taken_back}
use Rattle.mi_container.specs.Fits.{IsThere, HasOwnList}

-- an accepted change; an insert has the reference of its node, an erase may be a modify that lost its row to an index and id
pub data Change : Type 0 where
  Insert : Option (ℕ × ℕ) → Ref → List Value → Change
  Replace : ℕ → List Value → Change
  Erase : ℕ → Option (ℕ × ℕ) → Change
  Relocate : ℕ → ℕ → Option ℕ → Change

abbrev pub changed : Change → Data → Data
changed (Insert p at r) d = inserted p at r d
changed (Replace e r) d = replaced e r d
changed (Erase e why) d = erased e d
changed (Relocate x e b) d = relocated_in x e b d

abbrev pub inverse_of : Change → Data → Inverse
inverse_of (Insert p at r) d = insert_inverse at d
inverse_of (Replace e r) d = put_inverse e r d
inverse_of (Erase e why) d = erase_inverse e why d
inverse_of (Relocate x e b) d = relocate_inverse x e b d

-- the change of a table
abbrev pub table_changed : Shape → Change → Table → Table
table_changed s (Insert p at r) t = insert p r t
table_changed s (Replace e r) t = put s e r t
table_changed s (Erase e why) t = erase e t
table_changed s (Relocate x e b) t = relocate x e b t

-- a place that is given is in an index with a list of its own
abbrev pub PlaceFits : Option (ℕ × ℕ) → List Order → Type 0
PlaceFits None os = Unit {0}
PlaceFits (Some p) os = HasOwnList (order_at os p.0)

-- what is asked of a change: a new node, no conflict, a row that is there, an index with a list of its own
abbrev pub Allowed : Shape → Change → Data → Type 0
Allowed s (Insert p at r) d = PlaceFits p d.orders × (id_named at.name d.rows ≡ None) × (conflict s (as_table d) r None ≡ None)
Allowed s (Replace e r) d = IsThere d.rows e × (conflict s (as_table d) r (Some e) ≡ None)
Allowed s (Erase e why) d = IsThere d.rows e
Allowed s (Relocate x e b) d = IsThere d.rows e × HasOwnList (order_at d.orders x)

-- Runs

abbrev pub after_changes : List Change → Data → Data
after_changes [] d = d
after_changes (c ∷ cs) d = after_changes cs (changed c d)

abbrev pub AllAllowed : Shape → List Change → Data → Type 0
AllAllowed s [] d = Unit {0}
AllAllowed s (c ∷ cs) d = Allowed s c d × AllAllowed s cs (changed c d)

-- the inverses of a run, the newest first
abbrev pub inverses : List Change → Data → List Inverse
inverses [] d = []
inverses (c ∷ cs) d = inverses cs (changed c d) ++ inverse_of c d ∷ []

-- inverses taken back, the newest first
abbrev pub all_back : List Inverse → Data → Data
all_back [] d = d
all_back (i ∷ is) d = all_back is (taken_back i d)

abbrev pub table_run : Shape → List Change → Table → Table
table_run s [] t = t
table_run s (c ∷ cs) t = table_run s cs (table_changed s c t)
