-- In which indexes another record has another key.
--     is_changed      two records have different keys by these parts
--     changed_keys      so for each index
--     changed_by      so of a live row's record and another one for it
use Rattle.std.specs.Prelude.{ℕ, Bool, not, List, map}
use Rattle.std.specs.Ordering.{is_eq}
use Rattle.mi_value.specs.declared.value.Value.{Value}
use Rattle.mi_value.specs.declared.compare.KeyPart.{KeyPart}
use Rattle.mi_value.specs.Order.{compare_key}
use Rattle.mi_catalog.specs.declared.index.Index.{Index}
use Rattle.mi_container.specs.Data.{content_of}
use Rattle.mi_multi.specs.Seen.{Seen}

abbrev pub is_changed : List KeyPart → List Value → List Value → Bool
is_changed parts old new = not (is_eq (compare_key parts old new))

abbrev pub changed_keys : List Index → List Value → List Value → List Bool
changed_keys is old new = map (λ i. is_changed i.parts old new) is

abbrev pub changed_by : Seen → ℕ → List Value → List Bool
changed_by w e new = changed_keys w.shape.indexes (content_of w.plain.rows e).values new
