-- How many keys of an index are less than a key, or with `is_upper` not greater.
use Rattle.std.specs.Prelude.{ℕ, Bool, true, false, List}
use Rattle.mi_value.specs.declared.value.Value.{Value}
use Rattle.mi_catalog.specs.Shape.{Shape}
use Rattle.mi_model.specs.Table.{Table}
use Rattle.mi_model.specs.LookUp as look

abbrev pub rank_of_bound : Bool → Shape → Table → ℕ → List Value → ℕ
rank_of_bound false s t x key = look.lower_rank s t x key
rank_of_bound true s t x key = look.upper_rank s t x key
