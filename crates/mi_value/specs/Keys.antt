-- Keys.
--     values_in      the list of the values of a key
use Rattle.std.specs.Prelude.{List, [], ◌∷◌}
use Rattle.mi_value.specs.declared.value.Value.{Value}
use Rattle.mi_value.specs.declared.bound.KeyValues.{KeyValues}
use Rattle.mi_value.specs.declared.bound.KeyValues.TheVariants.{One, Many}

abbrev pub values_in : KeyValues → List Value
values_in (One v) = v ∷ []
values_in (Many vs) = vs.items
