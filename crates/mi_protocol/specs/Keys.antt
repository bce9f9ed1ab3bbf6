-- Keys: the values that the items of an array are.
use Rattle.std.specs.Prelude.{ℕ, Bool, false, List, [], ◌∷◌, if◌then◌else◌, Option, Some, None, option_map, option_and_then}
use Rattle.serde_json.specs.Data.{Data, null, boolean, number, string, array, object, Items, no_items, item}
use Rattle.serde_json.specs.Find.{as_i64}
use Rattle.mi_value.specs.declared.value.Value.{Value}
use Rattle.mi_value.specs.declared.value.Value.TheVariants as value
use Rattle.mi_value.specs.declared.bound.Lower.{Lower}
use Rattle.mi_value.specs.declared.bound.Lower.TheVariants as lower
use Rattle.mi_value.specs.declared.bound.Upper.{Upper}
use Rattle.mi_value.specs.declared.bound.Upper.TheVariants as upper
use Rattle.mi_catalog.specs.Shape.{Shape, index_at}
use Rattle.mi_catalog.specs.Fits.{fits_key}
use Rattle.mi_request.specs.Json.{option_map₂}
use Rattle.mi_request.specs.declared.request.Bound.{Bound}
use Rattle.mi_request.specs.declared.request.Bound.TheVariants.{Unbounded, Included, Excluded}

-- a whole number, a text, or true or false
abbrev pub plain_value : Data → Option Value
plain_value null = None
plain_value (boolean b) = Some (value.Flag b)
plain_value (number n) = option_map value.Int (as_i64 n)
plain_value (string s) = Some (value.Text s)
plain_value (array ds) = None
plain_value (object ms) = None

-- the values of all items, if each is one
abbrev pub plain_values : Items → Option (List Value)
plain_values no_items = Some []
plain_values (item d ds) = option_map₂ (λ v vs. v ∷ vs) (plain_value d) (plain_values ds)

-- values that are a key of index x, or where the key needn't be whole the first values of one
abbrev pub if_key : Shape → ℕ → Bool → List Value → Option (List Value)
if_key s x whole vs = if fits_key s.columns (index_at s x).parts whole vs then Some vs else None

-- the key of index x that items are
abbrev pub bound_key : Shape → ℕ → Bool → Items → Option (List Value)
bound_key s x whole ds = option_and_then (if_key s x whole) (plain_values ds)

-- the bounds of a range in index x, by keys or the first values of keys
abbrev pub bound_lower : Shape → ℕ → Bound → Option Lower
bound_lower s x Unbounded = Some lower.All
bound_lower s x (Included ds) = option_map lower.From (bound_key s x false ds)
bound_lower s x (Excluded ds) = option_map lower.Beyond (bound_key s x false ds)

abbrev pub bound_upper : Shape → ℕ → Bound → Option Upper
bound_upper s x Unbounded = Some upper.All
bound_upper s x (Included ds) = option_map upper.UpTo (bound_key s x false ds)
bound_upper s x (Excluded ds) = option_map upper.Below (bound_key s x false ds)
