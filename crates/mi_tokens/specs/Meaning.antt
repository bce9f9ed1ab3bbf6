-- What a JSON value means, as `serde_json` has it.
use Rattle.std.specs.Prelude.{ℕ, List, [], ◌∷◌, map}
use Rattle.std.specs.Borrow.{Bor}
use Rattle.serde_json.specs.Data.{Data, null, boolean, number, string, array, object, Items, no_items, item, Members, no_members, put}
use Rattle.serde_json.specs.Find.{of_integer}
use Rattle.serde_json.specs.View.{number_view}
use Rattle.mi_tokens.specs.declared.value.Json.{Json, fold-Json}
use Rattle.mi_tokens.specs.declared.value.Json.TheOpen.{Json-F}

abbrev pub items_in : List Data → Items
items_in [] = no_items
items_in (d ∷ ds) = item d (items_in ds)

-- the members put one after another onto those that were found, so the last of a name stays
abbrev pub members_onto : List (Bor (List ℕ) × Data) → Members → Members
members_onto [] found = found
members_onto (m ∷ ms) found = members_onto ms (put m.0.now m.1 found)

-- one level, where the meaning of each value inside is known
abbrev pub meaning_step : Json-F Data → Data
meaning_step Json-F.Null = null
meaning_step (Json-F.Bool b) = boolean b
meaning_step (Json-F.Whole z) = number (of_integer z)
meaning_step (Json-F.Number n) = number (number_view n)
meaning_step (Json-F.Text s) = string s.now
meaning_step (Json-F.Array xs) = array (items_in xs.now)
meaning_step (Json-F.Object ms) = object (members_onto ms.now no_members)

abbrev pub meaning : Json → Data
meaning = fold-Json Data meaning_step

abbrev pub items_meaning : List Json → Items
items_meaning xs = items_in (map meaning xs)

abbrev pub members_meaning : List (Bor (List ℕ) × Json) → Members → Members
members_meaning ms found = members_onto (map (λ m. (m.0, meaning m.1)) ms) found
