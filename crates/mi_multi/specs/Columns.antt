-- In which columns two records differ.
--     differ      two values do
--     changed_columns      a mark for each column, as far as both have values
--     AreFirst      the first of these marks
--     changes_column      an edit gives its column another value
--     has_column, keys_with      a key has a column; which indexes' keys have one that is changed
use Rattle.std.specs.Prelude.{◌≡◌, ℕ, pos, ◌==◌, Bool, true, false, not, cond, List, [], ◌∷◌, ◌++◌, map, slice_get}
use Rattle.std.specs.Option.{option_map_or}
use Rattle.std.specs.Ordering.{is_eq, int_eq}
use Rattle.mi_value.specs.declared.value.Value.{Value}
use Rattle.mi_value.specs.declared.compare.KeyPart.{KeyPart}
use Rattle.mi_value.specs.declared.edit.Edit.{Edit}
use Rattle.mi_value.specs.declared.edit.Edit.TheVariants.{Put, Add}
use Rattle.mi_value.specs.Order.{compare_value}
use Rattle.mi_catalog.specs.declared.index.Index.{Index}

abbrev pub differ : Value → Value → Bool
differ a b = not (is_eq (compare_value a b))

abbrev pub changed_columns : List Value → List Value → List Bool
changed_columns [] new = []
changed_columns (a ∷ old) [] = []
changed_columns (a ∷ old) (b ∷ new) = differ a b ∷ changed_columns old new

abbrev pub AreFirst : List Bool → List Value → List Value → Type 0
AreFirst marks old new = (rest : List Bool) × (marks ++ rest ≡ changed_columns old new)

-- where the edit makes a record of these values
abbrev pub changes_column : Edit → List Value → Bool
changes_column (Put c v) old = option_map_or (λ w. differ w v) (slice_get old c) false
changes_column (Add c n) old = not (int_eq n (pos 0))

abbrev pub has_column : ℕ → List KeyPart → Bool
has_column c [] = false
has_column c (p ∷ ps) = cond (p.column == c) true (has_column c ps)

abbrev pub keys_with : ℕ → Bool → List Index → List Bool
keys_with c changed is = map (λ i. cond changed (has_column c i.parts) false) is
