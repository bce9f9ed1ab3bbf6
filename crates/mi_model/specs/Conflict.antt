-- Which unique index refuses a record, and because of which row.
use Rattle.std.specs.Prelude.{ℕ, ◌+◌, Bool, ◌==◌, not, ◌&&◌, if◌then◌else◌, List, [], ◌∷◌, drop}
use Rattle.std.specs.Ordering.{is_eq}
use Rattle.std.specs.Option.{option_map, option_or}
use Rattle.std.specs.declared.option.Option.{Option}
use Rattle.std.specs.declared.option.Option.TheVariants.{None, Some}
use Rattle.mi_value.specs.declared.value.Value.{Value}
use Rattle.mi_value.specs.declared.compare.KeyPart.{KeyPart}
use Rattle.mi_value.specs.Order.{compare_key}
use Rattle.mi_catalog.specs.declared.index.Index.{Index}
use Rattle.mi_catalog.specs.Shape.{Shape}
use Rattle.mi_catalog.specs.Key.{Row}
use Rattle.mi_model.specs.Table.{Table}

-- whether a row, other than that of `except`, has r's key
abbrev pub is_rival : List KeyPart → List Value → Option ℕ → Row → Bool
is_rival parts r None row = is_eq (compare_key parts row.1 r)
is_rival parts r (Some e) row = not (row.0 == e) && is_eq (compare_key parts row.1 r)

-- the id of the first such row
abbrev pub rival : List Row → List KeyPart → List Value → Option ℕ → Option ℕ
rival [] parts r except = None
rival (row ∷ rows) parts r except = if is_rival parts r except row then Some row.0 else rival rows parts r except

-- the first unique index from number n on that has a rival of r, with that rival
abbrev pub conflict_from : ℕ → List Index → List Row → List Value → Option ℕ → Option (ℕ × ℕ)
conflict_from n [] rows r except = None
conflict_from n (i ∷ is) rows r except =
    option_or (if i.«unique» then option_map (λ id. (n, id)) (rival rows i.parts r except) else None) (conflict_from (n + 1) is rows r except)

-- index 0 is `id`, which no record conflicts with
abbrev pub conflict : Shape → Table → List Value → Option ℕ → Option (ℕ × ℕ)
conflict s t r except = conflict_from 1 (drop 1 s.indexes) t.rows r except
