-- What an index shows of a table.
use Rattle.std.specs.Prelude.{ℕ, if◌then◌else◌, List, [], ◌∷◌}
use Rattle.std.specs.List.{filter, fold}
use Rattle.std.specs.Ordering.{is_lt, is_eq}
use Rattle.std.specs.declared.cmp.Ordering.{Ordering}
use Rattle.mi_value.specs.declared.value.Value.{Value}
use Rattle.mi_catalog.specs.declared.index.Index.{Index}
use Rattle.mi_catalog.specs.declared.index.IndexKind.{IndexKind}
use Rattle.mi_catalog.specs.declared.index.IndexKind.TheVariants.{Ordered, Ranked, Hashed, Sequenced}
use Rattle.mi_catalog.specs.Shape.{Shape, index_at}
use Rattle.mi_catalog.specs.Key.{compare_rows, compare_to_row}
use Rattle.mi_model.specs.Table.{Table, row, list_of}

-- two ids by the keys of their rows
abbrev pub compare_ids : Index → Table → ℕ → ℕ → Ordering
compare_ids i t a b = compare_rows i.parts (row t a) (row t b)

-- a key, or the first values of one, against the key of an id's row
abbrev pub compare_to_id : Index → Table → List Value → ℕ → Ordering
compare_to_id i t key id = compare_to_row i.parts key (row t id)

-- an id goes before the first that is greater, so last among its equals
abbrev pub place : (ℕ → ℕ → Ordering) → ℕ → List ℕ → List ℕ
place order e [] = e ∷ []
place order e (a ∷ ids) = if is_lt (order e a) then e ∷ a ∷ ids else a ∷ place order e ids

-- the ids in order, equal ones as they stand
abbrev pub sorted : (ℕ → ℕ → Ordering) → List ℕ → List ℕ
sorted order ids = fold (λ done e. place order e done) [] ids

-- an ordered or ranked index shows its list sorted by key; the others show it as it is
abbrev pub shown : IndexKind → (ℕ → ℕ → Ordering) → List ℕ → List ℕ
shown Ordered order ids = sorted order ids
shown Ranked order ids = sorted order ids
shown Hashed order ids = ids
shown Sequenced order ids = ids

-- the one list that an index shows
abbrev pub view : Shape → Table → ℕ → List ℕ
view s t x = shown (index_at s x).kind (compare_ids (index_at s x) t) (list_of t x)

-- its ids of one key; this is all that a hashed index shows
abbrev pub of_key : Shape → Table → ℕ → List Value → List ℕ
of_key s t x key = filter (λ id. is_eq (compare_to_id (index_at s x) t key id)) (view s t x)
