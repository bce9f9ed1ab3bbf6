-- What the look-ups answer. A rank is the number of rows before.
use Rattle.std.specs.Prelude.{◌≡◌, ℕ, ◌+◌, zero, suc, true, IsTrue, ◌==◌, List, length, slice_get}
use Rattle.std.specs.List.{filter, count_by, position_or_len, before_first}
use Rattle.std.specs.Ordering.{is_lt, is_eq, is_gt, is_ge}
use Rattle.std.specs.declared.option.Option.{Option}
use Rattle.std.specs.declared.option.Option.TheVariants.{None}
use Rattle.mi_value.specs.declared.value.Value.{Value}
use Rattle.mi_catalog.specs.Shape.{Shape, index_at}
use Rattle.mi_catalog.specs.Kinds.{is_sorted}
use Rattle.mi_catalog.specs.Key.{compare_rows}
use Rattle.mi_model.specs.Table.{Table, IsTable, has, row, list_of}
use Rattle.mi_model.specs.View.{view, of_key, compare_ids, compare_to_id}

-- the number of ids before e
abbrev pub rank_in : List ℕ → ℕ → ℕ
rank_in ids e = position_or_len (λ a. a == e) ids

-- the id before place n
abbrev pub before_place : List ℕ → ℕ → Option ℕ
before_place ids zero = None
before_place ids (suc n) = slice_get ids n

-- the id after e, and the one before it
abbrev pub after_in : List ℕ → ℕ → Option ℕ
after_in ids e = slice_get ids (rank_in ids e + 1)

abbrev pub before_in : List ℕ → ℕ → Option ℕ
before_in ids e = before_place ids (rank_in ids e)

abbrev pub rank : Shape → Table → ℕ → ℕ → ℕ
rank s t x e = rank_in (view s t x) e

abbrev pub nth : Shape → Table → ℕ → ℕ → Option ℕ
nth s t x n = slice_get (view s t x) n

-- how many keys are less than the key, and how many are not greater
abbrev pub lower_rank : Shape → Table → ℕ → List Value → ℕ
lower_rank s t x key = count_by (λ id. is_gt (compare_to_id (index_at s x) t key id)) (view s t x)

abbrev pub upper_rank : Shape → Table → ℕ → List Value → ℕ
upper_rank s t x key = count_by (λ id. is_ge (compare_to_id (index_at s x) t key id)) (view s t x)

-- the first id of a key, and how many it has
abbrev pub find : Shape → Table → ℕ → List Value → Option ℕ
find s t x key = slice_get (of_key s t x key) 0

abbrev pub count : Shape → Table → ℕ → List Value → ℕ
count s t x key = length (of_key s t x key)

-- the first id whose key is not less, and the first whose key is greater
abbrev pub lower : Shape → Table → ℕ → List Value → Option ℕ
lower s t x key = nth s t x (lower_rank s t x key)

abbrev pub upper : Shape → Table → ℕ → List Value → Option ℕ
upper s t x key = nth s t x (upper_rank s t x key)

-- the ends of what an index shows, and the neighbours of an id in it
abbrev pub first : Shape → Table → ℕ → Option ℕ
first s t x = slice_get (view s t x) 0

abbrev pub last : Shape → Table → ℕ → Option ℕ
last s t x = before_place (view s t x) (length (view s t x))

abbrev pub after : Shape → Table → ℕ → ℕ → Option ℕ
after s t x e = after_in (view s t x) e

abbrev pub before : Shape → Table → ℕ → ℕ → Option ℕ
before s t x e = before_in (view s t x) e

-- the first id of a key, and the one that follows an id among those of its key
abbrev pub first_with_key : Shape → Table → ℕ → List Value → Option ℕ
first_with_key = find

abbrev pub next_with_key : Shape → Table → ℕ → ℕ → Option ℕ
next_with_key s t x e = after_in (filter (λ id. is_eq (compare_ids (index_at s x) t e id)) (view s t x)) e

-- the rank of a row is the number of rows of a smaller key, and of those of the same key that stand earlier in the index's list
abbrev pub RanksCountRows : Type 0
RanksCountRows = (s : Shape) (t : Table) (x e : ℕ) → IsTable s t → IsTrue (is_sorted (index_at s x).kind) → has t e ≡ true
    → rank s t x e ≡ count_by (λ r. is_lt (compare_rows (index_at s x).parts r (row t e))) t.rows
    + count_by (λ id. is_eq (compare_ids (index_at s x) t id e)) (before_first (λ id. id == e) (list_of t x))
