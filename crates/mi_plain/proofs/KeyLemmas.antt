-- What an erase by key takes out.
-- Cited by `PlainTable::erase_key`.
use Rattle.std.proofs.Common.{◌≡◌, ℕ, Bool, List, length}
use Rattle.std.specs.Ordering.{is_eq}
use Rattle.std.specs.List.{filter}
use Rattle.mi_value.specs.declared.value.Value.{Value}
use Rattle.mi_catalog.specs.Shape.{Shape, index_at}
use Rattle.mi_model.specs.Table.{Table, list_of}
use Rattle.mi_model.specs.View.{of_key, compare_to_id, compare_ids}
use Rattle.mi_model.specs.Change.{erase_all, erase_key}
use Rattle.mi_model.proofs.EraseLaws.{count-shown, in-shown, erase_all-alike}

abbrev pub has_key : Shape → Table → ℕ → List Value → ℕ → Bool
has_key s t x key id = is_eq (compare_to_id (index_at s x) t key id)

-- as many rows have a key as ids of its list
pub count-of_key : (s : Shape) (t : Table) (x : ℕ) (key : List Value) → length (of_key s t x key) ≡ length (filter (has_key s t x key) (list_of t x))
count-of_key s t x key = count-shown (has_key s t x key) (index_at s x).kind (compare_ids (index_at s x) t) (list_of t x)

-- taking out the ids of its list is taking out the key
pub erase_key-is : (s : Shape) (t : Table) (x : ℕ) (key : List Value) → erase_key s x key t ≡ erase_all (filter (has_key s t x key) (list_of t x)) t
erase_key-is s t x key =
    erase_all-alike (of_key s t x key) (filter (has_key s t x key) (list_of t x))
    (in-shown (has_key s t x key) (index_at s x).kind (compare_ids (index_at s x) t) (list_of t x)) t
