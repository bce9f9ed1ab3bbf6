-- Tables that show the same answer look-ups alike.
-- Cited by `AlikeLaws` and `mi_sessions`.
use Rattle.std.proofs.Common.{◌≡◌, ◌≢◌, ℕ, ◌<◌, zero, suc, cond, ◌&&◌, List, [], ◌∷◌, length, get_or, slice_get, reverse, refl, ap, ap₂, sym, ◌∙◌, subst, arith}
use Rattle.std.specs.Prelude.{◌==◌, pos}
use Rattle.std.specs.List.{filter, count_by, after_first, AllZip, AllByRecursion}
use Rattle.std.specs.Ordering.{is_eq, is_gt, is_ge, ordering_then}
use Rattle.std.specs.declared.option.Option.{Option}
use Rattle.std.specs.declared.option.Option.TheVariants.{None, Some}
use Rattle.mi_value.specs.declared.value.Value.{Value}
use Rattle.mi_value.specs.declared.value.Value.TheVariants.{Int}
use Rattle.mi_value.specs.declared.bound.Lower.{Lower}
use Rattle.mi_value.specs.declared.bound.Lower.TheVariants as lower
use Rattle.mi_value.specs.declared.bound.Upper.{Upper}
use Rattle.mi_value.specs.declared.bound.Upper.TheVariants as upper
use Rattle.mi_value.specs.declared.compare.KeyPart.{KeyPart}
use Rattle.mi_value.specs.Order.{compare_key, compare_prefix, compare_missing, directed}
use Rattle.mi_catalog.specs.declared.index.Index.{Index}
use Rattle.mi_catalog.specs.declared.index.IndexKind.{IndexKind}
use Rattle.mi_catalog.specs.declared.index.IndexKind.TheVariants.{Ordered, Ranked, Hashed, Sequenced}
use Rattle.mi_catalog.specs.Shape.{Shape, schema_at, index_at}
use Rattle.mi_catalog.specs.Key.{Row, compare_rows, compare_to_row, IsWholeKey}
use Rattle.mi_model.specs.Table.{Table, get, row, size}
use Rattle.mi_model.specs.View.{view, of_key, compare_ids, compare_to_id}
use Rattle.mi_model.specs.Conflict.{conflict}
use Rattle.mi_model.specs.LookUp.{rank_in, after_in, before_place, before_in, lower_rank, upper_rank, next_with_key}
use Rattle.mi_model.specs.Page.{page_of, meets_lower, meets_upper, between, list}
use Rattle.mi_model.specs.Database.{schema_of, table_of}
use Rattle.mi_model.specs.Same.{SameView, SameTable, SameTables}
use Rattle.mi_model.specs.Alike.{HasWholeKey, KeyedAlike, ListedAlike, TablesAlike, LookUpsAnswerAlike}
use Rattle.mi_model.proofs.SameLaws.{with_lists, same_refl, asked, same_of_key}

-- an index that isn't hashed shows one list
listed : (kind : IndexKind) (s : Shape) (x : ℕ) (t u : Table) → kind ≢ Hashed → SameView kind s x t u → view s t x ≡ view s u x
listed Hashed s x t u isnt same = absurd (isnt refl)
listed Ordered s x t u isnt same = same
listed Ranked s x t u isnt same = same
listed Sequenced s x t u isnt same = same

-- a value that is there
value_at : (r : List Value) (n : ℕ) → n < length r → (v : Value) × (slice_get r n ≡ Some v)
value_at [] n l = absurd (omega arith)
value_at (v ∷ r) zero l = (v, refl)
value_at (v ∷ r) (suc n) l = value_at r n (omega arith)

-- a record with a value for each part is compared as the key of these values
record KeyOf (ps : List KeyPart) (r : List Value) : Type 0 where
  key : List Value
  long : length key ≡ length ps
  compares : (q : List Value) → compare_key ps r q ≡ compare_prefix ps key q

whole_key : (ps : List KeyPart) (r : List Value) → AllByRecursion (λ p. p.column < length r) ps → KeyOf ps r
whole_key [] r all = record { key = []; long = refl; compares = λ q. refl }
whole_key (p ∷ ps) r all =
    let v : (v : Value) × (slice_get r p.column ≡ Some v) = value_at r p.column all.0 in
    let rest : KeyOf ps r = whole_key ps r all.1 in
    record {
      key = v.0 ∷ rest.key;
      long = ap suc rest.long;
      compares = λ q. ap₂ (λ o below. ordering_then (directed p.descending (compare_missing o (slice_get q p.column))) below) v.1 (rest.compares q);
    }

record KeyOfRow (ps : List KeyPart) (row : Row) : Type 0 where
  key : List Value
  whole : IsWholeKey ps key
  compares : (q : Row) → compare_rows ps row q ≡ compare_to_row ps key q

key_of_row : (ps : List KeyPart) (e : ℕ) (r : List Value) → AllByRecursion (λ p. p.column < length r) ps → KeyOfRow ps (e, r)
key_of_row [] e r all = record { key = Int (pos e) ∷ []; whole = refl; compares = λ q. refl }
key_of_row (p ∷ ps) e r all = let k : KeyOf (p ∷ ps) r = whole_key (p ∷ ps) r all in record { key = k.key; whole = k.long; compares = λ q. k.compares q.1 }

-- the ids of a row's key are the ids of the key of its values
ids_beside : (s : Shape) (x e : ℕ) (t : Table) (key : List Value)
    → ((q : Row) → compare_rows (index_at s x).parts (row t e) q ≡ compare_to_row (index_at s x).parts key q)
    → filter (λ id. is_eq (compare_ids (index_at s x) t e id)) (view s t x) ≡ of_key s t x key
ids_beside s x e t key same = λ i. filter (λ id. is_eq (same (row t id) i)) (view s t x)

same_row : (t u : Table) → t.rows ≡ u.rows → (e : ℕ) → row t e ≡ row u e
same_row t u rows e = ap (λ rs. row (with_lists rs [] 0 0) e) rows

next_alike : (s : Shape) (x : ℕ) (t u : Table) → SameTable s t u → (e : ℕ) → HasWholeKey s x t e → next_with_key s t x e ≡ next_with_key s u x e
next_alike s x t u same e whole =
    let k : KeyOfRow (index_at s x).parts (row t e) = key_of_row (index_at s x).parts e (row t e).1 whole in
    ap (λ ids. after_in ids e)
    (ids_beside s x e t k.key k.compares ∙ same_of_key s x k.key t u (asked (index_at s x).kind (index_at s x).parts k.key k.whole) same
    ∙ sym (ids_beside s x e u k.key (λ q. ap (λ r. compare_rows (index_at s x).parts r q) (sym (same_row t u same.rows e)) ∙ k.compares q)))

keyed_alike : (s : Shape) (x : ℕ) (t u : Table) → SameTable s t u → KeyedAlike s x t u
keyed_alike s x t u same =
    record {
      find = λ key asks. ap (λ ids. slice_get ids 0) (same_of_key s x key t u asks same);
      count = λ key asks. ap length (same_of_key s x key t u asks same);
      first_of = λ key whole. ap (λ ids. slice_get ids 0) (same_of_key s x key t u (asked (index_at s x).kind (index_at s x).parts key whole) same);
      next_of = next_alike s x t u same;
    }

-- an id meets a bound in both
meets_lower_alike : (i : Index) (t u : Table) → t.rows ≡ u.rows → (low : Lower) (id : ℕ) → meets_lower i t low id ≡ meets_lower i u low id
meets_lower_alike i t u rows lower.All id = refl
meets_lower_alike i t u rows (lower.From key) id = ap (λ rs. meets_lower i (with_lists rs [] 0 0) (lower.From key) id) rows
meets_lower_alike i t u rows (lower.Beyond key) id = ap (λ rs. meets_lower i (with_lists rs [] 0 0) (lower.Beyond key) id) rows

meets_upper_alike : (i : Index) (t u : Table) → t.rows ≡ u.rows → (high : Upper) (id : ℕ) → meets_upper i t high id ≡ meets_upper i u high id
meets_upper_alike i t u rows upper.All id = refl
meets_upper_alike i t u rows (upper.UpTo key) id = ap (λ rs. meets_upper i (with_lists rs [] 0 0) (upper.UpTo key) id) rows
meets_upper_alike i t u rows (upper.Below key) id = ap (λ rs. meets_upper i (with_lists rs [] 0 0) (upper.Below key) id) rows

-- of the same rows in the same list
module _ (s : Shape) (x : ℕ) (t u : Table) (rows : t.rows ≡ u.rows) (shows : view s t x ≡ view s u x) where
  -- what is counted or filtered by keys
  by_rows : {A : Type 0} (f : Table → List ℕ → A) → f (with_lists t.rows [] 0 0) (view s t x) ≡ f (with_lists u.rows [] 0 0) (view s u x)
  by_rows f = ap₂ (λ rs ids. f (with_lists rs [] 0 0) ids) rows shows

  lower_rank_alike : (key : List Value) → lower_rank s t x key ≡ lower_rank s u x key
  lower_rank_alike key = by_rows (λ v ids. count_by (λ id. is_gt (compare_to_id (index_at s x) v key id)) ids)

  upper_rank_alike : (key : List Value) → upper_rank s t x key ≡ upper_rank s u x key
  upper_rank_alike key = by_rows (λ v ids. count_by (λ id. is_ge (compare_to_id (index_at s x) v key id)) ids)

  list_alike : (e : Option ℕ) (limit : ℕ) → list s t x e limit ≡ list s u x e limit
  list_alike None limit = ap (page_of limit) shows
  list_alike (Some e) limit = ap (λ ids. page_of limit (after_first (λ a. a == e) ids)) shows

  between_alike : (low : Lower) (high : Upper) → between s t x low high ≡ between s u x low high
  between_alike low high = λ i. filter
      (λ id. meets_lower_alike (index_at s x) t u rows low id i && meets_upper_alike (index_at s x) t u rows high id i) (shows i)

  listed_alike : ListedAlike s x t u
  listed_alike =
      record {
        rank = λ e. ap (λ ids. rank_in ids e) shows;
        nth = λ n. ap (λ ids. slice_get ids n) shows;
        lower_rank = lower_rank_alike;
        upper_rank = upper_rank_alike;
        lower = λ key. ap₂ (λ ids n. slice_get ids n) shows (lower_rank_alike key);
        upper = λ key. ap₂ (λ ids n. slice_get ids n) shows (upper_rank_alike key);
        first = ap (λ ids. slice_get ids 0) shows;
        last = ap (λ ids. before_place ids (length ids)) shows;
        after = λ e. ap (λ ids. after_in ids e) shows;
        before = λ e. ap (λ ids. before_in ids e) shows;
        next_of = λ e. by_rows (λ v ids. after_in (filter (λ id. is_eq (compare_ids (index_at s x) v e id)) ids) e);
        range = λ low high reversed limit. ap (λ ids. page_of limit (cond reversed (reverse ids) ids)) (between_alike low high);
        list = list_alike;
      }

tables_alike : (s : Shape) (t u : Table) → SameTable s t u → TablesAlike s t u
tables_alike s t u same =
    record {
      get = λ id. ap (λ rs. get (with_lists rs [] 0 0) id) same.rows;
      size = ap (λ rs. size (with_lists rs [] 0 0)) same.rows;
      conflict = λ r except. ap (λ rs. conflict s (with_lists rs [] 0 0) r except) same.rows;
      keyed = λ x. keyed_alike s x t u same;
      listed = λ x isnt. listed_alike s x t u same.rows (listed (index_at s x).kind s x t u isnt (same.views x));
    }

-- table by table
pub same_at : (shapes : List Shape) (ts us : List Table) (n : ℕ) (ds : Shape) (dt : Table)
    → SameTables shapes ts us → SameTable (get_or shapes n ds) (get_or ts n dt) (get_or us n dt)
same_at [] ts us n ds dt same = subst (SameTable ds (get_or ts n dt)) (ap (λ l. get_or l n dt) same) (same_refl ds (get_or ts n dt))
same_at (s ∷ shapes) [] [] n ds dt same = same_refl (get_or (s ∷ shapes) n ds) dt
same_at (s ∷ shapes) [] (u ∷ us) n ds dt same = absurd same
same_at (s ∷ shapes) (t ∷ ts) [] n ds dt same = absurd same
same_at (s ∷ shapes) (t ∷ ts) (u ∷ us) zero ds dt same = same.0
same_at (s ∷ shapes) (t ∷ ts) (u ∷ us) (suc n) ds dt same = same_at shapes ts us n ds dt same.1

pub zip_length : (R : List Table → List Table → Type 0) (xs ys : List (List Table)) → AllZip R xs ys → length xs ≡ length ys
zip_length R [] [] all = refl
zip_length R [] (y ∷ ys) all = absurd all
zip_length R (x ∷ xs) [] all = absurd all
zip_length R (x ∷ xs) (y ∷ ys) all = ap suc (zip_length R xs ys all.1)

pub look_ups_answer_alike : LookUpsAnswerAlike
look_ups_answer_alike d e same =
    record {
      tables = λ n. tables_alike (schema_of d n) (table_of d n) (table_of e n) (same_at d.catalog.tables d.tables e.tables n _ _ same.tables);
      schemas = λ n. ap (λ c. schema_at c n) same.catalog;
      revision = same.revision;
      depth = zip_length (SameTables d.catalog.tables) d.old e.old same.old;
    }
