-- A container that is restored from a table: its rows come in by their ids, and then each index is put in the order of its list.
--     image_table      the table that an image is
--     restamped_in, restamped_all, raised_all      rows get other stamps in one index, the last one first or the first one first
--     Rising      ids that rise
--     moved_all      rows go to the end of the list of one index, one after another
--     High, Low      no row has a stamp there that is below a count, or each has
--     SameBut      only one index may have changed
--     InOrderTo      the indexes below a number are in the order of their lists
--     AreByIds      each index has its rows in the order of their ids
--     HasRows      rows that have come in, with stamps from 0 on
--     IsRowFault, IsRowsFault      why a row, or one of many, doesn't come in
--     IsListFault, IsListsFault      why a list, or one of many, is none of an index
--     RowsFit      all rows fit the columns
--     IsUnfit, IsFitFault      the row of an id doesn't
--     IsRestoreFault      why a table isn't restored
use Rattle.std.specs.Prelude.{◌≡◌, ◌≢◌, ℕ, ◌+◌, ◌<◌, ◌≤◌, ◌⊎◌, List, [], ◌∷◌, ◌++◌, true, false, IsTrue, map, drop, length, slice_get, slice_set, slice_index_or, suc}
use Rattle.std.specs.List.{AllByRecursion}
use Rattle.std.specs.declared.option.Option.TheVariants.{None, Some}
use Rattle.mi_value.specs.declared.value.Value.{Value}
use Rattle.mi_value.specs.declared.limits.TheConstants.{LAST_COUNT}
use Rattle.mi_catalog.specs.Fits.{fits_record}
use Rattle.mi_catalog.specs.Kinds.{is_sorted}
use Rattle.mi_catalog.specs.Shape.{Shape, index_at}
use Rattle.mi_catalog.specs.Key.{Row}
use Rattle.mi_model.specs.Table.{Table, ListsEach, list_of, size, Rise}
use Rattle.mi_model.specs.Conflict.{conflict_from}
use Rattle.mi_container.specs.Data.{Content, Data, has_stamps, order_at, content_of, stamp_of, ids_of, plain_row, as_table}
use Rattle.mi_container.specs.Changes.{with_content, relocated_in}
use Rattle.mi_container.specs.Fits.{IsThere}
use Rattle.mi_container.specs.declared.restore.RestoreFault.{RestoreFault}
use Rattle.mi_container.specs.declared.restore.TableImage.{TableImage}
use Rattle.mi_container.specs.declared.restore.RestoreFault.TheVariants as fault

-- the table that an image is
abbrev pub image_table : TableImage → Table
image_table i = record { rows = i.rows.items; lists = map (λ l. l.items) i.lists.items; next = i.next; arrivals = i.arrivals }

-- another stamp in the index of number x
abbrev pub with_stamp : ℕ → ℕ → Content → Content
with_stamp x a c = record { values = c.values; stamps = slice_set c.stamps x a }

-- the row of e has the stamp a in the index of number x
abbrev pub restamped_in : ℕ → ℕ → ℕ → Data → Data
restamped_in x e a d = record d { rows = with_content e (with_stamp x a (content_of d.rows e)) d.rows }

-- the rows of these ids have stamps from a on
abbrev pub restamped_all : ℕ → List ℕ → ℕ → Data → Data
restamped_all x [] a d = d
restamped_all x (e ∷ ids) a d = restamped_in x e a (restamped_all x ids (suc a) d)

-- the same, where the first one is the first to get its stamp
abbrev pub raised_all : ℕ → List ℕ → ℕ → Data → Data
raised_all x [] a d = d
raised_all x (e ∷ ids) a d = raised_all x ids (suc a) (restamped_in x e a d)

-- each id is below those behind it
abbrev pub Rising : List ℕ → Type 0
Rising [] = Unit {0}
Rising (e ∷ ids) = AllByRecursion (λ b. e < b) ids × Rising ids

-- each goes to the end
abbrev pub moved_all : ℕ → List ℕ → Data → Data
moved_all x [] d = d
moved_all x (e ∷ ids) d = moved_all x ids (relocated_in x e None d)

-- no row has a stamp below n in the index of number x
abbrev pub High : ℕ → ℕ → Data → Type 0
High x n d = (b : ℕ) → IsThere d.rows b → n ≤ stamp_of d.rows x b

-- each row has one
abbrev pub Low : ℕ → ℕ → Data → Type 0
Low x n d = (b : ℕ) → IsThere d.rows b → stamp_of d.rows x b < n

-- all but the index of number x is the same
pub record SameBut (x : ℕ) (d n : Data) : Type 0 where
  pub rows : map plain_row n.rows ≡ map plain_row d.rows
  pub next : n.next ≡ d.next
  pub arrivals : n.arrivals ≡ d.arrivals
  pub kept : n.kept ≡ d.kept
  pub long : length n.orders ≡ length d.orders
  pub orders : (y : ℕ) → y ≢ x → order_at n.orders y ≡ order_at d.orders y
  pub stamped : has_stamps (order_at n.orders x) ≡ has_stamps (order_at d.orders x)
  pub stamps : (y b : ℕ) → y ≢ x → stamp_of n.rows y b ≡ stamp_of d.rows y b

-- the indexes below number i are in the order of their lists, with stamps below n; the others are as they were
pub record InOrderTo (i n : ℕ) (lists : List (List ℕ)) (d c : Data) : Type 0 where
  pub within : i ≤ length d.orders
  pub rows : map plain_row c.rows ≡ map plain_row d.rows
  pub next : c.next ≡ d.next
  pub arrivals : c.arrivals ≡ d.arrivals
  pub kept : c.kept ≡ d.kept
  pub long : length c.orders ≡ length d.orders
  pub done : (y : ℕ) → y < i → list_of (as_table c) y ≡ slice_index_or lists y []
  pub low : (y : ℕ) → y < i → has_stamps (order_at c.orders y) ≡ true → Low y n c
  pub left : (y : ℕ) → i ≤ y → order_at c.orders y ≡ order_at d.orders y
  pub stamps : (y b : ℕ) → i ≤ y → stamp_of c.rows y b ≡ stamp_of d.rows y b

-- each index has its rows in the order of their ids
abbrev pub AreByIds : Data → Type 0
AreByIds d = (x : ℕ) → x < length d.orders → list_of (as_table d) x ≡ ids_of d.rows

-- these rows have come in, with stamps from 0 on
pub record HasRows (rows : List (ℕ × List Value)) (d : Data) : Type 0 where
  pub rows_are : map plain_row d.rows ≡ rows
  pub by_ids : AreByIds d
  pub arrivals : d.arrivals ≡ length rows
  pub kept : d.kept ≡ []

-- why the row of e doesn't come in behind these: a unique index refuses it, or memory
abbrev pub IsRowFault : Shape → List Row → ℕ → List Value → RestoreFault → Type 0
IsRowFault s rows e r fault.Full = ⊥
IsRowFault s rows e r fault.Counters = ⊥
IsRowFault s rows e r fault.Lists = ⊥
IsRowFault s rows e r (fault.Row a) = ⊥
IsRowFault s rows e r (fault.Id a) = ⊥
IsRowFault s rows e r (fault.List x) = ⊥
IsRowFault s rows e r (fault.Unique x a b) = (b ≡ e) × (conflict_from 1 (drop 1 s.indexes) rows r None ≡ Some (x, a))
IsRowFault s rows e r fault.Memory = Unit {0}

-- why one of these doesn't: the ids don't rise, or below the next one
abbrev pub IsRowsFault : Shape → ℕ → List Row → RestoreFault → Type 0
IsRowsFault s next rows fault.Full = ⊥
IsRowsFault s next rows fault.Counters = ⊥
IsRowsFault s next rows fault.Lists = ⊥
IsRowsFault s next rows (fault.Row a) = ⊥
IsRowsFault s next rows (fault.Id a) = Rise next rows → ⊥
IsRowsFault s next rows (fault.List x) = ⊥
IsRowsFault s next rows (fault.Unique x a b) = (before : List Row) × (r : List Value) × (behind : List Row) × (rows ≡ before ++ (b, r) ∷ behind)
    × (conflict_from 1 (drop 1 s.indexes) before r None ≡ Some (x, a))
IsRowsFault s next rows fault.Memory = Unit {0}

-- the id behind the last one
abbrev pub next_after : ℕ → List Row → ℕ
next_after n [] = n
next_after n (r ∷ rows) = next_after (r.0 + 1) rows

-- the index of number x goes by the ids alone
abbrev pub GoesByIds : Shape → ℕ → Type 0
GoesByIds s x = (is_sorted (index_at s x).kind ≡ true) × ((index_at s x).parts ≡ [])

-- why a list is none of the index of number x: it hasn't each id once and nothing else, or the index goes by the ids
abbrev pub IsListFault : Shape → Table → ℕ → List ℕ → RestoreFault → Type 0
IsListFault s t x ids fault.Full = ⊥
IsListFault s t x ids fault.Counters = ⊥
IsListFault s t x ids fault.Lists = ⊥
IsListFault s t x ids (fault.Row a) = ⊥
IsListFault s t x ids (fault.Id a) = ⊥
IsListFault s t x ids (fault.List y) = (y ≡ x) × ((ListsEach t ids → ⊥) ⊎ (GoesByIds s x × (ids ≡ map (λ r. r.0) t.rows → ⊥)))
IsListFault s t x ids (fault.Unique y a b) = ⊥
IsListFault s t x ids fault.Memory = Unit {0}

-- why these are none of the indexes
abbrev pub IsListsFault : Shape → Table → List (List ℕ) → RestoreFault → Type 0
IsListsFault s t lists e = (x : ℕ) × (x < length lists) × IsListFault s t x (slice_index_or lists x []) e

-- each row has a fitting value for each column
abbrev pub RowsFit : Shape → List Row → Type 0
RowsFit s rows = AllByRecursion (λ r. IsTrue (fits_record s.columns r.1)) rows

-- the row of a is one of these and has not
abbrev pub IsUnfit : Shape → List Row → ℕ → Type 0
IsUnfit s rows a = (k : ℕ) × (r : List Value) × (slice_get rows k ≡ Some (a, r)) × (fits_record s.columns r ≡ false)

-- why one of these doesn't fit
abbrev pub IsFitFault : Shape → List Row → RestoreFault → Type 0
IsFitFault s rows e = (a : ℕ) × (e ≡ fault.Row a) × IsUnfit s rows a

-- why a table isn't restored; other than memory each is a fact of the table
abbrev pub IsRestoreFault : Shape → Table → RestoreFault → Type 0
IsRestoreFault s t fault.Full = s.max_rows < size t
IsRestoreFault s t fault.Counters = (LAST_COUNT < t.next) ⊎ ((LAST_COUNT < t.arrivals) ⊎ (t.arrivals < size t))
IsRestoreFault s t fault.Lists = length t.lists ≢ length s.indexes
IsRestoreFault s t (fault.Row a) = IsUnfit s t.rows a
IsRestoreFault s t (fault.Id a) = IsRowsFault s t.next t.rows (fault.Id a)
IsRestoreFault s t (fault.List x) = IsListsFault s t t.lists (fault.List x)
IsRestoreFault s t (fault.Unique x a b) = IsRowsFault s t.next t.rows (fault.Unique x a b)
IsRestoreFault s t fault.Memory = Unit {0}
