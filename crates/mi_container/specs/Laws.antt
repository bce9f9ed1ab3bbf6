-- The laws of a container's data. They say nothing new of tables.
--     OpensEmpty, ChangeIsTables      what a container opens with, and what a change does, by the definitions of tables
--     ChangeIsUndone, RunsUnwind      the inverse of a change, and those of a run, give back exactly the data before
--     ChangeFits, NewestIsBack, OldestIsSettled      lists of inverses that fit: one more, the newest taken back, the oldest settled
--     SettledLater, KeptByOne      settling and taking back are in either order the same, and each kept node is kept by one inverse
--     SortedIsShown, HashedIsShown, IdsAreShown      the live ids by keys and stamps are what an index shows
use Rattle.std.specs.Prelude.{◌≡◌, ℕ, ◌<◌, true, if◌then◌else◌, List, [], ◌∷◌, ◌++◌, length}
use Rattle.std.specs.Ordering.{nat_cmp, on, then_cmp}
use Rattle.std.specs.declared.cmp.Ordering.{Ordering}
use Rattle.std.specs.declared.cmp.Ordering.TheVariants.{Less}
use Rattle.std.specs.List.{AllByRecursion}
use Rattle.std.specs.Option.{is_some}
use Rattle.std.specs.declared.option.Option.{Option}
use Rattle.std.specs.declared.option.Option.TheVariants.{Some}
use Rattle.mi_catalog.specs.Rules.{is_schema}
use Rattle.mi_value.specs.declared.compare.KeyPart.{KeyPart}
use Rattle.mi_catalog.specs.Shape.{Shape, index_at}
use Rattle.mi_model.specs.Table.{Table, times, ListsEach, opened}
use Rattle.mi_model.specs.View.{compare_ids, view}
use Rattle.mi_container.specs.Data.{Data, order_at, kept_of, stamp_of, ids_of, as_table, IsData}
use Rattle.mi_container.specs.Data.Order.{ById, ByKey, ByHash}
use Rattle.mi_container.specs.Changes.{opened_data}
use Rattle.mi_container.specs.Inverse.{RowRef, Inverse, keeps, taken_back, settled}
use Rattle.mi_container.specs.Inverse.Inverse.{Erased}
use Rattle.mi_container.specs.Fits.{IsNot, Ready, KeptBy, Fits, Unnamed, kept_ids}
use Rattle.mi_container.specs.Run.{Change, changed, inverse_of, table_changed, Allowed, after_changes, inverses, all_back, table_run, AllAllowed}

-- a container of a schema opens with the data of an empty table
abbrev pub OpensEmpty : Type 0
OpensEmpty = (s : Shape) → is_schema s ≡ true → IsData s (opened_data s) × (as_table (opened_data s) ≡ opened s)

-- the table of changed data is the changed table, and what holds of data is kept
abbrev pub ChangeIsTables : Type 0
ChangeIsTables = (s : Shape) (c : Change) (d : Data) → IsData s d → Allowed s c d
    → IsData s (changed c d) × (as_table (changed c d) ≡ table_changed s c (as_table d))

-- the inverse of a change can be taken back, and gives exactly the data before
abbrev pub ChangeIsUndone : Type 0
ChangeIsUndone = (s : Shape) (c : Change) (d : Data) → IsData s d → Allowed s c d
    → Ready (inverse_of c d) (changed c d) × (taken_back (inverse_of c d) (changed c d) ≡ d)

-- a run keeps what holds of data, is the run of tables, and its inverses give back exactly the data before it
abbrev pub RunsUnwind : Type 0
RunsUnwind = (s : Shape) (cs : List Change) (d : Data) → IsData s d → AllAllowed s cs d
    → IsData s (after_changes cs d) × (as_table (after_changes cs d) ≡ table_run s cs (as_table d)) × (all_back (inverses cs d) (after_changes cs d) ≡ d)

-- a change extends a fitting list by its inverse, with the table before it
abbrev pub ChangeFits : Type 0
ChangeFits = (s : Shape) (c : Change) (is : List Inverse) (ts : List Table) (d : Data) → IsData s d → Allowed s c d → Fits s is ts d
    → Fits s (inverse_of c d ∷ is) (as_table d ∷ ts) (changed c d)

-- the newest of a fitting list can be taken back, which gives its table, and the rest fits
abbrev pub NewestIsBack : Type 0
NewestIsBack = (s : Shape) (i : Inverse) (is : List Inverse) (t : Table) (ts : List Table) (d : Data) → Fits s (i ∷ is) (t ∷ ts) d
    → Ready i d × IsData s (taken_back i d) × (as_table (taken_back i d) ≡ t) × Fits s is ts (taken_back i d)

-- the oldest of a fitting list can be settled, which keeps the table, and the rest fits
abbrev pub OldestIsSettled : Type 0
OldestIsSettled = (s : Shape) (f : Inverse) (is : List Inverse) (t : Table) (ts : List Table) (d : Data) → IsData s d → Fits s (is ++ f ∷ []) (ts ++ t ∷ []) d
    → KeptBy f d × IsData s (settled f d) × (as_table (settled f d) ≡ as_table d) × Fits s is ts (settled f d)

-- the two keep different nodes
abbrev pub KeepOthers : Option ℕ → Inverse → Type 0
KeepOthers o j = (e : ℕ) → o ≡ Some e → IsNot e (keeps j)

-- to settle one inverse and to take back another, which keeps another node, are in either order the same
abbrev pub SettledLater : Type 0
SettledLater = (f j : Inverse) (d : Data) → KeepOthers (keeps f) j → taken_back j (settled f d) ≡ settled f (taken_back j d)

-- the inverses of a fitting list keep exactly the nodes that are kept, each by one, and no later one names a row whose node an earlier one keeps
abbrev pub KeptByOne : Type 0
KeptByOne = (s : Shape) (is : List Inverse) (ts : List Table) (d : Data) → IsData s d → Fits s is ts d
    → ((e : ℕ) → times e (kept_ids is) ≡ (if is_some (kept_of d.kept e) then 1 else 0))
    × ((later older : List Inverse) (r : RowRef) (why : Option (ℕ × ℕ)) → is ≡ later ++ Erased r why ∷ older → AllByRecursion (Unnamed r.id) later)

-- What indexes show

-- each id is before those after it
abbrev pub RiseBy : (ℕ → ℕ → Ordering) → List ℕ → Type 0
RiseBy order [] = Unit {0}
RiseBy order (a ∷ ids) = AllByRecursion (λ b. order a b ≡ Less) ids × RiseBy order ids

-- by the keys of the index of number x, and then by the stamps
abbrev pub stands_before : Shape → Data → ℕ → ℕ → ℕ → Ordering
stands_before s d x = then_cmp (compare_ids (index_at s x) (as_table d)) (on (stamp_of d.rows x) nat_cmp)

-- the live ids by their keys and then by their stamps are what a sorted index with keys shows
abbrev pub SortedIsShown : Type 0
SortedIsShown = (s : Shape) (d : Data) (x : ℕ) (ps : List KeyPart) (ids : List ℕ) → IsData s d → x < length d.orders → order_at d.orders x ≡ ByKey ps
    → ListsEach (as_table d) ids → RiseBy (stands_before s d x) ids → ids ≡ view s (as_table d) x

-- and by their stamps what a hashed one does, which shows those of each key
abbrev pub HashedIsShown : Type 0
HashedIsShown = (s : Shape) (d : Data) (x : ℕ) (ps : List KeyPart) (ids : List ℕ) → IsData s d → x < length d.orders → order_at d.orders x ≡ ByHash ps
    → ListsEach (as_table d) ids → RiseBy (on (stamp_of d.rows x) nat_cmp) ids → ids ≡ view s (as_table d) x

-- the index of the ids shows the live ids in their order
abbrev pub IdsAreShown : Type 0
IdsAreShown = (s : Shape) (d : Data) (x : ℕ) → IsData s d → x < length d.orders → order_at d.orders x ≡ ById → ids_of d.rows ≡ view s (as_table d) x
