-- Several containers under one journal, and the database that they mean.
use Rattle.std.specs.Prelude.{◌≡◌, ℕ, ◌<◌, ◌==◌, if◌then◌else◌, List, [], ◌∷◌, ◌++◌, map, length, slice_index_or, slice_set}
use Rattle.std.specs.declared.option.Option.{Option}
use Rattle.std.specs.declared.option.Option.TheVariants.{None, Some}
use Rattle.mi_catalog.specs.Shape.{CatalogShape, schema_at}
use Rattle.mi_model.specs.Table.{Table}
use Rattle.mi_model.specs.Database.{Database}
use Rattle.mi_container.specs.Data.{Data, as_table, IsData}
use Rattle.mi_container.specs.Inverse.{Inverse, keeps, taken_back, settled}
use Rattle.mi_container.specs.Fits.{Ready, kept_id}

-- an inverse with the number of its table
abbrev pub JournalEntry : Type 0
JournalEntry = ℕ × Inverse

-- the sessions, and the entries of each, the newest first
abbrev pub Journal : Type 0
Journal = List (List JournalEntry)

abbrev pub data_at : List Data → ℕ → Data
data_at ds n = slice_index_or ds n (record { rows = []; orders = []; next = 0; arrivals = 0; kept = [] })

-- one entry taken back, and several, the newest first
abbrev pub entry_back : JournalEntry → List Data → List Data
entry_back e ds = slice_set ds e.0 (taken_back e.1 (data_at ds e.0))

abbrev pub unwound : List JournalEntry → List Data → List Data
unwound [] ds = ds
unwound (e ∷ es) ds = unwound es (entry_back e ds)

-- one entry settled
abbrev pub entry_settled : JournalEntry → List Data → List Data
entry_settled e ds = slice_set ds e.0 (settled e.1 (data_at ds e.0))

abbrev pub tables_of : List Data → List Table
tables_of ds = map as_table ds

-- the tables at the start of each session
abbrev pub old_of : List Data → Journal → List (List Table)
old_of ds [] = []
old_of ds (es ∷ older) = tables_of (unwound es ds) ∷ old_of (unwound es ds) older

-- the database that containers, a journal and a revision mean
abbrev pub state_of : CatalogShape → List Data → Journal → ℕ → Database
state_of c ds j revision = record { catalog = c; tables = tables_of ds; old = old_of ds j; revision = revision }

-- each entry, the newest first, can be taken back, and leaves data; when all are taken back no node is kept
abbrev pub Holds : CatalogShape → List JournalEntry → List Data → Type 0
Holds c [] ds = (n : ℕ) → (data_at ds n).kept ≡ []
Holds c (e ∷ es) ds =
    (e.0 < length ds) × Ready e.1 (data_at ds e.0) × IsData (schema_at c e.0) (taken_back e.1 (data_at ds e.0)) × Holds c es (entry_back e ds)

-- all entries of a journal, the newest first
abbrev pub entries : Journal → List JournalEntry
entries [] = []
entries (es ∷ older) = es ++ entries older

-- what holds of the containers and the journal of a database
pub record IsLinked (c : CatalogShape) (ds : List Data) (j : Journal) : Type 0 where
  pub each : (n : ℕ) → n < length ds → IsData (schema_at c n) (data_at ds n)
  pub holds : Holds c (entries j) ds

-- the rows kept for an entry, and for each session
abbrev pub kept_by : ℕ → Option ℕ → List (ℕ × ℕ)
kept_by n None = []
kept_by n (Some e) = (n, e) ∷ []

abbrev pub kept_in : List JournalEntry → List (ℕ × ℕ)
kept_in [] = []
kept_in (e ∷ es) = kept_in es ++ kept_by e.0 (keeps e.1)

-- the ids that entries of one table keep
abbrev pub kept_at : ℕ → List JournalEntry → List ℕ
kept_at n [] = []
kept_at n (e ∷ es) = kept_at n es ++ (if e.0 == n then kept_id (keeps e.1) else [])
