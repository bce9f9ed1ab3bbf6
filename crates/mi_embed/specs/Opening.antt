-- What a schema's text opens, or why it opens nothing.
use Rattle.std.specs.Prelude.{◌≡◌, ◌⊎◌, ℕ, ◌<◌, ◌≤◌, List, [], ◌∷◌, length, None, Result, Ok, Err}
use Rattle.mi_value.specs.declared.limits.TheConstants.{MAX_SCHEMA_FILE}
use Rattle.mi_catalog.specs.Accounts.{accounts}
use Rattle.mi_catalog.specs.Shape.{CatalogShape}
use Rattle.mi_model.specs.Database.{opened_database}
use Rattle.mi_schema.specs.Reading.{catalog_read}
use Rattle.mi_schema.specs.declared.fault.SchemaFault.TheVariants as schema
use Rattle.mi_embed.specs.State.{EngineState}
use Rattle.mi_embed.specs.declared.fault.OpenFault.{OpenFault}
use Rattle.mi_embed.specs.declared.fault.OpenFault.TheVariants.{Long, Schema}

-- The text describes this catalog; no text describes that of the built-in table.
abbrev pub Describes : List ℕ → CatalogShape → Type 0
Describes [] catalog = catalog ≡ record { tables = accounts ∷ []; first_revision = 0 }
Describes (b ∷ bytes) catalog = (length (b ∷ bytes) ≤ MAX_SCHEMA_FILE) × (catalog_read (b ∷ bytes) ≡ Ok catalog)

-- The text opens nothing for this fault: it is too long, or is refused so. Memory may be wanting at any text.
abbrev pub IsRefused : List ℕ → OpenFault → Type 0
IsRefused text Long = MAX_SCHEMA_FILE < length text
IsRefused [] (Schema fault) = fault ≡ schema.Memory
IsRefused (b ∷ bytes) (Schema fault) =
    (fault ≡ schema.Memory) ⊎ ((length (b ∷ bytes) ≤ MAX_SCHEMA_FILE) × (catalog_read (b ∷ bytes) ≡ Err fault))

-- the catalog of a text, or why it has none
abbrev pub IsDescribed : List ℕ → Result CatalogShape OpenFault → Type 0
IsDescribed text (Ok catalog) = Describes text catalog
IsDescribed text (Err fault) = IsRefused text fault

-- The text that is kept: the schema's, as it was given; where none was given, one that describes the built-in table.
abbrev pub IsKept : List ℕ → List ℕ → Type 0
IsKept [] kept = catalog_read kept ≡ Ok (record { tables = accounts ∷ []; first_revision = 0 })
IsKept (b ∷ bytes) kept = kept ≡ b ∷ bytes

-- the engine over a catalog that nothing was asked of
abbrev pub fresh : CatalogShape → List ℕ → EngineState
fresh catalog schema = record { held = record { database = opened_database catalog; holder = None }; reply = []; schema = schema }

-- what a text opens, or why it opens nothing; the text that is kept describes the very catalog
abbrev pub IsOpened : List ℕ → Result EngineState OpenFault → Type 0
IsOpened text (Ok engine) =
    (catalog : CatalogShape) × Describes text catalog × IsKept text engine.schema × (catalog_read engine.schema ≡ Ok catalog)
    × (engine ≡ fresh catalog engine.schema)
IsOpened text (Err fault) = IsRefused text fault

-- the number of a fault
abbrev pub status_of : OpenFault → ℕ
status_of (Schema schema.Memory) = 1
status_of Long = 2
status_of (Schema schema.Toml) = 3
status_of (Schema schema.Shape) = 4
status_of (Schema schema.Name) = 5
status_of (Schema schema.Twice) = 6
status_of (Schema schema.ColType) = 7
status_of (Schema schema.Kind) = 8
status_of (Schema schema.Key) = 9
status_of (Schema schema.Limit) = 10
status_of (Schema schema.Number) = 11
