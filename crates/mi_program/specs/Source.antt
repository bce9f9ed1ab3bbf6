-- Where the catalog comes from: the built-in schema, or what a named file is read as.
use Rattle.std.specs.Prelude.{◌≡◌, ◌⊎◌, ◌≤◌, ℕ, List, [], ◌∷◌, length, Bool, true, false, Option, IfSome, Result, Ok, Err}
use Rattle.mi_value.specs.declared.limits.TheConstants.{MAX_SCHEMA_FILE}
use Rattle.mi_schema.specs.Reading.{catalog_read}
use Rattle.mi_catalog.specs.Shape.{CatalogShape}
use Rattle.mi_catalog.specs.Accounts.{accounts}
use Rattle.mi_schema.specs.declared.fault.SchemaFault.{SchemaFault}
use Rattle.mi_schema.specs.declared.fault.SchemaFault.TheVariants as fault
use Rattle.mi_program.specs.declared.failure.Failure.{Failure}
use Rattle.mi_program.specs.declared.failure.Failure.TheVariants.{SchemaFile, Schema}

-- A file isn't read: it can't be or is too long, or memory was refused.
abbrev pub IsUnread : Failure → Type 0
IsUnread failure = (failure ≡ SchemaFile) ⊎ (failure ≡ Schema fault.Memory)

-- The answer to a file of these bytes: what they are read as, where they are no more than a file may have.
abbrev pub IsRead : List ℕ → Result CatalogShape Failure → Type 0
IsRead bytes (Ok catalog) = (length bytes ≤ MAX_SCHEMA_FILE) × (catalog_read bytes ≡ Ok catalog)
IsRead bytes (Err failure) = IsUnread failure
    ⊎ ((length bytes ≤ MAX_SCHEMA_FILE) × (fault : SchemaFault) × (failure ≡ Schema fault) × (catalog_read bytes ≡ Err fault))

-- The catalog of the built-in schema; memory for it may be wanting.
abbrev pub IsBuiltIn : Result CatalogShape Failure → Type 0
IsBuiltIn (Ok catalog) = catalog ≡ record { tables = accounts ∷ []; first_revision = 0 }
IsBuiltIn (Err failure) = failure ≡ Schema fault.Memory

-- No file is opened.
abbrev pub IsUnopened : Result CatalogShape Failure → Type 0
IsUnopened (Ok catalog) = ⊥
IsUnopened (Err failure) = IsUnread failure

-- The catalog where a file is named, or isn't: what is made of the bytes of a file that was opened, where files tell them.
abbrev pub IsCatalog : {F : Type 0} → (F → Option (List ℕ)) → Bool → Result CatalogShape Failure → Type 0
IsCatalog remaining false catalog = IsBuiltIn catalog
IsCatalog {F} remaining true catalog = IsUnopened catalog ⊎ ((file : F) × IfSome (remaining file) (λ bytes. IsRead bytes catalog))
