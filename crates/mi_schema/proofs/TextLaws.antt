-- The text of the built-in schema is read as that schema's catalog: a literal, of which reading is computed.
-- Cited by `text::built_in_text`.
use Rattle.std.proofs.Common.{◌≡◌, ◌∷◌, [], Ok, refl}
use Rattle.std.specs.Str.{is_utf8, chars}
use lib.Utf8.{encode}
use Rattle.toml.proofs.OnLiterals.{toml_on_literals}
use Rattle.mi_catalog.specs.Accounts.{accounts}
use Rattle.mi_schema.specs.declared.text.TheConstants.{BUILT_IN}
use Rattle.mi_schema.specs.Members.{has_no_other, each, column_draft, index_draft, table_draft, one_table, first_format, catalog_draft}
use Rattle.mi_schema.specs.Checks.{fault_of}
use Rattle.mi_schema.specs.Reading.{catalog_read}

pub reads : catalog_read BUILT_IN.now ≡ Ok (record { tables = accounts ∷ []; first_revision = 0 })
unfolding toml_on_literals is_utf8 chars encode has_no_other each column_draft index_draft table_draft one_table first_format catalog_draft fault_of
reads = refl
