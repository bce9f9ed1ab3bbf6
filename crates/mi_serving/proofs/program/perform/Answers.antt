-- The catalog is that of the schema's file, and its tables are served behind the journal that has its schema.
use Rattle.std.proofs.Common.{◌≡◌, rules, true}
use Rattle.std.specs.Prelude.{is_some}
use Rattle.mi_serving.proofs.ServedLemmas.{performed}
use Rattle.mi_serving.proofs.program.perform.Goals as goal

pub returns : goal.returns
returns g c =
    let named : is_some c.as_deref.result ≡ is_some c.args.options.now.schema = search rules in
    performed g.R.File.Read.remaining (λ file. g.P.File.JournalFile.is_locked file ≡ true) (g.P.JournalFiles.is_seen c.args.files.now)
    (g.P.JournalFiles.is_newest c.args.files.now) g.P.File.Device.contents c.serve_hub.result _ _ c.in_ok-catalog.field-0.catalog c.in-Ok.schema
    _ _ _ _ _ named c.as_ref-journal.ensures.value c.in_ok-catalog.ensures.catalog c.in-Ok.ensures
    c.in_ok-durable.ensures.begins c.serve_hub.ensures
