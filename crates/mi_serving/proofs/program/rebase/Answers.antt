-- The catalog is that of the schema's file, and its journal was rebased from where its base stood.
use Rattle.std.proofs.Common.{◌≡◌, rules, true}
use Rattle.std.specs.Prelude.{is_some}
use Rattle.mi_serving.proofs.ServedLemmas.{rebased_from}
use Rattle.mi_serving.proofs.program.rebase.Goals as goal

pub returns : goal.returns
returns g c =
    let named : is_some c.as_deref.result ≡ is_some c.args.options.now.schema = search rules in
    rebased_from g.R.File.Read.remaining (λ file. g.P.File.JournalFile.is_locked file ≡ true) (g.P.JournalFiles.is_seen c.args.files.now)
    (g.P.JournalFiles.is_newest c.args.files.now) g.P.File.Device.contents g.P.File.Device.stays c.rebase_claimed-ended.result _ _
    c.in_ok-catalog.field-0.catalog c.in-Ok.schema c.args.journal.now named c.in_ok-catalog.ensures.catalog c.in-Ok.ensures c.rebase_claimed-ended.ensures
