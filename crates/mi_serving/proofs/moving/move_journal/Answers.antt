-- The catalogs are those of the files that the words name.
use Rattle.std.proofs.Common.{◌≡◌, true, is_some, rules}
use Rattle.mi_serving.proofs.MovedLemmas.{moved_of_files}
use Rattle.mi_serving.proofs.moving.move_journal.Goals as goal

pub returns : goal.returns
returns g c =
    let named : is_some c.as_deref.result ≡ is_some c.args.options.now.schema = search rules in
    moved_of_files (λ file. g.P.File.JournalFile.is_locked file ≡ true) (g.P.JournalFiles.is_seen c.args.files.now) (g.P.JournalFiles.is_newest c.args.files.now)
    g.P.File.Device.contents g.P.File.Device.stays g.R.File.Read.remaining _ _ c.in_ok-from.field-0.catalog c.in_ok-to.to c.args.journal.now c.as_str-2.result.now _
    c.moved.result named c.as_str-2.ensures.value c.in_ok-from.ensures.catalog c.in_ok-to.ensures c.moved.ensures
