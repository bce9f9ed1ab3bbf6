-- The journal was rebased from where its base stood.
use Rattle.std.proofs.Common.{◌≡◌, None, true}
use Rattle.mi_serving.proofs.ServedLemmas.{made_from}
use Rattle.mi_serving.proofs.program.rebase_claimed.Goals as goal

pub returns : goal.returns
returns g c =
    made_from {G = g.row.P-File.Denot} (λ _. None) (λ file. g.P.File.JournalFile.is_locked file ≡ true) (g.P.JournalFiles.is_seen c.args.files.now)
    (g.P.JournalFiles.is_newest c.args.files.now) g.P.File.Device.contents g.P.File.Device.stays c.args.catalog c.args.schema.now c.in_ok-hub.position _
    c.in_ok-hub.hub c.as_str-path.result.now _ c.as_ref.ensures.value c.as_str-path.ensures.value c.in_ok-hub.ensures c.in_ok-rebased.ensures
