-- The journal was asked from where its base stands.
use Rattle.std.proofs.Common.{◌≡◌, true}
use Rattle.mi_serving.proofs.MovedLemmas.{settled_at}
use Rattle.mi_serving.proofs.moving.settled_once.Goals as goal

pub returns : goal.returns
returns g c =
    settled_at (λ file. g.P.File.JournalFile.is_locked file ≡ true) (g.P.JournalFiles.is_seen c.args.files.now) (g.P.JournalFiles.is_newest c.args.files.now)
    g.P.File.Device.contents g.P.File.Device.stays _ _ c.args.journal.now c.as_str-path.result.now c.args.schema.now c.in_ok-hub.position _ c.in_ok-hub.hub
    c.in_ok-asked.asked c.settled.new.hub.held c.in_ok-catalog.ensures c.as_ref.ensures.value c.as_str-path.ensures.value c.in_ok-hub.ensures
    c.in_ok-asked.ensures.asked c.in_ok-asked.ensures.depth
