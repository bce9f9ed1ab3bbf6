-- The old journal was asked, and the new one begins with its tables.
use Rattle.std.proofs.Common.{◌≡◌, true}
use Rattle.mi_database.specs.LinkedData.{meaning}
use Rattle.mi_serving.proofs.MovedLemmas.{has_moved}
use Rattle.mi_serving.proofs.moving.moved.Goals as goal

pub returns : goal.returns
returns g c =
    has_moved (λ file. g.P.File.JournalFile.is_locked file ≡ true) (g.P.JournalFiles.is_seen c.args.files.now) (g.P.JournalFiles.is_newest c.args.files.now)
    g.P.File.Device.contents g.P.File.Device.stays c.args.from c.args.to.now c.args.journal.now c.args.path.now c.begin.result
    c.in-Ok.schema c.in_ok-hub._asked c.in_ok-hub.hub.held _ (meaning c.in_ok-tables.tables) c.database.ensures c.in-Ok.ensures c.in_ok-hub.ensures
    c.in_ok-tables.ensures.is c.begin.ensures
