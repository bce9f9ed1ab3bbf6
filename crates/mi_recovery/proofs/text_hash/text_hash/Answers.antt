-- The bytes in front of the text's end are the text.
use Rattle.std.specs.String.{string_bytes}
use Rattle.mi_recovery.proofs.HashLemmas.{hash_text}
use Rattle.mi_recovery.proofs.text_hash.text_hash.Goals as goal

pub returns-in-Ok : goal.returns-in-Ok
returns-in-Ok g c =
    hash_text (g.F.Device.contents c.args.file.now) c.args.text (string_bytes c.in-Ok.hash) c.in_ok-digest.digest c.requires c.in-Ok.ensures
    c.in_ok-digest.ensures
