-- A journal that begins has nothing behind its text.
use Rattle.std.proofs.Common.{subst}
use Rattle.std.specs.Prelude.{IfSome}
use Rattle.mi_recovery.specs.JournalFile.{text_of}
use Rattle.mi_recovery.specs.Recovery.{IsFound}
use Rattle.mi_recovery.proofs.OpeningLemmas.{whole_begins}
use Rattle.mi_recovery.proofs.opening.continued.Goals as goal

pub begun-requires : goal.begun-requires
begun-requires g c =
    let o = g.F.Device.contents c.args.file in
    whole_begins o c.args.text c.args.header.now c.requires.text c.in_ok-check_end-in-Nothing.ensures
    (subst (λ found. IfSome o (λ bytes. IsFound c.args.header.now (text_of bytes) found)) c.in-Nothing.is c.requires.found)
