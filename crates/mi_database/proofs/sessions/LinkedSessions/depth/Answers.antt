-- an old table for each session
use Rattle.std.proofs.Common.{◌∙◌, ap, sym, length}
use Rattle.mi_database.proofs.JournalLemmas.{length-old}
use Rattle.mi_database.specs.LinkedData.{LinkedData}
use Rattle.mi_database.proofs.sessions.LinkedSessions.depth.Goals as goal

pub returns : goal.returns
returns g c =
    c.depth.ensures ∙ ap (λ (h : LinkedData). length h.journal) c.self.view_is ∙ sym (length-old c.args.self.now.journal c.args.self.now.datas)
