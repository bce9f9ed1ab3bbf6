-- What is cut off stands behind the whole lines of the text.
use Rattle.mi_recovery.proofs.OpeningLemmas.{cut_text}
use Rattle.mi_recovery.proofs.opening.cut_off.Goals as goal

pub returns-in-Ok : goal.returns-in-Ok
returns-in-Ok g c =
    cut_text (g.F.Device.contents c.args.file.now) (g.F.Device.contents c.cut_to.new.self) c.args.text c.args.torn c.saturating_sub.result c.requires
    c.saturating_sub.ensures c.in-Ok.ensures.cut
