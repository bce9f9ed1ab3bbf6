-- one inverse more
use Rattle.mi_container.specs.Run.Change.{Relocate}
use Rattle.test_container.proofs.UndoneLemmas.{makes}
use Rattle.test_container.proofs.tests.undoable.Undoable.relocate.Goals as goal

pub returns-in-Ok : goal.returns-in-Ok
returns-in-Ok g c =
    makes (Relocate c.args.index c.args.id c.args.before) c.keeps_rules.ensures c.relocate.ensures.shape c.in-Ok.ensures.made
    c.reserve.ensures.items c.push_back_reserved.ensures.items c.requires
