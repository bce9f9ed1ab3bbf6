-- one inverse more
use Rattle.mi_container.specs.Run.Change.{Replace}
use Rattle.test_container.proofs.UndoneLemmas.{makes}
use Rattle.test_container.proofs.tests.undoable.Undoable.replace.Goals as goal

pub returns-in-Ok : goal.returns-in-Ok
returns-in-Ok g c =
    makes (Replace c.args.id c.args.row) c.keeps_rules.ensures c.replace.ensures.shape c.in-Ok.ensures.made
    c.reserve.ensures.items c.push_back_reserved.ensures.items c.requires
