-- one inverse more
use Rattle.mi_container.specs.Run.Change.{Insert}
use Rattle.test_container.proofs.UndoneLemmas.{makes}
use Rattle.test_container.proofs.tests.undoable.Undoable.insert.Goals as goal

pub returns-in-Ok : goal.returns-in-Ok
returns-in-Ok g c =
    makes (Insert c.args.before c.in-Ok.ensures.made.0 c.args.row) c.keeps_rules.ensures c.insert.ensures.shape c.in-Ok.ensures.made.1
    c.reserve.ensures.items c.push_back_reserved.ensures.items c.requires
