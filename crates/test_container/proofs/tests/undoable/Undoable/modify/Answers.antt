-- one inverse more, also where the record is lost
use Rattle.mi_container.specs.Inverse.{lost_to}
use Rattle.test_container.proofs.UndoneLemmas.{makes, one_change}
use Rattle.test_container.proofs.tests.undoable.Undoable.modify.Goals as goal

pub returns-in-Some : goal.returns-in-Some
returns-in-Some g c =
    makes _ c.keeps_rules.ensures c.modify.ensures.shape (one_change (lost_to c.in-Ok.inverse) _ c.args.id _ c.in-Ok.inverse _ c.in-Ok.ensures.made).1
    c.reserve.ensures.items c.push_back_reserved.ensures.items c.requires

pub returns-in-None : goal.returns-in-None
returns-in-None g c =
    makes _ c.keeps_rules.ensures c.modify.ensures.shape (one_change (lost_to c.in-Ok.inverse) _ c.args.id _ c.in-Ok.inverse _ c.in-Ok.ensures.made).1
    c.reserve.ensures.items c.push_back_reserved.ensures.items c.requires
