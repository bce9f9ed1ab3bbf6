-- one inverse more, also where the record is lost
use Rattle.std.proofs.Common.{◌<◌, length, arith}
use Rattle.mi_container.specs.Inverse.{lost_to}
use Rattle.test_container.proofs.UndoneLemmas.{one_change}
use Rattle.test_container.proofs.JournaledLemmas.{notes}
use Rattle.test_container.proofs.tests.journaled.Journaled.modify.Goals as goal

pub returns-in-Ok : goal.returns-in-Ok
returns-in-Ok g c =
    let is = c.depth.ensures in
    let open_ : 0 < length c.reserve.new.self.sessions = omega (arith, is) in
    notes _ c.keeps_rules.ensures c.modify.ensures.shape (one_change (lost_to c.in-Ok.inverse) _ c.args.id _ c.in-Ok.inverse _ c.in-Ok.ensures.made).1
    c.reserve.ensures.sessions open_ c.note.ensures.sessions c.requires
