-- one inverse more
use Rattle.std.proofs.Common.{◌<◌, length, arith}
use Rattle.std.specs.declared.option.Option.TheVariants.{None}
use Rattle.mi_container.specs.Run.Change.{Insert}
use Rattle.test_container.proofs.JournaledLemmas.{notes}
use Rattle.test_container.proofs.tests.journaled.Journaled.insert.Goals as goal

pub returns-in-Ok : goal.returns-in-Ok
returns-in-Ok g c =
    let is = c.depth.ensures in
    let open_ : 0 < length c.reserve.new.self.sessions = omega (arith, is) in
    notes (Insert None c.in-Ok.ensures.made.0 c.args.row) c.keeps_rules.ensures c.insert.ensures.shape c.in-Ok.ensures.made.1
    c.reserve.ensures.sessions open_ c.note.ensures.sessions c.requires
