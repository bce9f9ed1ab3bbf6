-- one inverse more
use Rattle.std.specs.declared.option.Option.TheVariants.{None}
use Rattle.mi_container.specs.Run.Change.{Erase}
use Rattle.test_container.proofs.UndoneLemmas.{makes}
use Rattle.test_container.proofs.tests.undoable.Undoable.erase.Goals as goal

pub returns-in-Ok : goal.returns-in-Ok
returns-in-Ok g c =
    makes (Erase c.args.id None) c.keeps_rules.ensures c.erase.ensures.shape c.in-Ok.ensures.made
    c.reserve.ensures.items c.push_back_reserved.ensures.items c.requires
