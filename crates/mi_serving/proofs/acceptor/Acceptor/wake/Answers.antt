-- The connections are told of one event more.
use Rattle.std.proofs.Common.{◌∙◌, refl}
use Rattle.mi_clients.proofs.ServedLemmas.{each_woken_none, each_woken_then}
use Rattle.mi_serving.proofs.EventLemmas.{told_step, called_step}
use Rattle.mi_serving.proofs.acceptor.Acceptor.wake.Goals as goal

pub events-init : goal.events-init
events-init c = record {
  told = refl;
  called = refl;
  ids = refl;
  woken = each_woken_none c.args.clients.now.items;
}

pub events-preserved : goal.events-preserved
events-preserved c =
    let before = c.events.invariant in record {
      told = told_step _ _ _ _ _ c.events-test.true c.tell.ensures.told ∙ before.told;
      called = called_step _ _ _ _ _ c.events-test.true c.tell.ensures.called ∙ before.called;
      ids = c.tell.ensures.ids ∙ before.ids;
      woken = each_woken_then c.args.clients.now.items c.events.clients.items c.tell.new.clients.items before.woken c.tell.ensures.woken;
    }
