-- One more is written behind those before it.
use Rattle.std.proofs.Common.{arith, ap}
use Rattle.mi_base.specs.Base.{list_data}
use Rattle.mi_base.proofs.LineLemmas.{puts_none, puts_more_by}
use Rattle.mi_base.proofs.write.put_lists.Goals as goal

pub lists-init : goal.lists-init
lists-init g c = puts_none _ _

pub lists-preserved : goal.lists-preserved
lists-preserved g c =
    puts_more_by (λ l. list_data l.items) c.args.lists.now c.lists.list-index c.list-item.result _ _ _ _ _ _ _ (omega arith) c.list-item.is
    (ap list_data c.as_slice.ensures.value) c.lists.invariant c.in_ok-put_list.ensures
