-- Where all are ids, each is one.
use Rattle.std.proofs.Common.{arith}
use Rattle.mi_base.proofs.ArrayLemmas.{id_here, ids_more}
use Rattle.mi_base.proofs.lists.numbers_in.Goals as goal

pub returns-in_default : goal.returns-in_default
returns-in_default c = λ ids e.
    let r = id_here c.args.items.now ids c.items.item-index c.item-item.result c.as_u64.result e (omega arith) c.item-item.is c.as_u64.ensures in
    absurd (c.in_default.not-Some _ r.1)

pub items-preserved : goal.items-preserved
items-preserved c = λ ids e.
    let r = id_here c.args.items.now ids c.items.item-index c.item-item.result c.as_u64.result e (omega arith) c.item-item.is c.as_u64.ensures in
    ids_more ids c.items.item-index _ _ _ _ (c.items.invariant ids e) c.in_ok-push.ensures.items r.0 r.1 c.in-Some.is
