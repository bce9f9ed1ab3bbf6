-- Where a place that was given back is free, the first free place is one.
use Rattle.std.proofs.Common.{sym, subst}
use Rattle.std.specs.Prelude.{IsOk}
use Rattle.mi_node.specs.Pool.{HasSpare}
use Rattle.mi_node.proofs.SpareLemmas.{spare_first}
use Rattle.mi_node.proofs.pool.Pool.take.Goals as goal

pub returns-in-Err-clause-ready : goal.returns-in-Err-clause-ready
returns-in-Err-clause-ready g c h =
    let sound = c.self.invariant in
    subst IsOk c.in-Err.is (c.free_place.ensures.ready (spare_first sound.0 sound.1 (subst HasSpare (sym c.self.view_is) h)))
