-- The first free place is one exactly where it is a place, and no node stands there.
use Rattle.std.proofs.Common.{◌<◌, length, Some, sym, ap, ◌∙◌, subst, arith}
use Rattle.mi_node.specs.Slab.{IsFreeIf}
use Rattle.mi_node.proofs.MapLemmas.{free_less, free_found, at_index}
use Rattle.mi_node.proofs.storage.Storage.has_free.Goals as goal

pub returns-then-place-len-clause-none : goal.returns-then-place-len-clause-none
returns-then-place-len-clause-none g c free =
    let p = c.args.self.now in let less = free_less p.slab p.free free in let past = c.if-place-len.true in let long = c.len.ensures in absurd (omega arith)

pub returns-clause-free : goal.returns-clause-free
returns-clause-free g c found =
    let p = c.args.self.now in let past = c.if-place-len.false in let long = c.len.ensures in let less : p.free < length p.slab = omega arith in
    subst IsFreeIf (sym (at_index p.slab p.free c.at.result.now less ∙ ap Some (sym c.at.ensures))) (c.is_free.ensures.free found)

pub returns-clause-none : goal.returns-clause-none
returns-clause-none g c free =
    let p = c.args.self.now in c.is_free.ensures.held (free_found p.slab p.free c.at.result.now free c.at.ensures)
