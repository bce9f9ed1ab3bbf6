-- Nodes that were taken before are held when another is taken.
use Rattle.std.proofs.Common.{ap, ◌∙◌}
use Rattle.mi_node.specs.Pool.{Pooled}
use Rattle.mi_node.proofs.EntryLemmas.{apart_of_free, slots-taken}
use Rattle.test_storage.proofs.TakeLemmas.{held_now, held_then}
use Rattle.test_storage.proofs.tests.nodes.take_three.Goals as goal

pub returns-clause-held : goal.returns-clause-held
returns-clause-held g c =
    let one = held_now _ _ _ c.take-one.ensures.pool in let two = held_now _ _ _ c.take-two.ensures.pool in
    let last = c.take-three.ensures.pool in let free = c.take-three.ensures.free in
    (held_then _ _ _ last free (held_then _ _ _ c.take-two.ensures.pool c.take-two.ensures.free one), held_then _ _ _ last free two, held_now _ _ _ last)

pub returns-clause-second : goal.returns-clause-second
returns-clause-second g c =
    apart_of_free c.take-one.new.pool c.take-one.result c.take-two.result (held_now _ _ _ c.take-one.ensures.pool) c.take-two.ensures.free

pub returns-clause-third : goal.returns-clause-third
returns-clause-third g c =
    let one = held_then _ _ _ c.take-two.ensures.pool c.take-two.ensures.free (held_now _ _ _ c.take-one.ensures.pool) in
    apart_of_free c.take-two.new.pool c.take-one.result c.take-three.result one c.take-three.ensures.free

pub returns-clause-last : goal.returns-clause-last
returns-clause-last g c =
    apart_of_free c.take-two.new.pool c.take-two.result c.take-three.result (held_now _ _ _ c.take-two.ensures.pool) c.take-three.ensures.free

pub returns-clause-slots : goal.returns-clause-slots
returns-clause-slots g c =
    let m = c.take-one.new.pool in let n = c.take-two.new.pool in
    ap (λ (z : Pooled _). z.slots) c.take-three.ensures.pool ∙ slots-taken n c.take-three.result _
    ∙ ap (λ (z : Pooled _). z.slots) c.take-two.ensures.pool ∙ slots-taken m c.take-two.result _
    ∙ ap (λ (z : Pooled _). z.slots) c.take-one.ensures.pool ∙ slots-taken c.args.pool.now c.take-one.result _
