-- The last step has the lowest bit, and the others are those of half the number.
use Rattle.std.proofs.Common.{◌≡◌, ◌==◌, suc, ◌-◌, ◌<◌, ◌%◌, length, take, slice_get, Some, sym, ◌∙◌, subst, arith}
use Rattle.std.proofs.lemmas.List.{get_or_default}
use Rattle.mi_tree.specs.PathSteps.{anyone, path_steps_of, AreBits}
use Rattle.mi_tree.proofs.PathStepLemmas.{path_steps_long, popped, last_popped, bits_popped}
use Rattle.mi_tree.proofs.path_steps.Depth.pop.Goals as goal

pub returns-clause-bits : goal.returns-clause-bits
returns-clause-bits c =
    let v = c.args in let e : v.self.len ≡ suc (v.self.len - 1) = omega (arith, c.if-self-eq0.false) in
    bits_popped v.nodes.now v.self.lefts (v.self.len - 1) (subst (λ k. AreBits v.nodes.now (record { lefts = v.self.lefts; len = k })) e c.requires.bits)

pub returns-clause-value : goal.returns-clause-value
returns-clause-value c =
    let v = c.args in let n = v.self.len - 1 in let e : v.self.len ≡ suc n = omega (arith, c.if-self-eq0.false) in
    let long = path_steps_long v.nodes.now v.self.lefts v.self.len in let k : n ≡ length (path_steps_of v.nodes.now v.self.lefts v.self.len) - 1 = omega arith in
    let a = c.requires.bits.0 in let b = c.requires.bits.1 in let low : n < length v.nodes.now = omega arith in
    (λ i. Some (record { node = get_or_default v.nodes.now n c.index-nodes-len.result anyone low i; left = (v.self.lefts % 2 == 1) }))
    ∙ sym (last_popped v.nodes.now v.self.lefts n) ∙ (λ i. slice_get (path_steps_of v.nodes.now v.self.lefts (sym e i)) (k i))

pub returns-clause-rest : goal.returns-clause-rest
returns-clause-rest c =
    let v = c.args in let n = v.self.len - 1 in let e : v.self.len ≡ suc n = omega (arith, c.if-self-eq0.false) in
    let long = path_steps_long v.nodes.now v.self.lefts v.self.len in let k : n ≡ length (path_steps_of v.nodes.now v.self.lefts v.self.len) - 1 = omega arith in
    sym (popped v.nodes.now v.self.lefts n) ∙ (λ i. take (k i) (path_steps_of v.nodes.now v.self.lefts (sym e i)))
