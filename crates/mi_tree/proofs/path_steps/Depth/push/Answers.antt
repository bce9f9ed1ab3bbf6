-- The step is the last, and its side the lowest bit.
use Rattle.std.proofs.Common.{◌≡◌, suc, ◌+◌, ◌*◌, ◌<◌, slice_set, ◌∙◌, arith}
use Rattle.mi_tree.specs.PathSteps.{path_steps_of}
use Rattle.mi_tree.specs.declared.walk.TheConstants.{MAX_LEVELS}
use Rattle.mi_tree.proofs.PathStepLemmas.{path_steps_long, pushed}
use Rattle.mi_tree.proofs.path_steps.Depth.push.Goals as goal

pub returns-clause-items : goal.returns-clause-items
returns-clause-items c =
    let v = c.args in let e : v.self.len + 1 ≡ suc v.self.len = omega arith in
    let long = path_steps_long v.nodes.now v.self.lefts v.self.len in let room : v.self.len < MAX_LEVELS = omega (arith, c.requires.room) in
    (λ i. path_steps_of (slice_set v.nodes.now v.self.len v.path_step.node) (v.self.lefts * 2 + c.from.ensures i) (e i))
    ∙ pushed v.nodes.now v.self.lefts v.self.len v.path_step c.requires.bits room
