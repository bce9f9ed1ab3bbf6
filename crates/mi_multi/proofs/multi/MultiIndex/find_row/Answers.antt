-- The first node of the key in its structure is of the first row of the key.
use Rattle.std.proofs.Common.{◌+◌, ◌*◌, ◌∙◌}
use Rattle.mi_value.specs.declared.bound.Probe.TheVariants.{Key}
use Rattle.mi_multi.proofs.CallLemmas.{few_steps}
use Rattle.mi_multi.proofs.KeyCallLemmas.{keyed_reaches, in_some, sought_held, sought_live, find_is}
use Rattle.mi_multi.proofs.WalkLemmas.{lent_id, lent_row}
use Rattle.mi_multi.proofs.multi.MultiIndex.find_row.Goals as goal

pub structure_at-structure-requires : goal.structure_at-structure-requires
structure_at-structure-requires c = keyed_reaches c.self.inside c.self.invariant c.self.view_is c.args.index c.requires.index

pub find-node-requires : goal.find-node-requires
find-node-requires c = in_some c.self.inside c.self.invariant c.self.view_is c.args.index c.structure_at-structure.ensures

pub row_in-requires : goal.row_in-requires
row_in-requires c =
    sought_held c.self.inside c.self.invariant c.self.view_is c.args.index c.structure_at-structure.ensures (Key c.args.key) c.find-node.ensures.node

pub returns-clause-id : goal.returns-clause-id
returns-clause-id c =
    let at = c.structure_at-structure.ensures in
    lent_id c.self.inside c.self.invariant c.self.view_is c.args.index at (λ r. (r.0, r.1.now)) c.row_in.result c.find-node.result
    (sought_live c.self.inside c.self.invariant c.self.view_is c.args.index at (Key c.args.key) c.find-node.ensures.node) c.row_in.ensures
    ∙ find_is c.self.inside c.self.invariant c.self.view_is c.args.index at c.args.key c.keeps_rules.ensures
    c.requires.index c.requires.key c.find-node.ensures.node

pub returns-clause-row : goal.returns-clause-row
returns-clause-row c =
    let at = c.structure_at-structure.ensures in
    lent_row c.self.inside c.self.invariant c.self.view_is c.args.index at (λ r. (r.0, r.1.now)) c.row_in.result c.find-node.result
    (sought_live c.self.inside c.self.invariant c.self.view_is c.args.index at (Key c.args.key) c.find-node.ensures.node) c.row_in.ensures

pub returns-clause-steps : goal.returns-clause-steps
returns-clause-steps c =
    few_steps c.self.inside c.self.invariant c.self.view_is c.args.index c.structure_at-structure.ensures
    (λ b. 2 * b + 1) c.args.steps.now.count c.find-node.ensures.steps
