-- The node of a rank is of the row of that rank.
use Rattle.std.proofs.Common.{◌∙◌, arith}
use Rattle.mi_multi.proofs.CallLemmas.{sorted_reaches, in_order, nth_past, nth_held, nth_live, nth_is}
use Rattle.mi_multi.proofs.WalkLemmas.{lent_id, lent_row}
use Rattle.mi_multi.proofs.multi.MultiIndex.nth_row.Goals as goal

pub structure_at-structure-requires : goal.structure_at-structure-requires
structure_at-structure-requires c = sorted_reaches c.self.inside c.self.invariant c.self.view_is c.args.index c.requires

pub returns-then-n-clause-id : goal.returns-then-n-clause-id
returns-then-n-clause-id c =
    nth_past c.self.inside c.self.invariant c.self.view_is c.args.index c.structure_at-structure.ensures c.args.n c.requires
    (let l = c.if-n.true in omega arith)

pub nth-found-requires : goal.nth-found-requires
nth-found-requires c = in_order c.self.inside c.self.invariant c.self.view_is c.args.index c.structure_at-structure.ensures c.requires

pub row_in-requires : goal.row_in-requires
row_in-requires c = nth_held c.self.inside c.self.invariant c.self.view_is c.args.index c.structure_at-structure.ensures c.args.n c.nth-found.ensures

pub returns-clause-id : goal.returns-clause-id
returns-clause-id c =
    let at = c.structure_at-structure.ensures in
    lent_id c.self.inside c.self.invariant c.self.view_is c.args.index at (λ r. (r.0, r.1.now)) c.row_in.result c.nth-found.result
    (nth_live c.self.inside c.self.invariant c.self.view_is c.args.index at c.args.n c.nth-found.ensures) c.row_in.ensures
    ∙ nth_is c.self.inside c.self.invariant c.self.view_is c.args.index at c.args.n c.nth-found.ensures

pub returns-clause-row : goal.returns-clause-row
returns-clause-row c =
    let at = c.structure_at-structure.ensures in
    lent_row c.self.inside c.self.invariant c.self.view_is c.args.index at (λ r. (r.0, r.1.now)) c.row_in.result c.nth-found.result
    (nth_live c.self.inside c.self.invariant c.self.view_is c.args.index at c.args.n c.nth-found.ensures) c.row_in.ensures
