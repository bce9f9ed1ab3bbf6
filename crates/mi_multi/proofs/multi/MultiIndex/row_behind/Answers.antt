-- The node behind the row's in the list is of the row behind it.
use Rattle.std.proofs.Common.{refl, ◌∙◌}
use Rattle.mi_multi.proofs.CallLemmas.{listed_reaches, between, after_held}
use Rattle.mi_multi.proofs.RelocateCallLemmas.{shows, live_named, row_behind_is}
use Rattle.mi_multi.proofs.multi.MultiIndex.row_behind.Goals as goal

pub structure_at-requires : goal.structure_at-requires
structure_at-requires c = listed_reaches c.self.inside c.self.invariant c.self.view_is
    c.args.index (shows c.args.self.now.shape c.args.index c.requires.index)

pub next-next-requires : goal.next-next-requires
next-next-requires c =
    between c.self.inside c.self.invariant c.self.view_is c.args.index c.structure_at.ensures
    c.args.id refl (live_named c.self.inside c.args.self.now c.self.view_is (record { id = c.args.id; at = c.args.node }) c.requires.row)
    (shows c.args.self.now.shape c.args.index c.requires.index)

pub row_of-requires : goal.row_of-requires
row_of-requires c =
    after_held c.self.inside c.self.invariant c.self.view_is c.args.index c.structure_at.ensures
    c.args.id refl (live_named c.self.inside c.args.self.now c.self.view_is (record { id = c.args.id; at = c.args.node }) c.requires.row)
    c.next-next.ensures

pub returns : goal.returns
returns c =
    c.row_of.ensures
    ∙ row_behind_is c.self.inside c.self.invariant c.args.self.now c.self.view_is c.args.index c.structure_at.result.now c.structure_at.ensures c.requires.index
    (record { id = c.args.id; at = c.args.node }) c.requires.row c.next-next.result c.next-next.ensures
