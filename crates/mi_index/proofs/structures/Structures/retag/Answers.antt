-- The slice is the list of the structures.
use Rattle.std.proofs.Common.{ap, ◌∙◌, subst}
use Rattle.mi_index.specs.Indexed.{Indexed}
use Rattle.mi_index.specs.Keeping.{AreRetagged, retags}
use Rattle.mi_index.specs.Places.{stamp_for}
use Rattle.mi_index.proofs.KeepingLemmas.{none_retagged}
use Rattle.mi_index.proofs.structures.Structures.retag.Goals as goal

pub returns-clause-own : goal.returns-clause-own
returns-clause-own c v is =
    subst (λ xs. AreRetagged (retags c.args.kept.now (λ s. stamp_for c.args.moves.now s c.args.stamp)) c.args.node v xs 0 c.args.p.now c.retag_all.new.p)
    (c.as_slice.ensures.value ∙ ap (λ (z : Indexed). z.items) c.self.view_is) (c.retag_all.ensures.own v is)

pub returns-then-keeps_none-clause-own : goal.returns-then-keeps_none-clause-own
returns-then-keeps_none-clause-own c v is =
    none_retagged c.args.kept.now (c.keeps_none.ensures c.if-keeps_none.true) (λ s. stamp_for c.args.moves.now s c.args.stamp)
    c.args.node v c.args.self.now.items 0 c.args.p.now
