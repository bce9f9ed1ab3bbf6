-- Undone sessions leave the catalog, so the labels are of it still.
use Rattle.std.proofs.Common.{◌≡◌, ap, sym, ◌∙◌, subst, arith}
use Rattle.mi_model.specs.Database.{Database, depth}
use Rattle.mi_protocol.specs.Labels.{AreLabelsOf}
use Rattle.mi_commands.proofs.UndoneLaws.{undone_times_catalog}
use Rattle.mi_commands.proofs.executor.Executor.undo_all.Goals as goal

pub invariant_of-self : goal.invariant_of-self
invariant_of-self g c =
    let state = g.D.Sessions.state in
    let kept : (state c.undo_all-undone.new.self).catalog ≡ (state c.self.inside.database).catalog =
    ap (λ (d : Database). d.catalog) c.undo_all-undone.ensures.state
    ∙ undone_times_catalog (depth (state c.self.inside.database)) (state c.self.inside.database) in
    (omega arith, subst (λ k. AreLabelsOf k c.self.inside.labels) (sym kept) c.self.invariant.1)
