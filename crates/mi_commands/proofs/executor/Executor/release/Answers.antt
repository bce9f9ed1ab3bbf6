-- As many sessions are undone as the connection holds; undone sessions leave the catalog, so the labels are of it still.
use Rattle.std.proofs.Common.{◌≡◌, ◌≤◌, ap, sym, ◌∙◌, subst, rules}
use Rattle.mi_model.specs.Database.{Database, depth, undone_times}
use Rattle.mi_protocol.specs.Labels.{AreLabelsOf}
use Rattle.mi_commands.specs.Holder.{held_count}
use Rattle.mi_commands.proofs.UndoneLaws.{undone_times_catalog}
use Rattle.mi_commands.proofs.executor.Executor.release.Goals as goal

pub invariant_of-self : goal.invariant_of-self
invariant_of-self g c =
    let state = g.D.Sessions.state in
    let kept : (state c.undo_times.new.database).catalog ≡ (state c.self.inside.database).catalog =
    ap (λ (d : Database). d.catalog) c.undo_times.ensures
    ∙ undone_times_catalog c.held_by-count.result (state c.self.inside.database) in
    let within : held_count c.without_holder-self-inside.result ≤ depth (state c.undo_times.new.database) = search rules in
    (within, subst (λ k. AreLabelsOf k c.self.inside.labels) (sym kept) c.self.invariant.1)

pub returns : goal.returns
returns g c =
    let state = g.D.Sessions.state in
    let undone : state c.undo_times.new.database ≡ undone_times c.held_by-count.result (state c.self.inside.database) = c.undo_times.ensures in
    search rules
