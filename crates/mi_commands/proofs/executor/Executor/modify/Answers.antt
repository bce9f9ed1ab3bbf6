-- The reply is over a table that is there, whether the record changed, was refused or was lost.
use Rattle.std.proofs.Common.{◌<◌, length, subst, sym}
use Rattle.mi_protocol.specs.Replies.{said, IsSaidOf}
use Rattle.mi_protocol.specs.declared.reply.Reply.{Reply}
use Rattle.mi_commands.specs.Holder.{HeldDatabase}
use Rattle.mi_commands.proofs.AnswerLemmas.{modify_refusal_said}
use Rattle.mi_commands.proofs.executor.Executor.modify.Goals as goal
use Rattle.mi_commands.proofs.executor.Executor.modify.Goals.{in-Ok, in-Err}

pub returns-clause-fits : goal.returns-clause-fits
returns-clause-fits g c =
    let there = subst (λ (s : HeldDatabase). c.args.table < length s.database.catalog.tables) (sym c.self.view_is) c.requires.0 in
    let Fits = λ (r : Reply). IsSaidOf (g.D.Sessions.state c.modify.new.self).catalog (said r) in
    elim c.match-modify.branch [
      | in-Ok w ↦ subst Fits (sym w.result-is) tt
      | in-Err w ↦ subst Fits (sym w.result-is)
          (modify_refusal_said (g.D.Sessions.state c.self.inside.database) _ c.args.table w.in-Err.refusal there c.args.id c.args.edits.now c.args.rollback
          w.in-Err.ensures)
    ]
