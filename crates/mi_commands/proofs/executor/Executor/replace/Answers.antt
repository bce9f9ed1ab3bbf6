-- The reply is over a table that is there, whether the record was set or refused.
use Rattle.std.proofs.Common.{◌<◌, length, subst, sym}
use Rattle.mi_protocol.specs.Replies.{said, IsSaidOf}
use Rattle.mi_protocol.specs.declared.reply.Reply.{Reply}
use Rattle.mi_commands.specs.Holder.{HeldDatabase}
use Rattle.mi_commands.proofs.AnswerLemmas.{replace_refusal_said}
use Rattle.mi_commands.proofs.executor.Executor.replace.Goals as goal
use Rattle.mi_commands.proofs.executor.Executor.replace.Goals.{in-Ok, in-Err+in-Long-1, in-Err+in-Short-1}

pub returns-clause-fits : goal.returns-clause-fits
returns-clause-fits g c =
    let there = subst (λ (s : HeldDatabase). c.args.table < length s.database.catalog.tables) (sym c.self.view_is) c.requires.0 in
    let Fits = λ (r : Reply). IsSaidOf (g.D.Sessions.state c.replace.new.self).catalog (said r) in
    elim c.match-replace.branch [
      | in-Ok w ↦ subst Fits (sym w.result-is) tt
      | in-Err+in-Long-1 w ↦ subst Fits (sym w.result-is) (replace_refusal_said _ _ _ _ there _ _ w.in-Err.ensures.outcome)
      | in-Err+in-Short-1 w ↦ subst Fits (sym w.result-is) (replace_refusal_said _ _ _ _ there _ _ w.in-Err.ensures.outcome)
    ]
