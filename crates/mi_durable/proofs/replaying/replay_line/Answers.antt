-- The reply is all that was asked for, and the line is one that a replay takes.
use Rattle.std.proofs.Common.{◌≡◌, ◌⊎◌, ◌++◌, [], ◌∙◌, sym, ap, subst}
use Rattle.std.proofs.lemmas.Result.{on_ok_weaker}
use Rattle.mi_hub.specs.Connections.{rest_at}
use Rattle.mi_hub.specs.Lines.{lines_of}
use Rattle.mi_replay.specs.Replayed.{replayer}
use Rattle.mi_durable.specs.Replay.{IsTaken, IsForMemory}
use Rattle.mi_durable.proofs.JournalLemmas.{replayed_by}
use Rattle.mi_durable.proofs.replaying.replay_line.Goals as goal

pub returns-in-Ok-clause-ok : goal.returns-in-Ok-clause-ok
returns-in-Ok-clause-ok g c =
    let asked = c.in-Ok.ensures.ok in
    let none : c.new-reply.result.items ≡ [] = cc in
    let all : c.ask_line.new.replies.items ≡ asked.0 = asked.1 ∙ ap (λ t. t ++ asked.0) none in
    let seen : c.as_slice.result.now ≡ asked.0 = cc in
    on_ok_weaker c.judge.result (λ taken.
    replayed_by (lines_of c.args.line.now) asked.0 c.in-Ok.changed c.args.hub.now.held c.ask_line.new.self.held asked.2.answered
    (subst (λ t. IsTaken c.in-Ok.changed t) seen taken)) c.judge.ensures.ok

pub returns-in-Ok-clause-taken : goal.returns-in-Ok-clause-taken
returns-in-Ok-clause-taken g c =
    let asked = c.in-Ok.ensures.ok in
    let none : c.new-reply.result.items ≡ [] = cc in
    let all : c.ask_line.new.replies.items ≡ asked.0 = asked.1 ∙ ap (λ t. t ++ asked.0) none in
    let seen : c.as_slice.result.now ≡ asked.0 = cc in
    on_ok_weaker c.judge.result (λ taken. (asked.0, c.in-Ok.changed, asked.2, subst (λ t. IsTaken c.in-Ok.changed t) seen taken)) c.judge.ensures.ok

pub returns-in-Ok-clause-refused : goal.returns-in-Ok-clause-refused
returns-in-Ok-clause-refused g c =
    let asked = c.in-Ok.ensures.ok in
    let none : c.new-reply.result.items ≡ [] = cc in
    let all : c.ask_line.new.replies.items ≡ asked.0 = asked.1 ∙ ap (λ t. t ++ asked.0) none in
    let seen : c.as_slice.result.now ≡ asked.0 = cc in
    λ is. (
      asked.0,
      c.in-Ok.changed,
      asked.2,
      λ h. c.judge.ensures.refused is (subst (λ t. IsTaken c.in-Ok.changed t ⊎ IsForMemory t) (sym seen) h),
    )

pub returns-in-Ok-clause-still : goal.returns-in-Ok-clause-still
returns-in-Ok-clause-still g c =
    on_ok_weaker c.judge.result (λ taken. ap (rest_at replayer) c.ask_line.ensures.attached ∙ c.requires.attached) c.judge.ensures.ok

pub returns-in-Ok-clause-attached : goal.returns-in-Ok-clause-attached
returns-in-Ok-clause-attached g c = on_ok_weaker c.judge.result (λ taken. c.ask_line.ensures.attached) c.judge.ensures.ok
