-- The answer is the executor's, and whoever holds sessions is attached still.
use Rattle.std.proofs.Common.{◌≡◌, ℕ, List, ◌++◌, Bool, Result, ap, sym, ◌∙◌, subst, IsSome}
use Rattle.std.specs.Prelude.{IfOk}
use Rattle.std.specs.declared.alloc.AllocError.{AllocError}
use Rattle.mi_commands.specs.Asked.{asked_of}
use Rattle.mi_commands.specs.Answer.{MayAnswer}
use Rattle.mi_hub.specs.Connections.{rest_at}
use Rattle.mi_hub.specs.Run.{HubState}
use Rattle.mi_hub.specs.Served.{with_newline}
use Rattle.mi_hub.proofs.HolderLemmas.{by_reply}
use Rattle.mi_hub.proofs.hub.Hub.ask.Goals as goal
use Rattle.mi_hub.proofs.hub.Hub.ask.Goals.{in-Ok, in-Err}

pub invariant_of-self : goal.invariant_of-self
invariant_of-self g c =
    by_reply c.self.inside.connections.items c.args.conn
    (subst (λ (s : HubState). IsSome (rest_at c.args.conn s.attached)) (sym c.self.view_is) c.requires)
    c.self.inside.executor c.answer-changed.new.self (asked_of c.args.line) c.answer-changed.new.out c.answer-changed.ensures.given c.self.invariant

pub returns-clause-ok : goal.returns-clause-ok
returns-clause-ok g c =
    let asked = subst (λ (s : HubState). MayAnswer c.args.conn s.held (asked_of c.args.line) c.answer-changed.new.out c.answer-changed.result
    c.answer-changed.new.self) c.self.view_is c.answer-changed.ensures.changed in
    let Told = λ (r : Result Bool AllocError). IfOk r (λ changed. (reply : List ℕ)
    × (c.extend_from_slice.new.self.items ≡ c.args.replies.now.items ++ with_newline reply)
    × MayAnswer c.args.conn c.args.self.now.held (asked_of c.args.line) reply changed c.answer-changed.new.self) in
    elim c.match-extend_from_slice.branch [
      | in-Ok w ↦ subst Told (sym w.result-is) (
        c.answer-changed.new.out,
        w.in-Ok.ensures.items ∙ ap (λ t. c.args.replies.now.items ++ t) c.line.ensures,
        asked,
      )
      | in-Err w ↦ subst Told (sym w.result-is) tt
    ]
