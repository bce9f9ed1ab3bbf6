-- What is told of what a call asks is told of the call.
-- Cited by `Engine::modify_add`, `Engine::told`, `changes` and `sessions`.
use Rattle.std.proofs.Common.{◌≡◌, ℕ, true, false, cond, Result, Ok, Err, inl, inr, refl, sym, ap, ◌∙◌, subst}
use Rattle.mi_value.specs.declared.refusal.Refusal.{Refusal}
use Rattle.mi_value.specs.declared.refusal.Refusal.TheVariants.{Busy, Memory}
use Rattle.mi_protocol.specs.Replies as say
use Rattle.mi_protocol.specs.Replies.{Said}
use Rattle.mi_request.specs.declared.request.SessionCommand.{SessionCommand}
use Rattle.mi_protocol.specs.declared.changes.Change.{Change}
use Rattle.mi_protocol.specs.declared.command.Command.TheVariants as command
use Rattle.mi_request.specs.Answers.{IsAnswer}
use Rattle.mi_commands.specs.Answer.{command_answer}
use Rattle.mi_commands.specs.Holder.{HeldDatabase, is_busy}
use Rattle.mi_commands.specs.Told.{ToldOrMemory, SaysMemory}
use Rattle.mi_embed.specs.State.{EngineState}
use Rattle.mi_embed.specs.declared.call_result.CallResult.{CallResult}
use Rattle.mi_embed.specs.CallResults.{refused}
use Rattle.mi_embed.specs.Calls.{Call, of_table, asked, takes_none, MayAnswer, Tells, TellsChange, TellsStep}

-- a change is asked as it is defined, or refused for want of memory
by_asked : (conn : ℕ) (k : Call) (s t : HeldDatabase) (n : ℕ) (r : Result Change Refusal) (said : Said) → takes_none k ≡ false
    → IsAnswer (of_table command.Change n r) (asked s conn k)
    → ToldOrMemory (Unit {0}) (command_answer s 0 (of_table command.Change n r)) s said t → MayAnswer conn s k said t
by_asked conn k s t n r said may is (inr p) = inr (may, p.1, p.2)
by_asked conn k s t n (Ok x) said may is (inl p) =
    inl (p.0 ∙ ap (λ q. (command_answer s conn q).0) (sym is), p.1 ∙ ap (λ q. (command_answer s conn q).1) (sym is))
by_asked conn k s t n (Err Memory) said may is (inl p) = inr (may, subst SaysMemory (sym p.0) tt, p.1)
by_asked conn k s t n (Err e) said may is (inl p) =
    inl (p.0 ∙ ap (λ q. (command_answer s conn q).0) (sym is), p.1 ∙ ap (λ q. (command_answer s conn q).1) (sym is))

pub tells : (conn : ℕ) (k : Call) (n : ℕ) (r : Result Change Refusal) (told : CallResult) (old new : EngineState) → takes_none k ≡ false
    → IsAnswer (of_table command.Change n r) (asked old.held conn k) → TellsChange n r told old new → Tells conn k told old new
tells conn k n r told old new may is t = (t.0, by_asked conn k old.held new.held n r t.0 may is t.1, t.2, t.3, t.4)

-- a refusal is told, and nothing changes
pub tells_refusal : (n : ℕ) (r : Result Change Refusal) (e : Refusal) (told : CallResult) (s : EngineState) → r ≡ Err e → told ≡ refused e
    → TellsChange n r told s s
tells_refusal n r e told s is told_is = subst (λ q. TellsChange n q told s s) (sym is) (say.refused 0 e, inl (refl, refl), told_is, refl, refl)

pub tells_busy : (conn : ℕ) (x : SessionCommand) (told : CallResult) (s : EngineState) → is_busy s.held.holder conn ≡ true → told ≡ refused Busy
    → TellsStep conn x told s s
tells_busy conn x told s busy is = (
  say.refused 0 Busy,
  inl (
    sym (ap (λ b. (command_answer s.held conn (cond b (Err Busy) (Ok (command.Session x)))).0) busy),
    sym (ap (λ b. (command_answer s.held conn (cond b (Err Busy) (Ok (command.Session x)))).1) busy),
  ),
  is,
  refl,
  refl,
)
