-- Each by computation.
-- Cited by `examples::break_is_an_undo`, `examples::front_holds_the_session` and `examples::push_is_kept`.
use Rattle.std.proofs.Common.{[], ◌∷◌, refl, inl, inr}
use Rattle.std.specs.Fmt.{digits}
use Rattle.std.specs.Str.{is_utf8, chars}
use Rattle.serde_json.proofs.OnLiterals.{serde_json_on_literals}
use Rattle.mi_request.specs.NullaryCommand.{nullary_named}
use Rattle.mi_request.specs.Commands.{look_up_named, step_named}
use Rattle.mi_request.specs.Json.{has_only}
use Rattle.mi_commands.specs.Answer.{answer}
use Rattle.mi_model.specs.Examples.{start_state}
use Rattle.mi_replay.specs.Journal.{undo_line}
use Rattle.mi_replay.specs.Replayed.{unheld}
use Rattle.mi_replay.specs.Examples.{start_line, insert_line, FrontHoldsTheSession, BreakIsAnUndo, PushIsKept}

pub front_holds : FrontHoldsTheSession
unfolding serde_json_on_literals is_utf8 chars has_only nullary_named step_named look_up_named
front_holds = (refl, refl, refl)

pub break_is_an_undo : BreakIsAnUndo
unfolding digits serde_json_on_literals is_utf8 chars has_only nullary_named step_named look_up_named
break_is_an_undo =
    let open_then = (answer (unheld start_state) 2 start_line).1 in
    let added = (answer open_then 2 insert_line).1 in (
      open_then,
      start_line ∷ [],
      insert_line ∷ undo_line ∷ [],
      inl (refl, refl),
      inr (refl, refl, refl),
      (
        added,
        insert_line ∷ [],
        undo_line ∷ [],
        inl (refl, refl),
        inr (refl, refl, refl),
        (
          added,
          [],
          undo_line ∷ [],
          inl (refl, refl),
          inl (refl, refl),
          (unheld start_state, undo_line ∷ [], [], refl, refl, (refl, refl), refl),
          refl,
        ),
        refl,
      ),
      refl,
    )

pub push_is_kept : PushIsKept
unfolding serde_json_on_literals is_utf8 chars has_only nullary_named step_named look_up_named
push_is_kept = (refl, refl, refl)
