-- One read gives one turn, which is made; what its stream met is noted.
use Rattle.std.proofs.Common.{◌≡◌, ◌∙◌, ◌<◌, [], length, None, Result, Bool, ap, refl, subst, sym, true, false, arith}
use Rattle.std.proofs.KnownBytes.{Consumes-kept, Consumes-nil}
use Rattle.std.specs.Prelude.{OnOk, OnErr}
use Rattle.std.proofs.lemmas.Result.{on_ok_weaker}
use Rattle.mi_hub.specs.ConnectionTurn.{Gave}
use Rattle.mi_hub.specs.Watching.{has_failed}
use Rattle.mi_hub.proofs.TurnLemmas.{gave_read}
use Rattle.mi_program.specs.Buffer.{remaining_of}
use Rattle.mi_hub.specs.IoNotes.{with_write}
use Rattle.mi_hub.specs.declared.fault.ServeFault.{ServeFault}
use Rattle.mi_program.specs.Turns.{with_turn}
use Rattle.mi_program.proofs.TurnLemmas.{client_turned, answered_fault, written_noted, on_err_kept, on_err_of}
use Rattle.mi_program.proofs.listener.client_turn.Goals as goal

pub returns-in-Ok-clause-turn : goal.returns-in-Ok-clause-turn
returns-in-Ok-clause-turn g c =
    let made = c.take_turn-is_open.ensures.turn in
    let gives = remaining_of g.S.Read.remaining in
    let room : 0 < length c.read_from.new.buf = omega (arith, c.requires.room, c.read_from.auto.buf) in
    client_turned g.S.Read.remaining g.S.Write.contents _ _ c.read_from.new.stream _ _ _ _ refl made
    (gave_read gives c.args.client.now.stream c.read_from.new.stream _ c.read_from.new.buf c.in-Ok.n refl c.in-Ok.ensures.bound.0 room c.in-Ok.ensures.bytes)
    (on_err_kept _ _ _ (answered_fault made.0 _ _ _ made.3 made.4 c.take_turn-is_open.ensures.write))

pub returns-in-Ok-clause-failed : goal.returns-in-Ok-clause-failed
returns-in-Ok-clause-failed g c =
    let made = c.take_turn-is_open.ensures.turn in
    on_err_kept _ _ _ (answered_fault made.0 _ _ _ made.3 made.4 c.take_turn-is_open.ensures.write)

pub returns-in-Ok-clause-sound : goal.returns-in-Ok-clause-sound
returns-in-Ok-clause-sound g c = on_ok_weaker c.take_turn-is_open.result (λ e. e ∙ c.in-Ok.ensures.failed) c.take_turn-is_open.ensures.sound

pub returns-in-Ok-clause-noted : goal.returns-in-Ok-clause-noted
returns-in-Ok-clause-noted g c =
    let made = c.take_turn-is_open.ensures.turn in
    let failed = has_failed c.take_turn-is_open.new.writer in
    c.note_write.ensures ∙ ap (with_write failed) c.in-Ok.ensures.noted
    ∙ written_noted c.take_turn-is_open.result failed c.args.errors.now
    (on_ok_weaker c.take_turn-is_open.result (λ e. e ∙ c.in-Ok.ensures.failed) c.take_turn-is_open.ensures.sound)
    (answered_fault made.0 _ _ _ made.3 made.4 c.take_turn-is_open.ensures.write)

pub returns-in-Err-clause-turn : goal.returns-in-Err-clause-turn
returns-in-Err-clause-turn g c =
    let gave : Gave (remaining_of g.S.Read.remaining) c.args.client.now.stream c.read_from.new.stream None =
    (Consumes-kept _ _ _ [] (Consumes-nil _) c.in-Err.ensures.bytes, c.in-Err.ensures.failed) in
    client_turned g.S.Read.remaining g.S.Write.contents _ _ c.read_from.new.stream _ _ _ _ refl c.take_turn.ensures.turn gave
    (on_err_of _ _ (ap has_failed (c.take_turn.ensures.unread (c.take_turn.ensures.read.1 refl)) ∙ c.in-Err.ensures.failed))

pub returns-in-Err-clause-failed : goal.returns-in-Err-clause-failed
returns-in-Err-clause-failed g c =
    let fault = c.take_turn.ensures.read.1 refl in
    on_err_of _ _ (ap has_failed (c.take_turn.ensures.unread fault) ∙ c.in-Err.ensures.failed)

pub returns-in-Err-clause-sound : goal.returns-in-Err-clause-sound
returns-in-Err-clause-sound g c =
    subst (λ (r : Result Bool ServeFault). OnOk r (has_failed c.take_turn.new.writer ≡ false)) (sym (c.take_turn.ensures.read.1 refl)) tt

pub returns-in-Err-clause-noted : goal.returns-in-Err-clause-noted
returns-in-Err-clause-noted g c = c.in-Err.ensures.noted ∙ sym (ap (λ r. with_turn r c.args.errors.now) (c.take_turn.ensures.read.1 refl))
