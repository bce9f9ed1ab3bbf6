-- A line that is asked, or turned away, is a step, and leaves who is attached.
use Rattle.std.proofs.Common.{◌≡◌, ◌<◌, ◌∙◌, [], ◌∷◌, ◌++◌, not, ◌&&◌, cond, length, drop, sym, ap, subst, append_assoc, arith}
use Rattle.std.proofs.lemmas.List.{length-append}
use Rattle.std.proofs.Math.Seq.{drop-append_seam}
use Rattle.mi_hub.specs.Ended.{ended}
use Rattle.mi_durable.specs.HeldReplies.{bytes_of}
use Rattle.mi_durable.specs.Durable.{hub_of, holder_conn, is_conn}
use Rattle.mi_clients.specs.Input.{waiting, after_line}
use Rattle.mi_clients.specs.Steps.{begins_in}
use Rattle.mi_clients.specs.Output.{unsent}
use Rattle.mi_clients.proofs.StepLemmas.{line_step, line_attached}
use Rattle.mi_clients.proofs.InputLemmas.{unended_drop, count_line}
use Rattle.mi_clients.proofs.TellLemmas.{line_some}
use Rattle.mi_clients.proofs.asking.ask_line.Goals as goal

-- where no line waited none does
pub invariant_of-client-2-clause-all_asked : goal.invariant_of-client-2-clause-all_asked
invariant_of-client-2-clause-all_asked g c = λ is.
    ap ended c.pass.ensures.waiting ∙ unended_drop _ (waiting c.args.client.now.input) (c.args.client.now.all_asked is)

pub returns-clause-one : goal.returns-clause-one
returns-clause-one g c = λ _.
    let ask = c.in_ok-ask_in_room in
    let line = c.in-Some.line.now in
    let at = c.in-Some.ensures in
    let conn = c.args.client.now.conn in
    let lines = c.args.client.now.input.lines in
    let since = c.args.client.now.input.since in
    let began : c.begins_to_hold-begins.result ≡ begins_in conn (hub_of c.args.durable.now) (hub_of c.ask_in_room.new.self) =
    c.begins_to_hold-begins.ensures ∙ ap (λ b. not b && c.holds_some-holds.result) c.holds_some-held.ensures
    ∙ ap (λ b. not (is_conn (holder_conn (hub_of c.args.durable.now).held.holder) conn) && b) c.holds_some-holds.ensures in
    let one = line_step c.args.client.now.conn line (bytes_of c.args.client.now.held) (bytes_of c.ask_in_room.new.replies)
    (hub_of c.args.durable.now) (hub_of c.ask_in_room.new.self) _ _ _ ask.field-0 (sym c.if-is_service.ensures) ask.ensures.asked ask.ensures.turned_away in
    let left : waiting c.pass.new.self ≡ at.1 =
    c.pass.ensures.waiting ∙ ap (drop (length line)) at.2 ∙ drop-append_seam line at.1 in (
      line,
      one.0,
      one.2,
      one.3,
      (subst (λ l. 0 < length l) (sym at.0.1) (omega (arith, length-append at.0.0 (10 ∷ [])))),
      at.2 ∙ ap (λ w. line ++ w) (sym left),
      ap (λ h. unsent c.args.client.now.output ++ h) one.1 ∙ sym (append_assoc (unsent c.args.client.now.output) (bytes_of c.args.client.now.held) one.0),
      one.4,
      one.5,
      c.pass.ensures.lines ∙ sym (count_line lines line at.0),
      c.pass.ensures.since ∙ ap (λ b. cond b (after_line lines) since) began ∙ ap (λ m. cond (begins_in conn (hub_of c.args.durable.now) (hub_of c.ask_in_room.new.self)) m since) (sym (count_line lines line at.0))
          ∙ sym (one.6 lines since (line_some line at.0)),
    )

pub returns-clause-attached : goal.returns-clause-attached
returns-clause-attached g c =
    let ask = c.in_ok-ask_in_room in
    line_attached c.args.client.now.conn c.in-Some.line.now (bytes_of c.args.client.now.held) (bytes_of c.ask_in_room.new.replies)
    (hub_of c.args.durable.now) (hub_of c.ask_in_room.new.self) _ _ _ ask.field-0 c.requires.here ask.ensures.asked ask.ensures.turned_away
