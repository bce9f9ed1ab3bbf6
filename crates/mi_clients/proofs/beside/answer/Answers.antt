-- The first whole line is answered, where one may be.
use Rattle.std.proofs.Common.{◌≡◌, inl, inr, not, ◌++◌, [], length, drop, refl, sym, ap, ◌∙◌, arith}
use Rattle.std.proofs.Math.Seq.{drop-append_seam}
use Rattle.mi_hub.specs.Ended.{ended}
use Rattle.mi_durable.specs.HeldReplies.{bytes_of}
use Rattle.mi_clients.specs.Beside.{is_other}
use Rattle.mi_clients.specs.Input.{waiting}
use Rattle.mi_clients.specs.Output.{unsent}
use Rattle.mi_clients.specs.ServiceLines.{told_beside}
use Rattle.mi_clients.specs.declared.client.Client.{Client}
use Rattle.mi_clients.specs.declared.input.Input.{Input}
use Rattle.mi_clients.proofs.InputLemmas.{unended_drop, count_line}
use Rattle.mi_clients.proofs.TellLemmas.{line_some, ended_some, owes_given}
use Rattle.mi_clients.proofs.BesideLemmas.{answers_none, why_none, owes_then, other_some, shut_broken, shut_behind}
use Rattle.mi_clients.proofs.beside.answer.Goals as goal
use Rattle.mi_clients.proofs.beside.answer.Goals.{then-not-may_ask-via-then-not-may_ask, then-not-may_ask-via-else-not-may_ask+then-not-is_empty}

pub returns-then-not-may_ask : goal.returns-then-not-may_ask
returns-then-not-may_ask g c =
    let old = c.args.client.now in
    answers_none _ _ old old refl refl refl refl refl refl refl (elim c.then-not-may_ask.branch [
      | then-not-may_ask-via-then-not-may_ask w ↦
          why_none old (λ may. grind (arith, w.if-not-may_ask.true, c.may_ask.ensures.may.1 may)) (c.may_ask.ensures.not (grind (arith, w.if-not-may_ask.true)))
      | then-not-may_ask-via-else-not-may_ask+then-not-is_empty w ↦
          inr (inr (inr (λ none. grind (arith, w.if-not-is_empty.true, w.is_empty.ensures.1 none))))
    ])

pub invariant_of-client-2-clause-lines : goal.invariant_of-client-2-clause-lines
invariant_of-client-2-clause-lines g c = λ none.
    ap ended c.pass.ensures.waiting ∙ unended_drop _ (waiting c.args.client.now.input) (c.args.client.now.lines none)

pub invariant_of-client-2-clause-all_asked : goal.invariant_of-client-2-clause-all_asked
invariant_of-client-2-clause-all_asked g c = λ is.
    ap ended c.pass.ensures.waiting ∙ unended_drop _ (waiting c.args.client.now.input) (c.args.client.now.all_asked is)

pub returns : goal.returns
returns g c =
    let old = c.args.client.now in
    let put = c.put_behind.new.client in
    let new = c.shut_unless.new.client in
    let given = c.put_behind.ensures.same in
    let shut = c.shut_unless.ensures.same in
    let line = c.in-Some.line.now in
    let at = c.in-Some.ensures in
    let text = c.told_beside-text.result.now in
    let may = c.may_ask.ensures.may.0 (grind (arith, c.if-not-may_ask.false)) in
    let empty : bytes_of old.held ≡ [] = c.is_empty.ensures.0 (grind (arith, c.if-not-is_empty.false)) in
    let left : waiting c.pass.new.self ≡ at.1 = c.pass.ensures.waiting ∙ ap (drop (length line)) at.2 ∙ drop-append_seam line at.1 in
    let input : new.input ≡ c.pass.new.self = c.shut_unless.ensures.input ∙ c.put_behind.ensures.input in
    let put_held : put.held ≡ old.held = ap (λ (x : Client _). x.held) given in
    let shut_held : new.held ≡ put.held = ap (λ (x : Client _). x.held) shut in record {
      line = line;
      text = text;
      tells = inr (at.0, c.told_beside-text.ensures ∙ ap (λ s. told_beside c.args.status.now s line) c.as_slice.ensures);
      owes = owes_then text old put new
          (owes_given text c.new.result.items old put may.0 (c.new.ensures.items ∙ sym empty) (ap bytes_of put_held ∙ empty)
          (ap (λ (x : Client _). x.conn) given) (ap (λ (x : Client _). x.stream) given) c.put_behind.ensures.unsent)
          (ap (λ (x : Client _). x.conn) shut) (ap (λ (x : Client _). x.stream) shut)
          (ap (λ (x : Client _). unsent x.output ++ bytes_of x.held) shut)
          (shut_broken c.is_service-own.result put.phase new.phase c.shut_unless.ensures.phase);
      far = elim c.put_behind.ensures.unsent [
        | inl broken ↦ inl (shut_broken c.is_service-own.result put.phase new.phase c.shut_unless.ensures.phase broken.0)
        | inr more ↦ inr (shut_behind c.is_service-own.result (is_other line) old.phase put.phase new.phase
            (other_some line (line_some line at.0) ∙ ap not (sym c.is_service-own.ensures)) c.shut_unless.ensures.phase more.0)
      ];
      waits = at.2 ∙ ap (λ t. line ++ t) (sym (ap waiting input ∙ left));
      first = ap (λ (i : Input). i.is_first) input ∙ c.pass.ensures.first;
      counts = ap (λ (i : Input). i.lines) input ∙ c.pass.ensures.lines ∙ sym (count_line old.input.lines line at.0);
      held = shut_held ∙ put_held;
      ends = ap (λ (x : Client _). x.ends) shut ∙ ap (λ (x : Client _). x.ends) given ∙ c.ended_in-ends.ensures ∙ ended_some old.ends line (line_some line at.0);
      sound = λ broken. absurd (may.0 broken);
      none = λ is. absurd (line_some line at.0 is);
    }
