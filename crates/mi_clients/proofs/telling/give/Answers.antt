-- What was held is handed out, and the text behind it.
use Rattle.std.proofs.Common.{inl, inr, ◌++◌, ◌∙◌, ap}
use Rattle.mi_durable.specs.HeldReplies.{bytes_of}
use Rattle.mi_clients.specs.Output.{unsent}
use Rattle.mi_clients.specs.declared.client.Client.{Client}
use Rattle.mi_clients.proofs.TellLemmas.{owes_given}
use Rattle.mi_clients.proofs.telling.give.Goals as goal

pub returns-clause-owes : goal.returns-clause-owes
returns-clause-owes g c =
    let held = c.take_held-held.ensures.same in
    let put = c.put_behind.ensures.same in
    let released = c.in_ok-released.released.items in
    let same = ap (λ (x : Client _). unsent x.output) held in
    owes_given c.args.text.now released c.args.client.now c.put_behind.new.client c.requires.sound
    (c.in_ok-released.ensures.bytes ∙ c.take_held-held.ensures.held)
    (ap (λ (x : Client _). bytes_of x.held) put ∙ c.take_held-held.ensures.none)
    (ap (λ (x : Client _). x.conn) put ∙ ap (λ (x : Client _). x.conn) held)
    (ap (λ (x : Client _). x.stream) put ∙ ap (λ (x : Client _). x.stream) held)
    (elim c.put_behind.ensures.unsent [
      | inl broken ↦ inl (broken.0, broken.1 ∙ same)
      | inr more ↦ inr (more.0 ∙ ap (λ (x : Client _). x.phase) held, more.1 ∙ ap (λ t. t ++ (released ++ c.args.text.now)) same)
    ])
