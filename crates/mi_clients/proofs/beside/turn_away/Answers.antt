-- It is told that there is no place for it, behind what it is owed.
use Rattle.std.proofs.Common.{◌≡◌, inl, inr, false, ◌++◌, [], refl, sym, ap, ◌∙◌}
use Rattle.mi_durable.specs.HeldReplies.{bytes_of}
use Rattle.mi_clients.specs.Output.{unsent}
use Rattle.mi_clients.specs.ServiceLines.{places_line}
use Rattle.mi_clients.specs.declared.client.Client.{Client}
use Rattle.mi_clients.proofs.TellLemmas.{owes_given}
use Rattle.mi_clients.proofs.BesideLemmas.{owes_then, shut_broken, open_sound, shut_open_one}
use Rattle.mi_clients.proofs.beside.turn_away.Goals as goal

pub returns : goal.returns
returns g c =
    let old = c.args.client.now in
    let put = c.put_behind.new.client in
    let new = c.shut_unless.new.client in
    let given = c.put_behind.ensures.same in
    let shut = c.shut_unless.ensures.same in
    let put_held : put.held ≡ old.held = ap (λ (x : Client _). x.held) given in
    let breaks = shut_broken false put.phase new.phase c.shut_unless.ensures.phase in record {
      owes = owes_then places_line old put new
          (owes_given places_line c.new.result.items old put (open_sound old.phase c.requires.more) (c.new.ensures.items ∙ sym c.requires.none)
          (ap bytes_of put_held ∙ c.requires.none) (ap (λ (x : Client _). x.conn) given) (ap (λ (x : Client _). x.stream) given)
          c.put_behind.ensures.unsent)
          (ap (λ (x : Client _). x.conn) shut) (ap (λ (x : Client _). x.stream) shut)
          (ap (λ (x : Client _). unsent x.output ++ bytes_of x.held) shut) breaks;
      phase = elim c.put_behind.ensures.unsent [
        | inl broken ↦ inl (breaks broken.0)
        | inr more ↦ inr (shut_open_one put.phase new.phase c.shut_unless.ensures.phase (more.0 ∙ c.requires.more))
      ];
      input = c.shut_unless.ensures.input ∙ c.put_behind.ensures.input;
      held = ap (λ (x : Client _). x.held) shut ∙ put_held;
      ends = ap (λ (x : Client _). x.ends) shut ∙ ap (λ (x : Client _). x.ends) given;
    }
