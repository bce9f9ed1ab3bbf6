-- Nothing is owed only where none is held.
use Rattle.mi_durable.specs.HeldReplies.{bytes_of}
use Rattle.mi_clients.specs.Output.{unsent}
use Rattle.mi_clients.proofs.ClientsLemmas.{true_false, back_none}
use Rattle.mi_clients.proofs.client.Client.owes_nothing.Goals as goal

pub returns-else-is_empty : goal.returns-else-is_empty
returns-else-is_empty g c =
    let client = c.args.self.now in (
      λ is. absurd (true_false c.is_empty.result is c.if-is_empty.false),
      λ none. c.is_empty.ensures.1 (back_none (unsent client.output) (bytes_of client.held) none),
    )
