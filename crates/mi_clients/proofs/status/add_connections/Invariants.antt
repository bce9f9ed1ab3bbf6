use Rattle.std.proofs.Common.{◌≡◌, ◌++◌, drop}
use Rattle.std.specs.String.{string_bytes}
use Rattle.mi_clients.specs.Status.{listed, connection_text}
use Rattle.mi_clients.proofs.status.add_connections.Given as goal

-- with those to come all are added
abbrev pub invariant-clients : goal.invariant-clients
invariant-clients g l = string_bytes l.text ++ listed (connection_text l.holder) l.i (drop l.i l.clients) ≡ string_bytes l.fn.text ++ listed (connection_text l.holder) 0 l.clients
