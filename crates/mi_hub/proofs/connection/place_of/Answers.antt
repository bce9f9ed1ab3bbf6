-- The connections that were passed over have other numbers.
use Rattle.std.proofs.Common.{arith}
use Rattle.mi_hub.proofs.ConnectionLemmas.{there, not_there, same_at}
use Rattle.mi_hub.proofs.connection.place_of.Goals as goal

pub returns-then-connection-conn : goal.returns-then-connection-conn
returns-then-connection-conn c =
    there _ _ _ c.loop-i-test.true (same_at _ _ _ _ c.loop-i-test.true c.index-connections-i.is c.if-connection-conn.true) c.loop-i.invariant

pub returns : goal.returns
returns c = not_there _ _ (λ k d lt. c.loop-i.invariant k d (omega (arith, lt, c.loop-i-test.false)))
