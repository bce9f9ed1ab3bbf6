use Rattle.std.proofs.Common.{◌≡◌, ℕ, ◌<◌, get_or}
use Rattle.mi_hub.specs.declared.connection.Connection.{Connection}
use Rattle.mi_hub.proofs.connection.place_of.Given as goal

-- none so far
abbrev pub invariant-loop-i : goal.invariant-loop-i
invariant-loop-i l = (k : ℕ) (d : Connection) → k < l.i → (get_or l.connections k d).id ≡ l.conn → ⊥
