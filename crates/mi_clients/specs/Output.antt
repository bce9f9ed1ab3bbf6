-- What waits for a socket: of "ab⏎cd⏎", of which the socket has taken two bytes, "⏎cd⏎".
use Rattle.std.specs.Prelude.{◌≡◌, ℕ, List, [], ◌++◌, drop, Option, vec_capacity}
use Rattle.std.specs.Io.KnownBytes.{Appends}
use Rattle.mi_clients.specs.declared.output.Output.{Output}

-- the bytes that the socket hasn't taken
abbrev pub unsent : Output → List ℕ
unsent o = drop o.sent o.bytes.items

-- the bytes that it keeps: those that the socket hasn't taken, and maybe some in front of them that it has
abbrev pub kept : Output → List ℕ
kept o = o.bytes.items

-- nothing waits, and it has no block of memory
abbrev pub HoldsNothing : Output → Type 0
HoldsNothing o = (unsent o ≡ []) × (vec_capacity o.bytes ≡ 0)

-- of these bytes that waited a stream has taken a front, where it tells, and those are left
abbrev pub Sends : {S : Type 0} → (S → Option (List ℕ)) → S → S → List ℕ → List ℕ → Type 0
Sends contents before after old new = (sent : List ℕ) × Appends (contents before) (contents after) sent × (old ≡ sent ++ new)
