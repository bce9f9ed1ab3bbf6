use Rattle.std.proofs.Common.{◌≡◌, length}
use Rattle.mi_clients.proofs.status.memories_of.Given as goal

-- each table before this one has its memory
abbrev pub invariant-tables : goal.invariant-tables
invariant-tables g l = length l.memories.items ≡ l.i
