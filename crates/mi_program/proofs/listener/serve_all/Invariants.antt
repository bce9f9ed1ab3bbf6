use Rattle.std.proofs.Common.{◌≡◌, ◌<◌, List, length}
use Rattle.mi_hub.specs.ConnectionTurn.{ConnectionTurn}
use Rattle.mi_program.specs.Turns.{ByTurns, first_fault, all_noted, client_ids, AllSound, Serves}
use Rattle.mi_program.proofs.listener.serve_all.Given as goal

-- so many turns are made, and some connection is open
abbrev pub invariant-turns : goal.invariant-turns
invariant-turns g l = record {
  turns : List ConnectionTurn;
  made : ByTurns g.S.Read.remaining g.S.Write.contents l.fn.row.items l.fn.hub turns l.row.items l.hub;
  count : length turns ≡ l._turn;
  first : l.first ≡ first_fault turns;
  some : 0 < length l.row.items;
  noted : l.errors ≡ all_noted turns l.fn.errors;
  sound : AllSound l.row.items;
  served : Serves (client_ids l.row.items) l.hub.attached;
}
