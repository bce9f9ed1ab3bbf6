use Rattle.std.proofs.Common.{◌≡◌, None, length}
use Rattle.mi_program.specs.Turns.{client_ids, Serves}
use Rattle.mi_program.proofs.listener.cut_all.Given as goal

-- those that are left are attached, and where nobody held sessions nothing else has changed
abbrev pub invariant-row : goal.invariant-row
invariant-row g l = record {
  served : Serves (client_ids l.row.items) l.hub.attached;
  held : l.fn.hub.held.holder ≡ None → l.hub.held ≡ l.fn.hub.held;
}

abbrev pub decreases-row : goal.decreases-row
decreases-row g l = length l.row.items
